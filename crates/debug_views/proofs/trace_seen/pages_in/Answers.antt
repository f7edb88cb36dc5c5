use Rattle.std.proofs.Common.{ℕ, ap, ◌∙◌}
use Rattle.block_objects.specs.Objects.{ObjectAt, value_pages}
use Rattle.debug_views.proofs.trace_seen.pages_in.Goals as goal

pub returns : goal.returns
returns c = c.pages.ensures ∙ ap (λ (values : ℕ → ObjectAt). value_pages (values 0)) c.space.ensures.values
