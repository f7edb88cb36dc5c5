use Rattle.std.proofs.Common.{ℕ, replicate, get_or, ◌≡◌, zero, suc, refl, ap, ◌∙◌}
use Rattle.std.proofs.Math.Path.{fun_ext}
use Rattle.block_objects.specs.Memory.{MemoryAt}
use Rattle.block_objects.specs.Objects.{object_value}
use Rattle.block_objects.specs.Queues.{no_waiters}
use Rattle.waiter_queues.specs.Shared.{shared_values}
use Rattle.waiter_queues.proofs.space.SharedSpace.new.Goals as goal

nobody : (n b : ℕ) → get_or (replicate n no_waiters) b no_waiters ≡ no_waiters
nobody zero b = refl
nobody (suc n) zero = refl
nobody (suc n) (suc b) = nobody n b

pub returns-clause-values : goal.returns-clause-values
returns-clause-values c =
    ap (shared_values c.in_ok-blocks.blocks) c.in_ok-queues.ensures
    ∙ ap (object_value c.in_ok-blocks.blocks.limits.block c.in_ok-blocks.blocks.pages c.in_ok-blocks.blocks.bytes) (fun_ext (nobody c.count.result))
    ∙ ap (λ (m : MemoryAt). object_value m.limits.block m.pages m.bytes (λ b. no_waiters)) c.in_ok-blocks.ensures
