use Rattle.std.proofs.Common.{Bool, ◌&&◌, sym, ap, ◌∙◌}
use Rattle.std.specs.List.{list_any}
use Rattle.replica.specs.Versions.{is_write}
use Rattle.replica.proofs.Shared.{shared_by}
use Rattle.replica.proofs.choice.is_shared.Goals as goal

pub returns-then-has_other : goal.returns-then-has_other
returns-then-has_other c =
    let ts = c.args.touches.now in
    c.has_write.ensures ∙ ap (λ (b : Bool). b && list_any is_write ts) (sym c.if-has_other.true ∙ c.has_other.ensures) ∙ sym (shared_by ts c.in-Some.first.now (sym c.in-Some.ensures.value))

pub returns-else-has_other : goal.returns-else-has_other
returns-else-has_other c =
    let ts = c.args.touches.now in
    c.if-has_other.false ∙ ap (λ (b : Bool). b && list_any is_write ts) (sym c.if-has_other.false ∙ c.has_other.ensures) ∙ sym (shared_by ts c.in-Some.first.now (sym c.in-Some.ensures.value))
