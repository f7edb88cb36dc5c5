-- No seat rests where each can go on.
use Rattle.std.specs.Prelude.{replicate}
use Rattle.std.specs.List.{list_any}
use Rattle.std.proofs.Common.{rules, ◌≡◌, ◌∙◌, ap}
use Rattle.shared_core.specs.declared.resting.SeatState.TheVariants.{Goes}
use Rattle.shared_core.specs.Resting.{rests}
use Rattle.shared_core.proofs.Rests.{none_rests_new}
use Rattle.shared_core.proofs.resting.Resting.new.Goals as goal

pub invariant_of-result : goal.invariant_of-result
invariant_of-result c =
    let items : c.in_ok-seats.seats.items ≡ replicate c.args.seats Goes = search rules in record { none_rests = λ quiet. ap (list_any rests) items ∙ none_rests_new c.args.seats }
