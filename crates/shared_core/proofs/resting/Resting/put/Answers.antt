-- A seat that does not rest does not let one rest.
use Rattle.shared_core.proofs.Rests.{none_rests_set, still_where_quiet}
use Rattle.shared_core.proofs.resting.Resting.put.Goals as goal

pub invariant_of-self : goal.invariant_of-self
invariant_of-self c = record {
  none_rests = λ quiet. none_rests_set c.args.self.now.seats.items c.args.seat c.args.standing (still_where_quiet c.args.standing c.args.self.now.some_rest c.requires.rests quiet) (c.args.self.now.none_rests quiet);
}
