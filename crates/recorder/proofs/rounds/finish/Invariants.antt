use Rattle.event_core.specs.World.{world_of}
use Rattle.recorder.specs.Rounds.{GoesBy}
use Rattle.recorder.proofs.rounds.finish.Given as goal

abbrev pub invariant-loop : goal.invariant-loop
invariant-loop g l =
    (goal.iterator-loop g).can_next l.iterator' × (goal.iterator-loop g).is_finite l.iterator'
    × GoesBy g.S.ObjectSpace.meaning g.M.Machine.code l.steps (world_of l.initial.world) (world_of l.world) l.initial.logs l.logs
