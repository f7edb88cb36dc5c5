use Rattle.std.proofs.Common.{◌≡◌, ◌<◌, ℕ, false}
use Rattle.event_core.specs.World.{world_of}
use Rattle.event_core.specs.declared.pick.Input.TheVariants.{Go}
use Rattle.replay_laws.specs.Turns.{pick_of}
use Rattle.recorder.specs.Picks.{is_taken}
use Rattle.recorder.specs.Rounds.{GoesBy}
use Rattle.recorder.proofs.rounds.round.Given as goal

abbrev pub invariant-loop-thread : goal.invariant-loop-thread
invariant-loop-thread g l = record {
  goes : GoesBy g.S.ObjectSpace.meaning g.M.Machine.code l.steps (world_of l.initial.world) (world_of l.world) l.initial.logs l.logs;
  none : l.made ≡ false → (x : ℕ) → x < l.thread → is_taken g.S.ObjectSpace.meaning g.M.Machine.code l.steps (world_of l.world) (pick_of x Go) ≡ false;
}
