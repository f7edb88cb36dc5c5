use Rattle.std.proofs.Common.{refl, sym, ◌∙◌, arith}
use Rattle.event_core.specs.World.{world_of}
use Rattle.recorder.proofs.GoingOn.{goes_nowhere, goes_on, none_more}
use Rattle.recorder.proofs.rounds.round.Goals as goal

pub loop-thread-init : goal.loop-thread-init
loop-thread-init g c = record {
  goes = goes_nowhere g.S.ObjectSpace.meaning g.M.Machine.code g.met.M.Machine.laws c.args.steps (world_of c.args.world.now) (world_of c.args.world.now) c.args.logs.now c.args.logs.now refl refl c.requires.lists;
  none = λ e x l. absurd (omega (arith, l));
}

pub loop-thread-preserved : goal.loop-thread-preserved
loop-thread-preserved g c =
    let inv = c.loop-thread.invariant in
    record {
      goes = goes_on g.S.ObjectSpace.meaning g.M.Machine.code g.met.M.Machine.laws c.args.steps (world_of c.args.world.now) (world_of c.loop-thread.world) (world_of c.go.new.world) c.args.logs.now c.loop-thread.logs c.go.new.logs inv.goes c.in_ok-went.ensures.goes;
      none = λ e. none_more g.S.ObjectSpace.meaning g.M.Machine.code g.met.M.Machine.laws c.args.steps (world_of c.loop-thread.world) (world_of c.go.new.world) c.loop-thread.thread c.loop-thread.made c.in_ok-went.went c.in_ok-went.ensures.stays c.in_ok-went.ensures.made inv.none (sym c.either-made.ensures ∙ e);
    }
