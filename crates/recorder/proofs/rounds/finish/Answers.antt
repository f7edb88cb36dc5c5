use Rattle.std.proofs.Common.{refl}
use Rattle.event_core.specs.World.{world_of}
use Rattle.recorder.proofs.GoingOn.{goes_nowhere, goes_on}
use Rattle.recorder.proofs.rounds.finish.Goals as goal

pub loop-init : goal.loop-init
loop-init g c = (
  tt,
  tt,
  goes_nowhere g.S.ObjectSpace.meaning g.M.Machine.code g.met.M.Machine.laws c.args.steps (world_of c.args.world.now) (world_of c.args.world.now) c.args.logs.now c.args.logs.now refl refl c.requires.lists,
)

pub loop-preserved : goal.loop-preserved
loop-preserved g c = (
  tt,
  tt,
  goes_on g.S.ObjectSpace.meaning g.M.Machine.code g.met.M.Machine.laws c.args.steps (world_of c.args.world.now) (world_of c.loop.world) (world_of c.round.new.world) c.args.logs.now c.loop.logs c.round.new.logs c.loop.invariant.2 c.in_ok-round.ensures.goes,
)

pub returns-then-not-branch-clause-goes : goal.returns-then-not-branch-clause-goes
returns-then-not-branch-clause-goes g c =
    goes_on g.S.ObjectSpace.meaning g.M.Machine.code g.met.M.Machine.laws c.args.steps (world_of c.args.world.now) (world_of c.loop.world) (world_of c.round.new.world) c.args.logs.now c.loop.logs c.round.new.logs c.loop.invariant.2 c.in_ok-round.ensures.goes
