use Rattle.std.proofs.Common.{sym, ◌∙◌}
use Rattle.event_core.specs.World.{world_of}
use Rattle.replay_session.proofs.LastHits.{rests_tested, step_tested, hit_tested, fault_tested}
use Rattle.replay_session.proofs.reverse.test_turn.Goals as goal

pub returns-then-is_step-clause-tests : goal.returns-then-is_step-clause-tests
returns-then-is_step-clause-tests g c =
    step_tested g.S.ObjectSpace.meaning g.M.Machine.code (g.L.ReadLog.log c.args.replay.now.log) c.args.breaks.now (g.T.Test.holds c.args.test.now) c.args.thread (world_of c.args.replay.now.world) (world_of c.turn_until.new.replay.world) c.in-Ok.taken c.in-Ok.ensures.takes c.in-Ok.ensures.untested (sym c.is_step.ensures ∙ c.if-is_step.true)

pub returns-else-is_step-clause-tests : goal.returns-else-is_step-clause-tests
returns-else-is_step-clause-tests g c =
    rests_tested g.S.ObjectSpace.meaning g.M.Machine.code (g.L.ReadLog.log c.args.replay.now.log) c.args.breaks.now (g.T.Test.holds c.args.test.now) c.args.thread (world_of c.args.replay.now.world) (world_of c.turn_until.new.replay.world) c.in-Ok.taken c.in-Ok.ensures.takes (sym c.is_step.ensures ∙ c.if-is_step.false)

pub returns-in-Err-Met-clause-tests : goal.returns-in-Err-Met-clause-tests
returns-in-Err-Met-clause-tests g c =
    hit_tested g.S.ObjectSpace.meaning g.M.Machine.code (g.L.ReadLog.log c.args.replay.now.log) c.args.breaks.now (g.T.Test.holds c.args.test.now) c.args.thread (world_of c.args.replay.now.world) (world_of c.turn_until.new.replay.world) c.in-Err-Met.field-0 c.in-Err-Met.met c.in-Err-Met.field-0-is c.in-Err-Met.ensures.pauses

pub returns-else-is_want_of_memory-clause-tests : goal.returns-else-is_want_of_memory-clause-tests
returns-else-is_want_of_memory-clause-tests g c =
    fault_tested g.S.ObjectSpace.meaning g.M.Machine.code (g.L.ReadLog.log c.args.replay.now.log) c.args.breaks.now (g.T.Test.holds c.args.test.now) c.args.thread (world_of c.args.replay.now.world) (world_of c.turn_until.new.replay.world) c.in-Err-Fault.field-0 c.in-Err-Fault.fault c.in-Err-Fault.field-0-is c.in-Err-Fault.ensures.pauses (sym c.is_want_of_memory.ensures ∙ c.if-is_want_of_memory.false)
