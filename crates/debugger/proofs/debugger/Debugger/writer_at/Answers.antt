use Rattle.std.proofs.Common.{sym, ap, subst}
use Rattle.event_core.specs.World.{world_of}
use Rattle.replay_laws.specs.Log.{Log}
use Rattle.replay_session.specs.Writers.{OneWriterEach}
use Rattle.wasm_replay.specs.Replays.{gathered_log}
use Rattle.debugger.specs.declared.touched.Sought.{Sought}
use Rattle.debugger.proofs.debugger.Debugger.writer_at.Goals as goal

pub writing_event-requires-clause-writer : goal.writing_event-requires-clause-writer
writing_event-requires-clause-writer c = ap (λ (s : Sought). s.role) c.sought_at-sought.ensures

pub writing_event-requires-clause-one : goal.writing_event-requires-clause-one
writing_event-requires-clause-one c =
    subst (λ (l : Log). OneWriterEach l (world_of c.world.result.now)) (ap (λ l. gathered_log l.log.now) (sym c.log.ensures)) c.world.ensures.one_writer
