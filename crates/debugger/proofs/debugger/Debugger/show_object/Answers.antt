use Rattle.std.proofs.Common.{ap, sym, subst, ◌∙◌}
use Rattle.event_core.specs.World.{world_of}
use Rattle.replay_laws.specs.Log.{Log}
use Rattle.replay_session.specs.Writers.{OneWriterEach}
use Rattle.wasm_replay.specs.Replays.{gathered_log}
use Rattle.debugger.specs.Answers.{answer_text}
use Rattle.debugger.specs.At.{at_of}
use Rattle.debugger.specs.Replies.{counted}
use Rattle.debugger.proofs.ToldEvents.{object_told}
use Rattle.debugger.proofs.debugger.Debugger.show_object.Goals as goal

pub object_text-requires : goal.object_text-requires
object_text-requires c =
    subst (λ (l : Log). OneWriterEach l (world_of c.world-world.result.now)) (ap (λ l. gathered_log l.log.now) (sym c.log-log.ensures)) c.world-world.ensures.one_writer

pub returns-in-Some : goal.returns-in-Some
returns-in-Some c =
    let s = at_of c.args.self.now in
    object_told s c.args.object (world_of c.world-world.result.now) (gathered_log c.log-log.result.now.log.now) c.in-Some.count (answer_text c.lines.result) c.object_text.result
    (ap (λ x. world_of x) c.world-world.ensures.same) (ap (λ l. gathered_log l.log.now) c.log-log.ensures)
    (sym c.in-Some.is ∙ c.versions.ensures ∙ ap (λ x. counted (record s { world = world_of x }) c.args.object) c.world-world.ensures.same) c.lines.ensures c.object_text.ensures
