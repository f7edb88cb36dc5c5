use Rattle.std.proofs.Common.{inl, ap, sym, subst, ◌∙◌}
use Rattle.std.proofs.lemmas.Bool.{leb-true}
use Rattle.event_core.specs.World.{world_of}
use Rattle.replay_laws.specs.Log.{Log}
use Rattle.replay_session.specs.Writers.{OneWriterEach}
use Rattle.wasm_replay.specs.Replays.{gathered_log}
use Rattle.debugger.specs.Answers.{answer_text}
use Rattle.debugger.specs.At.{at_of}
use Rattle.debugger.proofs.ToldEvents.{told_of}
use Rattle.debugger.proofs.debugger.Debugger.tell.Goals as goal

pub made_text-requires : goal.made_text-requires
made_text-requires c =
    subst (λ (l : Log). OneWriterEach l (world_of c.world-world.result.now)) (ap (λ l. gathered_log l.log.now) (sym c.log.ensures)) c.world-world.ensures.one_writer

pub returns-then-is_in_view : goal.returns-then-is_in_view
returns-then-is_in_view c =
    let inside = sym c.is_in_view.ensures ∙ c.if-is_in_view.true in
    inl (told_of (at_of c.args.self.now) c.args.role c.args.address (world_of c.world-world.result.now) (gathered_log c.log.result.now.log.now) c.sought_at-sought.result (answer_text c.lines.result) c.made_text.result
    (ap (λ x. world_of x) c.world-world.ensures.same) (ap (λ l. gathered_log l.log.now) c.log.ensures) c.sought_at-sought.ensures (leb-true _ _ inside) c.lines.ensures c.made_text.ensures)
