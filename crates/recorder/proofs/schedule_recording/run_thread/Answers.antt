use Rattle.std.proofs.Common.{◌≡◌, ◌∷◌, [], ◌++◌, Some, sym, ap, ◌∙◌, subst}
use Rattle.event_core.specs.ThreadRun.{IsThreadRun}
use Rattle.event_core.specs.Threads.{change_at}
use Rattle.event_core.specs.World.{world_of}
use Rattle.recorder.specs.Recorded.{list_at}
use Rattle.recorder.proofs.Batches.{taken_out, is_put_back}
use Rattle.recorder.proofs.Rest.{list_length}
use Rattle.recorder.proofs.schedule_recording.run_thread.Goals as goal

pub put_back-requires : goal.put_back-requires
put_back-requires g c = rw (c.take_out-writer.ensures.left, list_length) c.requires

pub returns-clause-ran : goal.returns-clause-ran
returns-clause-ran g c =
    let news : c.put_back.new.self ≡ change_at (change_at c.args.logs.now c.args.thread (λ _. [])) c.args.thread (λ _. c.run-made.new.log.entries) =
    c.put_back.ensures ∙ ap (λ l. change_at l c.args.thread (λ _. c.run-made.new.log.entries)) c.take_out-writer.ensures.left in
    let back = is_put_back c.args.logs.now c.put_back.new.self c.args.thread c.run-made.new.log.entries c.requires news in
    subst (IsThreadRun g.S.ObjectSpace.meaning g.M.Machine.code (λ es e. Some (es ++ e ∷ [])) c.args.thread c.run-made.result.0 (world_of c.args.world.now) (world_of c.run-made.new.self) (list_at c.args.logs.now c.args.thread)) (sym back)
    (subst (λ l. IsThreadRun g.S.ObjectSpace.meaning g.M.Machine.code (λ es e. Some (es ++ e ∷ [])) c.args.thread c.run-made.result.0 (world_of c.args.world.now) (world_of c.run-made.new.self) l c.run-made.new.log.entries) c.take_out-writer.ensures.taken c.run-made.ensures.run)

pub returns-clause-others : goal.returns-clause-others
returns-clause-others g c =
    taken_out c.args.logs.now c.put_back.new.self c.args.thread c.run-made.new.log.entries
    (c.put_back.ensures ∙ ap (λ l. change_at l c.args.thread (λ _. c.run-made.new.log.entries)) c.take_out-writer.ensures.left)
