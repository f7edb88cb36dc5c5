use Rattle.std.proofs.Common.{◌≡◌, [], sym, ap, ◌∙◌, subst}
use Rattle.event_core.specs.ThreadRun.{IsThreadRun}
use Rattle.event_core.specs.Threads.{change_at}
use Rattle.event_core.specs.World.{world_of}
use Rattle.recorder.specs.Recorded.{list_at}
use Rattle.recorder.proofs.Batches.{taken_out, is_put_back}
use Rattle.recorder.proofs.Rest.{list_length}
use Rattle.recorder.specs.Few.{put_few}
use Rattle.recorder.proofs.DrawnStretches.{few_run}
use Rattle.recorder.proofs.stretch.run_few.Goals as goal

pub put_back-requires : goal.put_back-requires
put_back-requires g c = rw (c.take_out-writer.ensures.left, list_length) c.requires

pub returns : goal.returns
returns g c =
    let space = g.S.ObjectSpace.meaning in
    let code = g.M.Machine.code in
    let t = c.args.thread in
    let w = world_of c.args.world.now in
    let v = world_of c.run-end.new.self in
    let lists = c.args.logs.now in
    let news = c.put_back.new.self in
    let few = c.run-end.new.log in
    let written : news ≡ change_at (change_at lists t (λ _. [])) t (λ _. few.writer.entries) = c.put_back.ensures ∙ ap (λ l. change_at l t (λ _. few.writer.entries)) c.take_out-writer.ensures.left in
    let back = is_put_back lists news t few.writer.entries c.requires written in
    let ran : IsThreadRun space code put_few t c.run-end.result.0 w v (list_at lists t, c.args.left) (list_at news t, few.left) =
    subst (λ es. IsThreadRun space code put_few t c.run-end.result.0 w v (list_at lists t, c.args.left) (es, few.left)) (sym back)
    (subst (λ es. IsThreadRun space code put_few t c.run-end.result.0 w v (es, c.args.left) (few.writer.entries, few.left)) c.take_out-writer.ensures.taken c.run-end.ensures.run) in
    few_run space code t c.run-end.result.0 c.args.most c.args.left few.left w v lists news c.run-end.ensures.few ran (taken_out lists news t few.writer.entries written)
