use Rattle.std.proofs.Common.{[], length, map, replicate, ap, ◌∙◌}
use Rattle.std.proofs.lemmas.List.{length-replicate}
use Rattle.event_core.specs.World.{world_of}
use Rattle.pick_schedule.specs.Stretches.{picks_in}
use Rattle.recorder.proofs.Stretches.{still_threads}
use Rattle.recorder.proofs.Drawing.{random_run}
use Rattle.recorder.proofs.recording.record_random.Goals as goal

pub make_drawn-requires : goal.make_drawn-requires
make_drawn-requires g c = ap length c.in_ok-logs.ensures ∙ length-replicate c.count.result [] ∙ c.count.ensures.count

pub thread_logs-requires : goal.thread_logs-requires
thread_logs-requires g c =
    let x = c.in_ok-make_drawn.ensures.2 in
    let ss = c.in_ok-make_drawn.ensures.0 in
    ap length c.into_lists.ensures
    ∙ still_threads g.S.ObjectSpace.meaning g.M.Machine.code c.args.draw.steps (picks_in ss) (world_of c.args.world) (world_of c.make_drawn.new.world) c.in_ok-logs.logs c.make_drawn.new.logs 0 0 x.recorded
    (ap length c.in_ok-logs.ensures ∙ length-replicate c.count.result [] ∙ c.count.ensures.count)

pub returns : goal.returns
returns g c =
    let seen = c.new-2.ensures.threads in
    random_run g.S.ObjectSpace.meaning g.M.Machine.code c.args.draw.steps c.args.draw.timeouts c.args.draw.number (world_of c.args.world) (world_of c.make_drawn.new.world) c.in_ok-make_drawn.ensures.0 c.in_ok-logs.logs c.make_drawn.new.logs c.new-2.result
    c.in_ok-make_drawn.ensures.2
    (c.in_ok-logs.ensures ∙ ap (λ n. replicate n []) c.count.ensures.count)
    (ap (map (λ l. l.entries)) seen ∙ (c.in_ok-threads.ensures.entries ∙ c.into_lists.ensures))
    (ap (map (λ l. l.end)) seen ∙ c.in_ok-threads.ensures.ends)
    (c.new-2.ensures.end ∙ c.in_ok-end.ensures)
    c.new-2.ensures.passed
