use Rattle.std.proofs.Common.{◌≡◌, ◌<◌, ◌++◌, [], length, map, take, get_or, add-one, refl, sym, ap, ◌∙◌, subst, arith}
use Rattle.std.proofs.lemmas.List.{length-replicate}
use Rattle.std.proofs.lemmas.List.Folds.{length-flat_map-take}
use Rattle.event_core.specs.declared.pick.Input.TheVariants.{Go}
use Rattle.event_core.specs.World.{world_of}
use Rattle.event_core.specs.Run.{entries, end_of_world}
use Rattle.pick_schedule.specs.declared.stretches.Stretch.{Stretch}
use Rattle.pick_schedule.specs.Stretches.{picks_of, picks_in}
use Rattle.recorder.specs.Picks.{picks_taken}
use Rattle.recorder.specs.Recorded.{list_at}
use Rattle.recorder.proofs.Rest.{taken_is_run, list_none}
use Rattle.recorder.proofs.Stretches.{one_more_stretch, all_stretches, still_threads, few_counted}
use Rattle.recorder.proofs.RecordedLog.{recorded_log}
use Rattle.recorder.proofs.schedule_recording.record.Goals as goal

nothing : Stretch
nothing = record { pick = record { thread = 0; input = Go }; times = 0 }

pub record_stretch-requires-clause-threads : goal.record_stretch-requires-clause-threads
record_stretch-requires-clause-threads g c =
    still_threads g.S.ObjectSpace.meaning g.M.Machine.code c.args.steps _ _ (world_of c.loop-stretch.world) _ _ _ _ c.loop-stretch.invariant
    (ap length c.in_ok-logs.ensures ∙ length-replicate c.count.result [] ∙ c.count.ensures.count)

pub record_stretch-requires-clause-room : goal.record_stretch-requires-clause-room
unfolding nothing
record_stretch-requires-clause-room g c =
    let xs = c.stretches-stretches.result.now in
    let i = c.loop-stretch.stretch-index in
    let few = few_counted g.S.ObjectSpace.meaning g.M.Machine.code c.args.steps (picks_in (take i xs)) (world_of c.args.world) (world_of c.loop-stretch.world) c.in_ok-logs.logs c.loop-stretch.logs 0 c.loop-stretch.passed c.loop-stretch.invariant in
    let part = length-flat_map-take picks_of xs i nothing c.loop-stretch-test.true in
    let many = length-replicate (get_or xs i nothing).times (get_or xs i nothing).pick in
    let all = ap length c.stretches-stretches.ensures.picks in
    let most = c.stretches-stretches.ensures.few in
    omega (arith, few, part, many, all, most)

pub loop-stretch-preserved : goal.loop-stretch-preserved
unfolding nothing
loop-stretch-preserved g c =
    let xs = c.stretches-stretches.result.now in
    let i = c.loop-stretch.stretch-index in
    rw add-one (one_more_stretch g.S.ObjectSpace.meaning g.M.Machine.code c.args.steps xs nothing i (get_or xs i nothing) (world_of c.args.world) (world_of c.loop-stretch.world) (world_of c.record_stretch.new.world) c.in_ok-logs.logs c.loop-stretch.logs c.record_stretch.new.logs 0 c.loop-stretch.passed c.record_stretch.new.passed
    c.loop-stretch-test.true refl c.loop-stretch.invariant c.in_ok-record_stretch.ensures)

pub thread_logs-requires : goal.thread_logs-requires
thread_logs-requires g c =
    ap length c.into_lists.ensures
    ∙ still_threads g.S.ObjectSpace.meaning g.M.Machine.code c.args.steps _ _ (world_of c.loop-stretch.world) _ _ _ _ c.loop-stretch.invariant
    (ap length c.in_ok-logs.ensures ∙ length-replicate c.count.result [] ∙ c.count.ensures.count)

pub returns-clause-run : goal.returns-clause-run
returns-clause-run g c = taken_is_run g.S.ObjectSpace.meaning g.M.Machine.code c.args.steps (world_of c.args.world) c.args.picks.now

pub returns-clause-log : goal.returns-clause-log
returns-clause-log g c =
    let space = g.S.ObjectSpace.meaning in
    let code = g.M.Machine.code in
    let xs = c.args.picks.now in
    let start = world_of c.args.world in
    let r = all_stretches space code c.args.steps c.stretches-stretches.result.now c.loop-stretch.stretch-index c.args.picks.now (world_of c.args.world) (world_of c.loop-stretch.world) c.in_ok-logs.logs c.loop-stretch.logs 0 c.loop-stretch.passed c.loop-stretch-test.false c.stretches-stretches.ensures.picks c.loop-stretch.invariant in
    let lists_are : length c.in_ok-logs.logs ≡ length start.threads = ap length c.in_ok-logs.ensures ∙ length-replicate c.count.result [] ∙ c.count.ensures.count in
    let seen = c.new-2.ensures.threads in
    recorded_log space code start (world_of c.loop-stretch.world) (picks_taken space code c.args.steps start xs) r.world c.loop-stretch.logs c.new-2.result.threads
    (ap (map (λ l. l.entries)) seen ∙ (c.in_ok-threads.ensures.entries ∙ c.into_lists.ensures))
    (ap (map (λ l. l.end)) seen ∙ c.in_ok-threads.ensures.ends)
    (λ t h. r.logs t (subst (λ n. t < n) (sym lists_are) h) ∙ ap (λ l. l ++ entries space code start (picks_taken space code c.args.steps start xs) t) (ap (λ ls. list_at ls t) c.in_ok-logs.ensures ∙ list_none c.count.result t))
    (r.len ∙ lists_are)

pub returns-clause-end : goal.returns-clause-end
returns-clause-end g c =
    let space = g.S.ObjectSpace.meaning in
    let code = g.M.Machine.code in
    let r = all_stretches space code c.args.steps c.stretches-stretches.result.now c.loop-stretch.stretch-index c.args.picks.now (world_of c.args.world) (world_of c.loop-stretch.world) c.in_ok-logs.logs c.loop-stretch.logs 0 c.loop-stretch.passed c.loop-stretch-test.false c.stretches-stretches.ensures.picks c.loop-stretch.invariant in
    c.new-2.ensures.end ∙ c.in_ok-end.ensures ∙ ap (end_of_world space code) r.world

pub returns-clause-passed : goal.returns-clause-passed
returns-clause-passed g c =
    let space = g.S.ObjectSpace.meaning in
    let code = g.M.Machine.code in
    let r = all_stretches space code c.args.steps c.stretches-stretches.result.now c.loop-stretch.stretch-index c.args.picks.now (world_of c.args.world) (world_of c.loop-stretch.world) c.in_ok-logs.logs c.loop-stretch.logs 0 c.loop-stretch.passed c.loop-stretch-test.false c.stretches-stretches.ensures.picks c.loop-stretch.invariant in
    let seen = c.new-2.ensures.passed in
    let count = r.passed in
    omega (arith, seen, count)
