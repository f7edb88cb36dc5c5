-- The threads and their lists are gone over together.
use Rattle.std.proofs.Common.{◌≡◌, ◌<◌, length, map, take, drop, Some, slice_get, refl, sym, ap, ◌∙◌, arith}
use Rattle.event_core.specs.World.{world_of}
use Rattle.replay_laws.specs.RunLog.{end_of_thread}
use Rattle.recorder.proofs.Ends.{drop_more, map_push, length_more, take_one_more, made_of, made_of_none}
use Rattle.recorder.proofs.schedule_recording.thread_logs.Goals as goal

pub unreachable-requires : goal.unreachable-requires
unreachable-requires g c =
    let inv = c.loop-entries.invariant in
    let left = drop_more c.args.lists.items (length c.loop-entries.yielded) c.in-Some.entries _ (sym inv.rest ∙ c.in-Some.ensures.steps.0) in
    let within : c.loop-entries.thread < length (world_of c.args.world.now).threads = omega (arith, left.0, inv.thread, c.requires) in
    made_of_none (end_of_thread g.M.Machine.code) (world_of c.args.world.now).threads c.loop-entries.thread within (sym c.end_of.ensures ∙ c.in_default.is)

pub loop-entries-preserved : goal.loop-entries-preserved
loop-entries-preserved g c =
    let inv = c.loop-entries.invariant in
    let code = g.M.Machine.code in
    let threads = (world_of c.args.world.now).threads in
    let n = length c.loop-entries.yielded in
    let left = drop_more c.args.lists.items n c.in-Some.entries _ (sym inv.rest ∙ c.in-Some.ensures.steps.0) in
    let more = length_more c.loop-entries.yielded c.in-Some.entries in
    let log = c.new.result in
    let th = made_of (end_of_thread code) (slice_get threads c.loop-entries.thread) c.in-Some-end_of.end (sym c.end_of.ensures ∙ c.in-Some-end_of.is) in
    let at : slice_get threads n ≡ Some th.0 = ap (slice_get threads) (sym inv.thread) ∙ th.1 in
    record {
      rest = left.1 ∙ ap (λ k. drop k c.args.lists.items) (sym more);
      thread = omega (arith, inv.thread, more);
      entries = map_push (λ e. e.entries) c.push.new.self.items c.loop-entries.logs.items log _ _ _ c.in_ok-push.ensures.items c.new.ensures.entries inv.entries refl;
      ends = map_push (λ e. e.end) c.push.new.self.items c.loop-entries.logs.items log _ _ _ c.in_ok-push.ensures.items (c.new.ensures.end ∙ sym th.2) inv.ends (sym (take_one_more (end_of_thread code) threads n th.0 at) ∙ ap (λ k. map (end_of_thread code) (take k threads)) (sym more));
    }
