-- Each list so far got its thread's end.
use Rattle.std.proofs.Common.{◌≡◌, length, map, take, drop}
use Rattle.std.specs.Vec.Iter.{into_iter_items}
use Rattle.event_core.specs.World.{world_of}
use Rattle.replay_laws.specs.RunLog.{end_of_thread}
use Rattle.recorder.proofs.schedule_recording.thread_logs.Given as goal

abbrev pub invariant-loop-entries : goal.invariant-loop-entries
invariant-loop-entries g l = record {
  rest : into_iter_items l.entries-iterator ≡ drop (length l.yielded) l.fn.lists.items;
  thread : l.thread ≡ length l.yielded;
  entries : map (λ e. e.entries) l.logs.items ≡ l.yielded;
  ends : map (λ e. e.end) l.logs.items ≡ map (end_of_thread g.M.Machine.code) (take (length l.yielded) (world_of l.world).threads);
}
