use Rattle.std.proofs.Common.{◌≡◌, length, map, drop}
use Rattle.std.specs.Vec.Iter.{into_iter_items}
use Rattle.workers.proofs.recording_workers.stopped_threads.Given as goal

abbrev pub invariant-loop-worker : goal.invariant-loop-worker
invariant-loop-worker g l = record {
  rest : into_iter_items l.worker-iterator ≡ drop (length l.yielded) l.fn.workers.items;
  threads : l.threads.items ≡ map (λ w. w.thread) l.yielded;
}
