use Rattle.std.proofs.Common.{◌≡◌, length, map, drop}
use Rattle.std.specs.Vec.Iter.{into_iter_items}
use Rattle.threaded_replay.proofs.replaying_workers.stopped_threads.Given as goal

abbrev pub invariant-loop-follower : goal.invariant-loop-follower
invariant-loop-follower g l = record {
  rest : into_iter_items l.follower-iterator ≡ drop (length l.yielded) l.fn.followers.items;
  threads : l.threads.items ≡ map (λ w. w.thread) l.yielded;
}
