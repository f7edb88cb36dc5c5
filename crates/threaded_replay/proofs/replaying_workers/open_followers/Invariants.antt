use Rattle.std.proofs.Common.{◌≡◌, length, map, drop}
use Rattle.std.specs.List.{All}
use Rattle.std.specs.Vec.Iter.{into_iter_items}
use Rattle.threaded_replay.specs.Work.{opened_thread}
use Rattle.threaded_replay.proofs.replaying_workers.open_followers.Given as goal

abbrev pub invariant-loop-machine : goal.invariant-loop-machine
invariant-loop-machine g l = record {
  rest : into_iter_items l.machine-iterator ≡ drop (length l.yielded) l.fn.machines.items;
  threads : map (λ w. w.thread) l.followers.items ≡ map opened_thread l.yielded;
  log : All (λ w. w.log.now ≡ l.log) l.followers.items;
}
