use Rattle.std.proofs.Common.{◌≡◌, length, drop}
use Rattle.std.specs.Vec.Iter.{into_iter_items}
use Rattle.wasm_record.proofs.thread.striped_threads.Given as goal

-- the threads so far
abbrev pub invariant-loop-thread : goal.invariant-loop-thread
invariant-loop-thread l = record {
  rest : into_iter_items l.thread-iterator ≡ drop (length l.yielded) l.fn.threads.items;
  striped : l.striped.items ≡ l.yielded;
}
