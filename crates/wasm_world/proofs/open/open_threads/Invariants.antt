use Rattle.std.proofs.Common.{◌≡◌, map, take}
use Rattle.std.specs.Prelude.{Some}
use Rattle.integer_machine.specs.Sound.{thread_of}
use Rattle.wasm_world.specs.Opening.{opening_threads}
use Rattle.wasm_world.proofs.open.open_threads.Given as goal

-- the threads so far
abbrev pub invariant-loop-thread : goal.invariant-loop-thread
invariant-loop-thread l = opening_threads l.valid l.profile 0 (take l.thread l.plan.threads) ≡ Some (map thread_of l.threads.items)
