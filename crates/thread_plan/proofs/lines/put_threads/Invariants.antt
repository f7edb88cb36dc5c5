-- The numbers so far are behind the text.
use Rattle.std.proofs.Common.{◌≡◌, ◌∷◌, ◌++◌, take, flat_map, string_bytes}
use Rattle.std.specs.Fmt.{decimal}
use Rattle.thread_plan.proofs.lines.put_threads.Given as goal

abbrev pub invariant-loop-thread : goal.invariant-loop-thread
invariant-loop-thread l = string_bytes l.text ≡ string_bytes l.initial.text ++ flat_map (λ t. 32 ∷ decimal t) (take l.thread-index l.threads)
