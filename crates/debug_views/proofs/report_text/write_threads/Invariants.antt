use Rattle.std.proofs.Common.{◌≡◌, ◌++◌, drop, map}
use Rattle.std.specs.Prelude.{string_bytes}
use Rattle.debug_views.specs.Report.{threads_text}
use Rattle.debug_views.proofs.report_text.write_threads.Given as goal

-- the threads so far are written, and then those that are left
abbrev pub invariant-loop-thread : goal.invariant-loop-thread
invariant-loop-thread l = string_bytes l.text ++ threads_text (map string_bytes l.notes) l.thread-counter (drop l.thread-counter l.outcomes) ≡ string_bytes l.fn.text ++ threads_text (map string_bytes l.notes) 0 l.outcomes
