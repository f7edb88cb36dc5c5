use Rattle.std.proofs.Common.{◌≡◌, ◌++◌, map, drop}
use Rattle.std.specs.Prelude.{string_bytes}
use Rattle.event_core.specs.World.{world_of}
use Rattle.debug_views.specs.Text.{threads_text}
use Rattle.debug_views.specs.Threads.{view_of_thread}
use Rattle.debug_views.proofs.text.write_threads.Given as goal

-- the threads so far are written, and then those that are left
abbrev pub invariant-loop-thread : goal.invariant-loop-thread
invariant-loop-thread g l =
    string_bytes l.text ++ threads_text (map string_bytes l.notes) l.thread (drop l.thread (map (view_of_thread g.M.Machine.code) (world_of l.world).threads))
    ≡ string_bytes l.fn.text ++ threads_text (map string_bytes l.notes) 0 (map (view_of_thread g.M.Machine.code) (world_of l.world).threads)
