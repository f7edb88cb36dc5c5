use Rattle.std.proofs.Common.{◌≡◌, ◌++◌, drop}
use Rattle.std.specs.Prelude.{string_bytes}
use Rattle.integer_machine.specs.Standing.{standing}
use Rattle.debug_views.specs.Standing.{frames_text, note_of}
use Rattle.debug_views.proofs.notes.note_of.Given as goal

-- the functions so far are written, and then those that are left
abbrev pub invariant-loop-depth : goal.invariant-loop-depth
invariant-loop-depth l = string_bytes l.text ++ frames_text l.places l.depth (drop l.depth (standing l.thread.thread.state)) ≡ note_of l.places l.thread.thread
