use Rattle.std.proofs.Common.{◌≡◌, ◌++◌}
use Rattle.std.specs.Prelude.{string_bytes}
use Rattle.rw_objects.specs.Counts.{count_at}
use Rattle.debug_views.specs.Text.{objects_text}
use Rattle.debug_views.proofs.text.write_objects.Given as goal

-- the blocks so far are written
abbrev pub invariant-loop-index : goal.invariant-loop-index
invariant-loop-index l = string_bytes l.text ≡ string_bytes l.fn.text ++ objects_text (count_at l.versions) l.blocks.first l.index
