-- The columns so far and those that are left are all.
use Rattle.std.proofs.Common.{◌≡◌, ◌++◌, ◌-◌}
use Rattle.std.specs.List.{flat_map, range_with_len}
use Rattle.std.specs.String.{string_bytes}
use Rattle.replica.specs.Drawing.{column_text, columns_text}
use Rattle.replica.proofs.drawing.put_columns.Given as goal

abbrev pub invariant-loop-thread : goal.invariant-loop-thread
invariant-loop-thread l = string_bytes l.text ++ flat_map (column_text l.height) (range_with_len l.thread (l.columns - l.thread)) ≡ string_bytes l.initial.text ++ columns_text l.columns l.height
