-- What the segments that are left make of the table.
use Rattle.std.proofs.Common.{drop}
use Rattle.std.specs.Prelude.{slice_get}
use Rattle.wasm_types.specs.Tables.{elements_by}
use Rattle.wasm_types.specs.Tables.{empty_by}
use Rattle.wasm_types.proofs.Putting.{Left}
use Rattle.wasm_types.proofs.table.first_table.Given as goal

abbrev pub invariant-loop-element : goal.invariant-loop-element
invariant-loop-element l =
    Left (elements_by (slice_get l.«module».tables 0)) l.«module».elements (drop l.element-index l.element-items) (empty_by (slice_get l.«module».tables 0)) l.table.items
