-- So many functions were put into the table.
use Rattle.std.proofs.Common.{◌≡◌}
use Rattle.wasm_types.proofs.Putting.{put_so_far}
use Rattle.wasm_types.proofs.table.put_functions.Given as goal

abbrev pub invariant-loop-index : goal.invariant-loop-index
invariant-loop-index l = l.table.items ≡ put_so_far l.at l.index l.functions l.fn.table.items
