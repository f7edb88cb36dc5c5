-- The items so far are put.
use Rattle.std.proofs.Common.{◌≡◌, ◌+◌, ◌++◌, take}
use Rattle.std.specs.List.{flat_map}
use Rattle.log_pieces.specs.PackedClaim.{pair_bytes, placed, FitPairs}
use Rattle.log_pieces.proofs.page.put_items.Given as goal

abbrev pub invariant-loop-item : goal.invariant-loop-item
invariant-loop-item g l = record {
  put : l.bytes.items ≡ l.initial.bytes.items ++ flat_map (pair_bytes g.T.Packed.spelled) (placed l.at (take l.item-index l.items));
  fits : FitPairs g.T.Packed.Fits (placed l.at (take l.item-index l.items));
  place : l.place ≡ l.at + l.item-index;
}
