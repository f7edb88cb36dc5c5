-- The items so far are joined.
use Rattle.std.proofs.Common.{◌≡◌, ◌+◌, take}
use Rattle.log_pieces.specs.Pages.{pairs_of, IsPage, ClaimsJoined}
use Rattle.log_pieces.proofs.page.join_items.Given as goal

abbrev pub invariant-loop-item : goal.invariant-loop-item
invariant-loop-item g l = record {
  page : IsPage g.T.Packed.spelled g.T.Packed.read g.T.Packed.Fits l.page;
  joined : ClaimsJoined g.T.PartialEq.eq (pairs_of g.T.Packed.read l.initial.page) l.at (take l.item-index l.items) (pairs_of g.T.Packed.read l.page);
  place : l.place ≡ l.at + l.item-index;
}
