-- The listing of what was found.
use Rattle.std.proofs.Common.{◌≡◌, List, [], ◌∷◌, ℕ, sym, ◌∙◌}
use Rattle.std.specs.Prelude.{Option, Some, None}
use Rattle.log_pieces.specs.Piece.{PieceValue}
use Rattle.replica.specs.declared.replica.Replica.{Replica}
use Rattle.replica.specs.Listing.{empty_listing}
use Rattle.replica.specs.Judged.{IsFound}
use Rattle.replica.specs.Chosen.{ObjectsAsked, IsObjectListing}

pub none_listed : (asked : ObjectsAsked) (pieces : List PieceValue) (found : Option Replica) (text : List ℕ) → found ≡ None → text ≡ empty_listing → IsFound pieces found → IsObjectListing asked pieces text
none_listed asked [] found text is same h = same
none_listed asked (first ∷ pieces) found text is same h = let e : None ≡ Some h.0 = sym is ∙ h.1 in absurd cc
