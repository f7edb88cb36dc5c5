use Rattle.replica.proofs.OneListing.{one_listing}
use Rattle.replica.proofs.laws.same_pieces_have_one_listing.Goals as goal

pub returns : goal.returns
returns c = one_listing
