use Rattle.log_pieces.proofs.Locations.{all_low, claims_ordered}
use Rattle.log_pieces.proofs.runs.Runs.iter.Goals as goal

pub new-requires : goal.new-requires
new-requires g c = rw c.iter.ensures.rest (all_low c.self.inside.pages.entries c.self.invariant)

pub returns-clause-ordered : goal.returns-clause-ordered
returns-clause-ordered g c = rw (← c.self.view_is) (claims_ordered c.self.inside.pages.entries c.self.invariant)
