use Rattle.log_pieces.proofs.Locations.{claims_ordered}
use Rattle.log_pieces.proofs.runs.Runs.is_ordered.Goals as goal

pub returns : goal.returns
returns g c = rw (← c.self.view_is) (claims_ordered c.self.inside.pages.entries c.self.invariant)
