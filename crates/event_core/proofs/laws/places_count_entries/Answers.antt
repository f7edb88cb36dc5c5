use Rattle.event_core.proofs.Places as Places
use Rattle.event_core.proofs.laws.places_count_entries.Goals as goal

pub returns : goal.returns
returns g c = Places.places_count_entries g.S.ObjectSpace.meaning g.M.Machine.code
