use Rattle.log_pieces.proofs.Packing.{none_spelled}
use Rattle.log_pieces.proofs.packed_entries.PackedEntries.new.Goals as goal

pub invariant_of-result : goal.invariant_of-result
invariant_of-result c = rw c.new.ensures.items none_spelled.packed

pub returns : goal.returns
returns c = rw c.new.ensures.items none_spelled.read
