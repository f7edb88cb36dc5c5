-- The entries copied so far, and then those that are left, are the map's.
use Rattle.std.proofs.Common.{◌≡◌, ◌++◌}
use Rattle.log_pieces.proofs.keyed.KeyedSame.copy.Given as goal

abbrev pub invariant-loop-key : goal.invariant-loop-key
invariant-loop-key g l = l.self ≡ l.map.entries ++ l.key-iterator
