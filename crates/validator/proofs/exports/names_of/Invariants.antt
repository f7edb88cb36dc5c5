use Rattle.std.proofs.Common.{◌≡◌, take}
use Rattle.indexmap.specs.IndexMap.{hasher_of}
use Rattle.validator.proofs.Names.{Noted}
use Rattle.validator.proofs.exports.names_of.Given as goal

abbrev pub invariant-loop-number : goal.invariant-loop-number
invariant-loop-number l = Noted (λ k. k.now) l.names.entries l.others.keys (take l.number l.exports) × (hasher_of l.names ≡ l.fn.hasher)
