-- the bytes so far are listed
use Rattle.std.proofs.Common.{◌≡◌, take}
use Rattle.adapter.proofs.memory.list_of.Given as goal

abbrev pub invariant-loop-byte : goal.invariant-loop-byte
invariant-loop-byte l = l.list ≡ take l.byte-index l.bytes
