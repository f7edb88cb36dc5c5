-- the instructions so far are told
use Rattle.std.proofs.Common.{◌≡◌}
use Rattle.adapter.specs.Disassembly.{told_from}
use Rattle.adapter.proofs.disassembly.told_from.Given as goal

abbrev pub invariant-loop-index : goal.invariant-loop-index
invariant-loop-index l = l.all ≡ told_from l.code l.body l.place.function l.place.instruction l.offset l.index
