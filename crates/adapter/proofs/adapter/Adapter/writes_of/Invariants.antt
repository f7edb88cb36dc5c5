-- the breaks of the texts so far are found
use Rattle.std.proofs.Common.{take}
use Rattle.adapter.specs.Breakpoints.{IsWriteBy, Pairs, range_of}
use Rattle.adapter.specs.State.{state_of}
use Rattle.adapter.proofs.adapter.Adapter.writes_of.Given as goal

abbrev pub invariant-loop-id : goal.invariant-loop-id
invariant-loop-id l = Pairs (λ id. IsWriteBy (state_of l.self).debugger.power (range_of id)) (take l.id-index l.ids) l.found.items
