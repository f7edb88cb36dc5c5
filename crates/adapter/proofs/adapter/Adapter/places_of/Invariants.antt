-- the instructions of the breakpoints so far are found
use Rattle.std.proofs.Common.{take}
use Rattle.adapter.specs.Breakpoints.{Pairs}
use Rattle.adapter.specs.InstructionBreaks.{IsPlaceOf}
use Rattle.adapter.specs.State.{state_of}
use Rattle.adapter.proofs.adapter.Adapter.places_of.Given as goal

abbrev pub invariant-loop-one : goal.invariant-loop-one
invariant-loop-one l = Pairs (IsPlaceOf (state_of l.self).debugger.code) (take l.one-index l.asked) l.found.items
