-- the entries of the names so far are found
use Rattle.std.proofs.Common.{take}
use Rattle.debugger.specs.Functions.{IsEntry}
use Rattle.adapter.specs.Breakpoints.{Pairs}
use Rattle.adapter.specs.State.{state_of}
use Rattle.adapter.proofs.adapter.Adapter.entries_of.Given as goal

abbrev pub invariant-loop-name : goal.invariant-loop-name
invariant-loop-name l = Pairs (IsEntry (state_of l.self).debugger.code) (take l.name-index l.names) l.found.items
