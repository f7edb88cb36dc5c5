-- the breakpoints so far are told
use Rattle.std.proofs.Common.{◌≡◌, take}
use Rattle.adapter.specs.Breakpoints.{breakpoint_at}
use Rattle.adapter.specs.Numbered.{numbered}
use Rattle.adapter.proofs.breakpoints.breakpoints_of.Given as goal

abbrev pub invariant-loop-number : goal.invariant-loop-number
invariant-loop-number g l = l.breakpoints ≡ numbered (breakpoint_at l.message) 0 (take l.number l.found)
