-- The lines of the threads so far are written.
use Rattle.std.proofs.Common.{take}
use Rattle.std.specs.Prelude.{None}
use Rattle.std.specs.Fmt.{HasWritten, IsPlainFormatter}
use Rattle.replica.specs.Listing.{lines_from}
use Rattle.replica.proofs.texts.LogDisplay.fmt.Given as goal

abbrev pub invariant-loop-thread : goal.invariant-loop-thread
invariant-loop-thread g l =
    IsPlainFormatter l.initial.f → HasWritten g.W.Write.write_str_gives l.initial.f (lines_from None 0 (take l.thread l.self.threads)) l.f
