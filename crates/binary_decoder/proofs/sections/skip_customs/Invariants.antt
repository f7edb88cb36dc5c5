use Rattle.std.proofs.Common.{◌≡◌, length}
use Rattle.binary_decoder.specs.Reader.{skipped}
use Rattle.binary_decoder.proofs.sections.skip_customs.Given as goal

abbrev pub invariant-loop-cursor : goal.invariant-loop-cursor
invariant-loop-cursor l = skipped l.cursor.rest.now ≡ skipped l.fn.cursor.rest.now

abbrev pub decreases-loop-cursor : goal.decreases-loop-cursor
decreases-loop-cursor l = length l.cursor.rest.now
