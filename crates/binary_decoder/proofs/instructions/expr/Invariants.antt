use Rattle.std.proofs.Common.{◌≡◌, ◌-◌, ◌+◌, ◌≤◌, length, reverse}
use Rattle.binary_decoder.specs.Reader.{instrs_at, expr_at}
use Rattle.binary_decoder.proofs.Loop.{with_instrs}
use Rattle.binary_decoder.proofs.instructions.expr.Given as goal

abbrev pub invariant-loop : goal.invariant-loop
invariant-loop l =
    (length l.labels.items + length l.cursor.rest.now ≤ length l.fn.cursor.rest.now)
    × (with_instrs l.instrs.items (instrs_at (length l.fn.cursor.rest.now - l.counter) l.labels.items (reverse l.blocks.items) l.cursor.rest.now) ≡ expr_at l.fn.cursor.rest.now)
