use Rattle.std.proofs.Common.{◌≡◌, ◌-◌, ◌≤◌, ◌++◌, length}
use Rattle.binary_decoder.specs.Names.{whole_items}
use Rattle.binary_decoder.specs.Offsets.{offset_at}
use Rattle.binary_decoder.proofs.code_parts.push_instructions.Given as goal

-- the offsets so far, and then those of the instructions that are left
abbrev pub invariant-loop : goal.invariant-loop
invariant-loop l =
    (length l.cursor.rest.now ≤ l.end)
    × (l.offsets.items ++ whole_items (offset_at l.end) (l.most - l.counter) l.cursor.rest.now ≡ l.fn.offsets.items ++ whole_items (offset_at l.end) (length l.fn.cursor.rest.now) l.fn.cursor.rest.now)
