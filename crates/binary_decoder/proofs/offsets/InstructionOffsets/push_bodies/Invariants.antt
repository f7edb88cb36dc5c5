use Rattle.std.proofs.Common.{◌≡◌, ◌-◌, ◌≤◌, ◌++◌, List, ℕ, length}
use Rattle.binary_decoder.specs.Names.{whole_items}
use Rattle.binary_decoder.specs.Offsets.{body_offsets_at}
use Rattle.binary_decoder.specs.Kept.{Holds}
use Rattle.binary_decoder.proofs.offsets.InstructionOffsets.push_bodies.Given as goal

-- the bodies so far are held, and then come those that are left
abbrev pub invariant-loop : goal.invariant-loop
invariant-loop l =
    (length l.cursor.rest.now ≤ l.end)
    × ((front : List (List ℕ)) × Holds l.self front × (front ++ whole_items (body_offsets_at l.end) (l.count - l.counter) l.cursor.rest.now ≡ whole_items (body_offsets_at l.end) l.count l.fn.cursor.rest.now))
