use Rattle.std.proofs.Common.{◌≡◌, ◌-◌, ◌≤◌, length}
use Rattle.binary_decoder.specs.Names.{whole_items}
use Rattle.binary_decoder.specs.Offsets.{section_end_at, first_code, code_of}
use Rattle.binary_decoder.proofs.code_parts.code_section.Given as goal

-- the sections so far are none of code
abbrev pub invariant-loop : goal.invariant-loop
invariant-loop l =
    (length l.left.rest.now ≤ length l.bytes)
    × (first_code (whole_items (section_end_at (length l.bytes)) (l.most - l.counter) l.left.rest.now) ≡ code_of l.bytes)
