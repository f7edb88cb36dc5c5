use Rattle.std.proofs.Common.{◌≡◌, ◌-◌}
use Rattle.binary_decoder.specs.Names.{part_at, parts_of, whole_items, first_content}
use Rattle.binary_decoder.proofs.name_parts.first_content.Given as goal

-- the parts so far are not wanted
abbrev pub invariant-loop : goal.invariant-loop
invariant-loop l = first_content l.wanted (whole_items part_at (l.end - l.counter) l.left.rest.now) ≡ first_content l.wanted (parts_of l.parts.rest.now)
