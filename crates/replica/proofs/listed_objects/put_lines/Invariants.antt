-- The lines so far and those of the touches that are left are all.
use Rattle.std.proofs.Common.{◌≡◌, ◌++◌, length}
use Rattle.std.specs.String.{string_bytes}
use Rattle.replica.specs.Objects.{object_text}
use Rattle.replica.specs.Order.{IsOrdered}
use Rattle.replica.specs.Chosen.{lines}
use Rattle.replica.proofs.listed_objects.put_lines.Given as goal

abbrev pub invariant-loop-first : goal.invariant-loop-first
invariant-loop-first l = record {
  lines : string_bytes l.text ++ lines l.chosen (object_text l.block) l.rest ≡ string_bytes l.initial.text ++ lines l.chosen (object_text l.block) l.touches;
  order : IsOrdered l.rest;
}

abbrev pub decreases-loop-first : goal.decreases-loop-first
decreases-loop-first l = length l.rest
