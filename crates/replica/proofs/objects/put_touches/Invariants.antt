-- The objects so far are put.
use Rattle.std.proofs.Common.{◌≡◌, ◌+◌, ◌*◌, ◌≤◌, ◌++◌, length, take}
use Rattle.std.specs.List.{flat_map}
use Rattle.rw_objects.specs.Touch.{object_of}
use Rattle.replica.specs.Objects.{touched_text}
use Rattle.replica.proofs.objects.put_touches.Given as goal

abbrev pub invariant-loop-found : goal.invariant-loop-found
invariant-loop-found l = record {
  text : l.room ≡ l.fn.room ++ flat_map (λ f. touched_text l.block (object_of f)) (take l.found-index l.found-items);
  short : length l.room ≤ length l.fn.room + 74 * l.found-index;
}
