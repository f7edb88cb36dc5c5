-- The touches so far are put.
use Rattle.std.proofs.Common.{◌≡◌, ◌+◌, ◌-◌, ◌*◌, ◌≤◌, ◌++◌, length, take, vec_capacity}
use Rattle.std.specs.List.{All, flat_map}
use Rattle.log_pieces.specs.Spelling.{touch_bytes}
use Rattle.log_pieces.specs.Widths.{FitsTouch}
use Rattle.log_pieces.proofs.writing.put_touches.Given as goal

abbrev pub invariant-loop-touch : goal.invariant-loop-touch
invariant-loop-touch l = record {
  put : l.out.items ≡ l.initial.out.items ++ flat_map touch_bytes (take l.touch-index l.found);
  fits : All FitsTouch (take l.touch-index l.found);
  few : length l.out.items + 21 * (3 - l.touch-index) ≤ length l.initial.out.items + 63;
  capacity : vec_capacity l.initial.out ≤ vec_capacity l.out;
}
