use Rattle.std.proofs.Common.{◌≡◌, ◌+◌, ◌≤◌, length}
use Rattle.text_lines.specs.Parts.{parts, parts_left}
use Rattle.command_words.specs.Words.{threads_in}
use Rattle.command_words.proofs.Digits.{behind}
use Rattle.command_words.proofs.numbers.order_in.Given as goal

-- the threads so far, and those of the parts that are left
abbrev pub invariant-loop-part : goal.invariant-loop-part
invariant-loop-part l = record {
  same : threads_in (parts 44 l.text) ≡ behind l.order.items (threads_in (parts_left l.parts));
  count : length l.order.items + length (parts_left l.parts) ≡ length (parts 44 l.text);
  few : length l.order.items ≤ 1000000;
}

abbrev pub decreases-loop-part : goal.decreases-loop-part
decreases-loop-part l = length (parts_left l.parts)
