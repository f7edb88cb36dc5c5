-- What was found so far is marked.
use Rattle.std.proofs.Common.{◌≡◌, length, map, take}
use Rattle.replay_gate.specs.Marks.{mark_of_found}
use Rattle.replay_gate.proofs.marks.marks_of_found.Given as goal

abbrev pub invariant-loop-found : goal.invariant-loop-found
invariant-loop-found l = record {
  marks : l.marks ≡ map mark_of_found (take l.found-index l.all);
  some : length l.marks ≡ l.found-index;
}
