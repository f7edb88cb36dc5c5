use Rattle.std.proofs.Common.{◌≡◌, ◌<◌, ◌||◌, ℕ, false, length, take}
use Rattle.std.specs.Prelude.{slice_index_or}
use Rattle.std.specs.List.{list_any}
use Rattle.thread_plan.specs.Globals.{sets}
use Rattle.thread_plan.proofs.marks.mark_sets.Given as goal

-- what the instructions so far set is marked
abbrev pub invariant-loop-instr : goal.invariant-loop-instr
invariant-loop-instr l = record {
  count : length l.marks.items ≡ length l.initial.marks.items;
  marked : (g : ℕ) → g < length l.initial.marks.items → slice_index_or l.marks.items g false ≡ (slice_index_or l.initial.marks.items g false || list_any (sets g) (take l.instr-index l.code));
}
