use Rattle.std.proofs.Common.{◌≡◌, ◌<◌, ℕ, false, length, take}
use Rattle.std.specs.Prelude.{slice_index_or}
use Rattle.std.specs.List.{list_any}
use Rattle.thread_plan.specs.Globals.{sets}
use Rattle.thread_plan.proofs.marks.set_globals.Given as goal

-- what the bodies so far set is marked
abbrev pub invariant-loop-body : goal.invariant-loop-body
invariant-loop-body l = record {
  count : length l.marks.items ≡ length l.«module».globals;
  marked : (g : ℕ) → g < length l.«module».globals → slice_index_or l.marks.items g false ≡ list_any (λ body. list_any (sets g) body.code) (take l.body-index l.«module».bodies);
}
