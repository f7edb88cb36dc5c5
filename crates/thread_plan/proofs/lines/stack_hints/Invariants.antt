use Rattle.std.proofs.Common.{◌≡◌, flat_map, string_bytes}
use Rattle.std.specs.List.{range_with_len}
use Rattle.thread_plan.specs.Hints.{stack_hint}
use Rattle.thread_plan.proofs.lines.stack_hints.Given as goal

-- the globals so far
abbrev pub invariant-loop-global : goal.invariant-loop-global
invariant-loop-global l = string_bytes l.text ≡ flat_map (stack_hint l.«module» l.plan.threads) (range_with_len 0 l.global)
