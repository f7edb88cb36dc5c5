use Rattle.std.proofs.Common.{◌≡◌, ◌++◌, take, codes, flat_map, string_bytes}
use Rattle.wasm_types.specs.Text.{outcome_text}
use Rattle.commands.proofs.hunt_surveys.put_others.Given as goal

abbrev pub invariant-loop-outcome : goal.invariant-loop-outcome
invariant-loop-outcome l = string_bytes l.text ≡ string_bytes l.initial.text ++ flat_map (λ o. codes ", " ++ outcome_text o) (take l.outcome-index l.outcomes)
