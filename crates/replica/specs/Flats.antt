-- Items that are known or that clash.
use Rattle.std.specs.Prelude.{Bool, true, false, nat_le, Option, Some, None}
use Rattle.log_pieces.specs.declared.end.End.{End}
use Rattle.log_pieces.specs.declared.flat.Flat.{Flat}
use Rattle.log_pieces.specs.declared.flat.Flat.TheVariants.{Known, Clash}
use Rattle.wasm_types.specs.declared.sizes.TheConstants.{MOST_STEPS}

-- the end, where one is claimed and no two differ
abbrev pub known_end : Option (Flat End) → Option End
known_end None = None
known_end (Some (Known end)) = Some end
known_end (Some Clash) = None

abbrev pub is_clash : {T : Type 0} → Flat T → Bool
is_clash (Known x) = false
is_clash Clash = true

-- an end that is known has at most 1,000,000,000 steps
abbrev pub few_steps : Option (Flat End) → Bool
few_steps None = true
few_steps (Some (Known end)) = nat_le end.steps MOST_STEPS
few_steps (Some Clash) = true
