-- What tests of replays are made of. A log of threads whose events are accesses of one object each: at a place of a
-- thread nothing, a clash or an access; and the sum with which a thread ends behind two events. And the opening world
-- of scripts.
use Rattle.std.specs.Prelude.{◌≡◌, ℕ, ◌≤◌, List, [], ◌∷◌, length, Option, Some, None, slice_get, option_map, refl}
use Rattle.std.specs.Option.{option_and_then}
use Rattle.std.proofs.Common.{subst, arith}
use Rattle.wasm_types.specs.declared.outcome.Outcome.TheVariants.{Done}
use Rattle.wasm_types.specs.declared.value.Value.TheVariants.{I64}
use Rattle.rw_objects.specs.declared.touch.Found.{Found}
use Rattle.rw_objects.specs.declared.entry.Entry.{Entry}
use Rattle.rw_objects.specs.declared.entry.Kind.TheVariants.{Access}
use Rattle.event_core.specs.Opening.{IsOpeningWorld, opening_world}
use Rattle.event_core.specs.World.{WorldAt}
use Rattle.event_core.proofs.Opens.{opening_is_opening}
use Rattle.log_pieces.specs.declared.end.End.{End}
use Rattle.log_pieces.specs.declared.flat.Flat.{Flat}
use Rattle.log_pieces.specs.declared.flat.Flat.TheVariants.{Known, Clash}
use Rattle.replay_laws.specs.Log.{Log, HasLimits}
use Rattle.scripted.specs.declared.op.ScriptStep.{ScriptStep}
use Rattle.scripted.specs.Cells.{cell_values}
use Rattle.scripted.specs.Script.{script_of, script_code}
use Rattle.scripted.specs.ScriptAt.{ScriptAt}

abbrev pub access_of : Option Found → Flat Entry
access_of None = Clash
access_of (Some found) = Known (record { kind = Access; found = found ∷ [] })

abbrev pub end_with : ℕ → Flat End
end_with sum = Known (record { steps = 2; places = 2; outcome = Done (Some (I64 sum)) })

abbrev pub claimed : List (List (Option (Option Found))) → List (Option ℕ) → Log
claimed accesses sums = record {
  entry = λ t place. option_map access_of (option_and_then (λ o. o) (option_and_then (λ row. slice_get row place) (slice_get accesses t)));
  end = λ t. option_map end_with (option_and_then (λ o. o) (slice_get sums t));
}

few_steps : (o : Option ℕ) (e : End) → option_map end_with o ≡ Some (Known e) → e.steps ≤ 1000000000
few_steps None e h = absurd (cc)
few_steps (Some sum) e h =
    let is : record { steps = 2; places = 2; outcome = Done (Some (I64 sum)) } ≡ e = cc in
    subst (λ (x : End). x.steps ≤ 1000000000) is (omega arith)

pub few : (accesses : List (List (Option (Option Found)))) (sums : List (Option ℕ)) → HasLimits (claimed accesses sums)
few accesses sums t e h = few_steps (option_and_then (λ o. o) (slice_get sums t)) e h

-- scripts over cells that hold 0
abbrev pub scripts_world : List (List ScriptStep) → WorldAt ScriptAt ℕ (Unit {0})
scripts_world scripts = opening_world script_of tt (cell_values (0 ∷ 0 ∷ 0 ∷ [])) scripts

pub scripts_open : (scripts : List (List ScriptStep)) → length scripts ≤ 16 → IsOpeningWorld script_code (scripts_world scripts)
scripts_open scripts most =
    opening_is_opening script_code script_of tt (cell_values (0 ∷ 0 ∷ 0 ∷ [])) scripts most (λ t m e. record { no_steps = refl; made_for = refl; is_suited = refl })
