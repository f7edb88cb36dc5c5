-- A log of threads that rest, each of which ends behind 202 steps.
use Rattle.std.specs.Prelude.{◌≡◌, ℕ, ◌≤◌, List, Option, Some, None, option_map}
use Rattle.std.proofs.Common.{subst, arith}
use Rattle.rw_objects.specs.declared.touch.Found.{Found}
use Rattle.log_pieces.specs.declared.end.End.{End}
use Rattle.log_pieces.specs.declared.flat.Flat.{Flat}
use Rattle.log_pieces.specs.declared.flat.Flat.TheVariants.{Known, Clash}
use Rattle.replay_laws.specs.Log.{Log, HasLimits}
use Rattle.replay_tests.specs.Claimed.{claimed}

abbrev pub resting_end : Flat End → Flat End
resting_end Clash = Clash
resting_end (Known end) = Known (record { steps = 202; places = end.places; outcome = end.outcome })

abbrev pub resting : List (List (Option (Option Found))) → List (Option ℕ) → Log
resting accesses sums = record {
  entry = (claimed accesses sums).entry;
  end = λ t. option_map resting_end ((claimed accesses sums).end t);
}

few_steps : (o : Option (Flat End)) (e : End) → option_map resting_end o ≡ Some (Known e) → e.steps ≤ 1000000000
few_steps None e h = absurd cc
few_steps (Some Clash) e h = absurd cc
few_steps (Some (Known end)) e h =
    let is : record { steps = 202; places = end.places; outcome = end.outcome } ≡ e = cc in
    subst (λ (x : End). x.steps ≤ 1000000000) is (omega arith)

pub few_rested : (accesses : List (List (Option (Option Found)))) (sums : List (Option ℕ)) → HasLimits (resting accesses sums)
few_rested accesses sums t e h = few_steps ((claimed accesses sums).end t) e h
