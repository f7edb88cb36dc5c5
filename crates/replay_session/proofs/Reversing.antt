-- The last step behind which a break or a test holds, among the first steps of a way.
use Rattle.std.proofs.Common.{◌≡◌, ℕ, ◌≤◌, List, Option, subst}
use Rattle.std.specs.Prelude.{Result, Ok, Err, IfOk}
use Rattle.rw_objects.specs.Space.{Space}
use Rattle.rw_objects.specs.Code.{Code, CodeLaws}
use Rattle.event_core.specs.World.{WorldAt}
use Rattle.replay_laws.specs.Log.{Log}
use Rattle.replay_gate.specs.declared.breaks.Break.{Break}
use Rattle.replay_session.specs.declared.legs.Leg.{Leg}
use Rattle.replay_session.specs.declared.reverse.Hit.{Hit}
use Rattle.replay_session.specs.Legs.{steps_of_way, first_steps}
use Rattle.replay_session.specs.Reverse.{StepOfWay, IsLastHit}
use Rattle.replay_session.proofs.LastHits.{last_told}
use Rattle.replay_session.proofs.StepsOfWays.{first_count, of_all, of_first}

-- what follows on Ok
pub on_ok : {A E : Type 0} (r : Result A E) (P Q : A → Type 0) → IfOk r P → ((a : A) → P a → Q a) → IfOk r Q
on_ok (Ok a) P Q h f = f a h
on_ok (Err e) P Q h f = tt

module _ {State Op Reply Value Fixed : Type 0} (space : Space Op Reply Value Fixed) (code : Code State Op Reply Fixed) (breaks : List Break) (holds : WorldAt State Value Fixed → ℕ → Option ℕ) where
  -- the last of the first steps of a way, gone again
  pub last_of_first : CodeLaws space code → (log log' : Log) (opened start : WorldAt State Value Fixed) (old legs : List Leg) (n : ℕ) (last : Option Hit) → log' ≡ log → start ≡ opened → legs ≡ first_steps old n → n ≤ steps_of_way old
      → IsLastHit space code log' breaks holds (StepOfWay space code log' legs start) (steps_of_way legs) last → IsLastHit space code log breaks holds (StepOfWay space code log old opened) n last
  last_of_first rules log log' opened start old legs n last a b is few h =
      let same = subst (λ l. IsLastHit space code l breaks holds (StepOfWay space code l legs start) (steps_of_way legs) last) a h in
      let from = subst (λ o. IsLastHit space code log breaks holds (StepOfWay space code log legs o) (steps_of_way legs) last) b same in
      let first = subst (λ ls. IsLastHit space code log breaks holds (StepOfWay space code log ls opened) (steps_of_way ls) last) is from in
      let all = subst (λ m. IsLastHit space code log breaks holds (StepOfWay space code log (first_steps old n) opened) m last) (first_count old n few) first in
      last_told space code log breaks holds (StepOfWay space code log (first_steps old n) opened) (StepOfWay space code log old opened) n (λ m x t l s. of_all space code rules log old n opened m x t s) (λ m x t l s. of_first space code rules log old n opened m x t l s) last all
