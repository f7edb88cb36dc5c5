-- Where some schedule comes to the log's ends, so does every order; and what the end of an order tells of runs.
use Rattle.std.proofs.Common.{◌≡◌, ℕ, List, inl, inr, sym, ap, ◌∙◌, subst}
use Rattle.std.specs.Prelude.{◌⊎◌, Option, Some, Result, Ok, Err, IfSome, IfOk, IfErr}
use Rattle.rw_objects.specs.Space.{Space, SpaceLaws}
use Rattle.rw_objects.specs.Code.{Code, CodeLaws}
use Rattle.event_core.specs.World.{WorldAt}
use Rattle.event_core.specs.Opening.{IsOpeningWorld}
use Rattle.event_core.specs.End.{RunEnd}
use Rattle.event_core.specs.Run.{end_of_world}
use Rattle.replay_laws.specs.declared.turn.Refusal.{Refusal}
use Rattle.replay_laws.specs.Log.{Log, HasLimits}
use Rattle.replay_laws.specs.Gates.{IsFinished}
use Rattle.replay_laws.specs.Finishing.{Ends, Stops, Sticks, IsFinishedRun, OrderedEnds}
use Rattle.replay_laws.proofs.Finishing.{finished_runs_are_ordered, ordered_ends_are_finished}
use Rattle.replay_laws.proofs.Replays.{finished_replays_vouch, finished_replays_end_alike}
use Rattle.replay_laws.proofs.OneAnswer.{one_ordered_answer}
use Rattle.replay_gate.specs.declared.answers.ReplayFault.{ReplayFault}
use Rattle.replay_gate.specs.declared.answers.ReplayFault.TheVariants as fault
use Rattle.replay_gate.specs.Leads.{Leads}
use Rattle.replay_gate.specs.Answers.{IsOrderedFault, IsVouchedEnd, IsEndOfRuns, IsWantOfMemory}

pub if_some : {A : Type 0} (P : A → Type 0) (o : Option A) (a : A) → o ≡ Some a → IfSome o P → P a
if_some P o a is h = subst (λ x. IfSome x P) is h

-- what holds of each answer holds of the one that there is
pub if_ok : {A E : Type 0} (P Q : A → Type 0) (r : Result A E) → ((a : A) → P a → Q a) → IfOk r P → IfOk r Q
if_ok P Q (Ok a) f h = f a h
if_ok P Q (Err e) f h = tt

pub if_err : {A E : Type 0} (P Q : E → Type 0) (r : Result A E) → ((e : E) → P e → Q e) → IfErr r P → IfErr r Q
if_err P Q (Ok a) f h = tt
if_err P Q (Err e) f h = f e h

ends_or_stops : (end : RunEnd) (r : Refusal) (t place : ℕ) → Ends end ≡ Stops r t place → ⊥
ends_or_stops end r t place h = cc

ends_or_sticks : (end : RunEnd) → Ends end ≡ Sticks → ⊥
ends_or_sticks end h = cc

module _ {State Op Reply Value Fixed : Type 0} (space : Space Op Reply Value Fixed) (code : Code State Op Reply Fixed) (laws : SpaceLaws space) (rules : CodeLaws space code) where
  pub every_order : (log : Log) (o w v : WorldAt State Value Fixed) (end : RunEnd) → IsOpeningWorld code o → w ≡ o → Leads space code log w v → IsFinished code log v → end ≡ end_of_world space code v
      → (order : List ℕ) → OrderedEnds space code log o order end
  every_order log o w v end opening same l f is order =
      let run : IsFinishedRun space code log w l.picks = record { opening = subst (IsOpeningWorld code) (sym same) opening; gated = l.gated; finished = subst (IsFinished code log) l.leads f } in
      let e = is ∙ ap (end_of_world space code) l.leads in
      subst (λ x. OrderedEnds space code log x order end) same (subst (OrderedEnds space code log w order) (sym e) (finished_runs_are_ordered space code laws rules w log l.picks run order))

  pub vouched_end : (log : Log) → HasLimits log → (w : WorldAt State Value Fixed) → IsOpeningWorld code w → (order : List ℕ) (end : RunEnd) → OrderedEnds space code log w order end → IsVouchedEnd space code log w end
  vouched_end log limits w opening order end e =
      let r = ordered_ends_are_finished space code laws rules log limits w opening order end e in
      record { picks = r.picks; vouched = finished_replays_vouch space code laws rules w opening log r.picks r.run.gated r.run.finished; is = r.is }

  pub end_of_runs : (log : Log) → HasLimits log → (w : WorldAt State Value Fixed) → IsOpeningWorld code w → (order : List ℕ) (end : RunEnd) → OrderedEnds space code log w order end → IsEndOfRuns space code log w end
  end_of_runs log limits w opening order end e picks run below =
      let r = ordered_ends_are_finished space code laws rules log limits w opening order end e in
      r.is ∙ finished_replays_end_alike space code laws rules w picks (record { opening = opening; run = run }) log below r.picks r.run.gated r.run.finished

  pub want_of_memory : (log : Log) (w : WorldAt State Value Fixed) (order : List ℕ) (f : ReplayFault) → (f ≡ fault.NoMemory) ⊎ IsOrderedFault space code log w order f → IsWantOfMemory space code log w f
  want_of_memory log w order f (inl memory) picks run = memory
  want_of_memory log w order f (inr stops) picks run =
      let end = finished_runs_are_ordered space code laws rules w log picks run order in
      elim stops [
        | inl s ↦ absurd (ends_or_stops _ _ _ _ (one_ordered_answer space code log w order (Ends _) (Stops s.refusal s.thread s.place) end s.stops))
        | inr s ↦ absurd (ends_or_sticks _ (one_ordered_answer space code log w order (Ends _) Sticks end s.1))
      ]
