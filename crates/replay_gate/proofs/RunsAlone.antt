-- Runs of a thread that makes no access.
use Rattle.std.proofs.Common.{◌≡◌, ℕ, zero, suc, ◌+◌, ◌<◌, ◌≤◌, ◌==◌, Bool, true, false, cond, List, [], ◌∷◌, ◌++◌, length, Option, Some, None, slice_get, refl, sym, ap, ◌∙◌, subst, arith, inl, inr}
use Rattle.std.proofs.lemmas.Bool.{cases_eq}
use Rattle.std.proofs.lemmas.Bool.Decides.{Decides-eqb}
use Rattle.rw_objects.specs.declared.entry.Entry.{Entry}
use Rattle.rw_objects.specs.Space.{Space}
use Rattle.rw_objects.specs.Code.{Code, CodeLaws}
use Rattle.rw_objects.specs.LocalRun.{GoesLocally}
use Rattle.rw_objects.specs.Memory.{entry_of}
use Rattle.event_core.specs.declared.pick.Input.TheVariants.{Go}
use Rattle.event_core.specs.declared.step.PickStep.{PickStep}
use Rattle.event_core.specs.declared.step.PickStep.TheVariants as step
use Rattle.event_core.specs.LocalRun.{go_of, goes, thread_in, AreLocal, IsLocalRun}
use Rattle.event_core.specs.PickStep.{is_enabled}
use Rattle.event_core.specs.Run.{entries, entries_of_step, world_run, IsRun}
use Rattle.event_core.specs.ThreadRun.{put_all, IsThreadRun}
use Rattle.event_core.specs.Threads.{ThreadAt, change_at, thread_after_local}
use Rattle.event_core.specs.World.{WorldAt, step_of_pick, world_after, world_after_step}
use Rattle.event_core.proofs.LocalRuns.{get_same, get_other, changed_twice, nothing_changed}
use Rattle.event_core.proofs.SoundSteps.{length_change}
use Rattle.event_core.proofs.Steps.{thread_local}
use Rattle.log_pieces.specs.declared.end.End.{End}
use Rattle.log_pieces.specs.declared.flat.Flat.{Flat}
use Rattle.log_pieces.specs.declared.flat.Flat.TheVariants as flat
use Rattle.replay_laws.specs.Log.{Log}
use Rattle.replay_gate.specs.Alone.{GoesAlone}
use Rattle.replay_gate.specs.Leads.{Leads}
use Rattle.replay_gate.specs.Local.{steps_left_of}
use Rattle.replay_gate.proofs.Going.{nowhere, local_leads}
use Rattle.std.proofs.lemmas.Option.{same_Some}

-- what a log takes that takes all entries or none
abbrev all_or_none : Bool → Entry → Option Bool
all_or_none b e = cond b (Some b) None

none_put : (u : Bool) (es : List Entry) → put_all all_or_none false es ≡ Some u → es ≡ []
none_put u [] h = refl
none_put u (e ∷ es) h = absurd cc

own_entry : (t : ℕ) (e : Entry) (es : List Entry) → cond (t == t) (e ∷ []) [] ++ es ≡ [] → ⊥
own_entry t e es h = let k = ap (λ b. cond b (e ∷ []) [] ++ es) (sym ((Decides-eqb t t).1 refl)) ∙ h in cc

module _ {State Op Reply Value Fixed : Type 0} (space : Space Op Reply Value Fixed) (code : Code State Op Reply Fixed) where
  -- a run of a thread without entries is one of local steps
  local_step : (t n : ℕ) (w : WorldAt State Value Fixed) (s : PickStep Op) → step_of_pick space code w (go_of t) ≡ s → is_enabled s ≡ true
      → entries_of_step space w.memory t t s ++ entries space code (world_after_step space code w t s) (goes t n) t ≡ [] → (s ≡ step.Local) × (entries space code (world_after_step space code w t s) (goes t n) t ≡ [])
  local_step t n w (step.Refused f) is on none = absurd cc
  local_step t n w step.Local is on none = (refl, none)
  local_step t n w (step.Event op) is on none = absurd (own_entry t (entry_of space w.memory op) _ none)

  are_local : (t n : ℕ) (w : WorldAt State Value Fixed) → IsRun space code w (goes t n) → entries space code w (goes t n) t ≡ [] → AreLocal space code w (goes t n)
  are_local t zero w run none = tt
  are_local t (suc n) w run none =
      let k = local_step t n w (step_of_pick space code w (go_of t)) refl run.0 none in
      (k.0, are_local t n (world_after space code w (go_of t)) run.1 k.1)

  -- where local steps of a thread lead
  pub record Alone (t n : ℕ) (w v : WorldAt State Value Fixed) (th : ThreadAt State) : Type 0 where
    pub state : State
    pub goes_locally : GoesLocally code n th.state state
    pub leads : v ≡ record { threads = change_at w.threads t (thread_in state); memory = w.memory }

  alone : (t n : ℕ) (w : WorldAt State Value Fixed) (th : ThreadAt State) → slice_get w.threads t ≡ Some th → AreLocal space code w (goes t n) → Alone t n w (world_run space code w (goes t n)) th
  alone t zero w th is l = record {
    state = th.state;
    goes_locally = refl;
    leads = ap (λ ts. record { threads = ts; memory = w.memory }) (sym (nothing_changed (thread_in th.state) w.threads t th is refl));
  }
  alone t (suc n) w th is l =
      let k = thread_local space code w.memory (slice_get w.threads t) Go l.0 in
      let same : k.0 ≡ th = same_Some k.0 th (sym k.1 ∙ is) in
      let can = subst (Rattle.event_core.specs.Threads.CanStepLocally code) same k.2 in
      let v : WorldAt State Value Fixed = record { threads = change_at w.threads t (thread_after_local code); memory = w.memory } in
      let after : world_after space code w (go_of t) ≡ v = ap (world_after_step space code w t) l.0 in
      let rest = alone t n v (thread_after_local code th) (get_same (thread_after_local code) w.threads t th is) (subst (λ x. AreLocal space code x (goes t n)) after l.1) in
      record {
        state = rest.state;
        goes_locally = (can.next, can.steps, rest.goes_locally);
        leads = ap (λ x. world_run space code x (goes t n)) after ∙ rest.leads ∙ ap (λ ts. record { threads = ts; memory = w.memory }) (changed_twice (thread_after_local code) (thread_in rest.state) w.threads t);
      }

  -- the steps that are left
  pub record LeftWithin (log : Log) (t n : ℕ) (th : ThreadAt State) : Type 0 where
    pub end : End
    pub is_known : log.end t ≡ Some (flat.Known end)
    pub within : code.steps th.state + n ≤ end.steps

  left_by : (log : Log) (t n : ℕ) (th : ThreadAt State) (o : Option (Flat End)) → log.end t ≡ o → 0 < n → n ≤ steps_left_of code o (Some th) → LeftWithin log t n th
  left_by log t n th None is some few = absurd (omega (arith, some, few))
  left_by log t n th (Some flat.Clash) is some few = absurd (omega (arith, some, few))
  left_by log t n th (Some (flat.Known e)) is some few = record { end = e; is_known = is; within = omega (arith, some, few) }

  pub left_within : (log : Log) (t n : ℕ) (w : WorldAt State Value Fixed) (th : ThreadAt State) → slice_get w.threads t ≡ Some th → 0 < n → n ≤ steps_left_of code (log.end t) (slice_get w.threads t) → LeftWithin log t n th
  left_within log t n w th is some few = left_by log t n th (log.end t) refl some (subst (λ o. n ≤ steps_left_of code (log.end t) o) is few)

  none_left : (o : Option (Flat End)) → steps_left_of code o None ≡ 0
  none_left None = refl
  none_left (Some flat.Clash) = refl
  none_left (Some (flat.Known e)) = refl

  -- what a run of a thread makes that makes no access
  pub record Ran (log : Log) (t n : ℕ) (w v : WorldAt State Value Fixed) : Type 0 where
    pub goes_on : GoesAlone code t n w v
    pub leads : Leads space code log w v

  module _ (rules : CodeLaws space code) (log : Log) (t n : ℕ) (w v : WorldAt State Value Fixed) (few : n ≤ steps_left_of code (log.end t) (slice_get w.threads t)) where
    stays : v ≡ w → slice_get w.threads t ≡ None → Ran log t n w v
    stays same none = record {
      goes_on = record {
        memory = ap (λ (x : WorldAt State Value Fixed). x.memory) same;
        len = ap (λ (x : WorldAt State Value Fixed). length x.threads) same;
        others = λ i d. ap (λ (x : WorldAt State Value Fixed). slice_get x.threads i) same;
        own = λ th is. absurd cc;
      };
      leads = subst (Leads space code log w) (sym same) (nowhere space code log w);
    }

    leads_by_count : (th : ThreadAt State) → slice_get w.threads t ≡ Some th → IsLocalRun space code t n w v → Leads space code log w v
    leads_by_count th is run =
        elim (cases_eq n 0) [
          | inl e ↦ subst (Leads space code log w) (sym (run.leads ∙ ap (λ k. world_run space code w (goes t k)) e)) (nowhere space code log w)
          | inr some ↦
              let l = left_within log t n w th is (omega (arith, some)) few in
              local_leads space code rules log t n w v th l.end is l.is_known l.within run
        ]

    moves : (th : ThreadAt State) → slice_get w.threads t ≡ Some th → IsLocalRun space code t n w v → Ran log t n w v
    moves th is run =
        let a = alone t n w th is run.local in
        let after = run.leads ∙ a.leads in
        record {
          goes_on = record {
            memory = ap (λ (x : WorldAt State Value Fixed). x.memory) after;
            len = ap (λ (x : WorldAt State Value Fixed). length x.threads) after ∙ length_change (thread_in a.state) w.threads t;
            others = λ i d. ap (λ (x : WorldAt State Value Fixed). slice_get x.threads i) after ∙ get_other (thread_in a.state) w.threads t i d;
            own = λ other h.
                let same : other ≡ th = same_Some other th (sym h ∙ is) in
                subst (λ y. (s : State) × GoesLocally code n y.state s × (slice_get v.threads t ≡ Some (thread_in s y))) (sym same)
                (a.state, a.goes_locally, ap (λ (x : WorldAt State Value Fixed). slice_get x.threads t) after ∙ get_same (thread_in a.state) w.threads t th is);
          };
          leads = leads_by_count th is run;
        }

    by_thread : (o : Option (ThreadAt State)) → slice_get w.threads t ≡ o → IsLocalRun space code t n w v → Ran log t n w v
    by_thread None is run =
        let none : n ≡ 0 = let e = ap (steps_left_of code (log.end t)) is ∙ none_left (log.end t) in omega (arith, few, e) in
        stays (run.leads ∙ ap (λ k. world_run space code w (goes t k)) none) is
    by_thread (Some th) is run = moves th is run

    pub ran : (b : Bool) → IsThreadRun space code all_or_none t n w v false b → Ran log t n w v
    ran b run =
        by_thread (slice_get w.threads t) refl (record { local = are_local t n w run.run (none_put b (entries space code w (goes t n) t) run.log); leads = run.leads })
