-- What refusals of turns tell of the log, and where turns lead.
use Rattle.std.proofs.Common.{◌≡◌, ℕ, ◌⊎◌, true, List, [], ◌∷◌, Option, Some, None, slice_get, inl, inr, refl, sym, ap, ◌∙◌, subst}
use Rattle.std.specs.Prelude.{Result, Ok, Err, OnOk, OnErr}
use Rattle.std.proofs.Math.Logic.{∥∥₁_elim, ∥∥₁_map, ∥∥₁_prop}
use Rattle.rw_objects.specs.Space.{Space, SpaceLaws}
use Rattle.rw_objects.specs.Code.{Code, CodeLaws}
use Rattle.event_core.specs.declared.pick.Pick.{Pick}
use Rattle.event_core.specs.declared.pick.Input.{Input}
use Rattle.event_core.specs.declared.pick.Input.TheVariants.{Go}
use Rattle.event_core.specs.Threads.{ThreadAt}
use Rattle.event_core.specs.World.{WorldAt, world_after}
use Rattle.event_core.specs.Opening.{IsOpeningWorld}
use Rattle.event_core.specs.Run.{world_run, IsRun}
use Rattle.replay_laws.specs.declared.turn.Turn.{Turn}
use Rattle.replay_laws.specs.declared.turn.Turn.TheVariants as turn
use Rattle.replay_laws.specs.declared.turn.Refusal.{Refusal}
use Rattle.replay_laws.specs.declared.turn.Refusal.TheVariants.{Missing, Clash, Shut, Diverged}
use Rattle.replay_laws.specs.Log.{Log, HasLimits, IsBelowLog}
use Rattle.replay_laws.specs.RunLog.{run_log}
use Rattle.replay_laws.specs.Gates.{IsGatedRun}
use Rattle.replay_laws.specs.Laws.{IsWholeRun, IsRight, IsFree}
use Rattle.replay_laws.specs.Turns.{pick_of, turn_of, turn_by_thread, world_after_turn, input_of_turn}
use Rattle.replay_laws.specs.Finishing.{PassesOn}
use Rattle.replay_laws.proofs.Replays.{replays_are_right, complete_logs_are_run_logs, turns_are_gated_steps}
use Rattle.replay_laws.proofs.Freedom.{complete_replays_are_free}
use Rattle.replay_gate.specs.declared.answers.ReplayFault.{ReplayFault}
use Rattle.replay_gate.specs.declared.answers.ReplayFault.TheVariants as fault
use Rattle.replay_gate.specs.declared.answers.Turned.TheVariants as turned
use Rattle.replay_gate.specs.Answers.{fault_of, makes_step, IsThreadsFault, TurnStops}
use Rattle.replay_gate.specs.Leads.{Leads}
use Rattle.replay_gate.specs.Turned.{answer_of_turn, TurnRefused, IsOfLessLog, IsShutOrWanting, IsRightRefusal, IsFreeRefusal}
use Rattle.replay_gate.specs.Shows.{ShowsRecorded}
use Rattle.replay_gate.proofs.Going.{nowhere, leads_on}

-- what follows from what holds on Ok, and from what holds on Err
pub either_way : {A E P Q R : Type 0} (r : Result A E) → OnOk r P → OnErr r Q → (P → R) → (Q → R) → R
either_way (Ok a) p q f g = f p
either_way (Err e) p q f g = g q

-- ---- answers

pub local_steps : (o : Turn) → answer_of_turn o ≡ Some turned.Local → makes_step o ≡ true
local_steps turn.Done h = absurd cc
local_steps turn.Local h = refl
local_steps (turn.Event input) h = refl
local_steps (turn.Refused r) h = absurd cc

shut_of : (r : Refusal) (t place : ℕ) → fault.Shut ≡ fault_of r t place → r ≡ Shut
shut_of Missing t place h = absurd cc
shut_of Clash t place h = absurd cc
shut_of Shut t place h = refl
shut_of Diverged t place h = absurd cc

not_shut : (r : Refusal) (t place : ℕ) (f : ReplayFault) → (f ≡ fault.Shut → ⊥) → f ≡ fault_of r t place → PassesOn (turn.Refused r) → ⊥
not_shut Missing t place f n e h = h
not_shut Clash t place f n e h = h
not_shut Shut t place f n e h = n e
not_shut Diverged t place f n e h = h

module _ {State Op Reply Value Fixed : Type 0} (space : Space Op Reply Value Fixed) (code : Code State Op Reply Fixed) (log : Log) (w : WorldAt State Value Fixed) (t : ℕ) where
  -- a turn is refused of a thread that is there
  refused_there : (r : Refusal) (o : Option (ThreadAt State)) → slice_get w.threads t ≡ o → turn_by_thread space code log w t o ≡ turn.Refused r → (th : ThreadAt State) × (slice_get w.threads t ≡ Some th)
  refused_there r None is h = absurd cc
  refused_there r (Some th) is h = (th, is)

  pub refused_so : (r : Refusal) (f : ReplayFault) → turn_of space code log w t ≡ turn.Refused r → IsThreadsFault w t r f → TurnRefused space code log w t f
  refused_so r f q is =
      let th = refused_there r (slice_get w.threads t) refl q in
      record { refusal = r; refused = q; thread = th.0; exists = th.1; is = is th.0 th.1 }

  -- a turn is refused by a shut gate where its fault is that
  pub shut_is : (f : ReplayFault) → f ≡ fault.Shut → (f ≡ fault.NoMemory) ⊎ TurnRefused space code log w t f → turn_of space code log w t ≡ turn.Refused Shut
  shut_is f e (inl n) = absurd cc
  shut_is f e (inr x) = x.refused ∙ ap (λ r. turn.Refused r) (shut_of x.refusal t x.thread.places (sym e ∙ x.is))

  -- and ends the replay by another
  pub stops_else : (f : ReplayFault) → (f ≡ fault.Shut → ⊥) → (f ≡ fault.NoMemory) ⊎ TurnRefused space code log w t f → (f ≡ fault.NoMemory) ⊎ TurnStops space code log w t f
  stops_else f n (inl e) = inl e
  stops_else f n (inr x) = inr (record { refusal = x.refusal; refused = x.refused; ends = not_shut x.refusal t x.thread.places f n x.is; thread = x.thread; exists = x.exists; is = x.is })

-- ---- what refusals tell of the log

module _ {State Op Reply Value Fixed : Type 0} (space : Space Op Reply Value Fixed) (code : Code State Op Reply Fixed) (laws : SpaceLaws space) (rules : CodeLaws space code) where
  right_by : (log : Log) (opened w : WorldAt State Value Fixed) (picks : List Pick) (t place : ℕ) (r : Refusal) → IsRight space code log opened picks w → turn_of space code log w t ≡ turn.Refused r → IsOfLessLog (fault_of r t place)
  right_by log opened w picks t place Missing ok is = tt
  right_by log opened w picks t place Shut ok is = tt
  right_by log opened w picks t place Clash ok is = ok.no_clash t is
  right_by log opened w picks t place Diverged ok is = ok.no_divergence t is

  pub right_at : (log : Log) (opened w : WorldAt State Value Fixed) (picks : List Pick) → IsOpeningWorld code opened → IsRun space code opened picks → IsBelowLog log (run_log space code opened picks) → Leads space code log opened w
      → IsRight space code log opened picks w
  right_at log opened w picks o run below leads =
      subst (IsRight space code log opened picks) (sym leads.leads) (replays_are_right space code laws rules opened picks (record { opening = o; run = run }) log below leads.picks leads.gated)

  pub right_refusal : (log : Log) (opened w : WorldAt State Value Fixed) (t : ℕ) (f : ReplayFault) → IsOpeningWorld code opened → Leads space code log opened w
      → (f ≡ fault.NoMemory) ⊎ TurnRefused space code log w t f → IsRightRefusal space code log opened f
  right_refusal log opened w t f o leads (inl e) picks run below = subst IsOfLessLog (sym e) tt
  right_refusal log opened w t f o leads (inr x) picks run below =
      subst IsOfLessLog (sym x.is) (right_by log opened w picks t x.thread.places x.refusal (right_at log opened w picks o run below leads) x.refused)

  free_by : (log : Log) (w : WorldAt State Value Fixed) (t place : ℕ) (r : Refusal) → IsFree space code log w → turn_of space code log w t ≡ turn.Refused r → IsShutOrWanting (fault_of r t place)
  free_by log w t place Missing ok is = absurd (ok.no_missing t is)
  free_by log w t place Shut ok is = tt
  free_by log w t place Clash ok is = absurd (ok.no_clash t is)
  free_by log w t place Diverged ok is = absurd (ok.no_divergence t is)

  pub free_at : (log : Log) (opened w : WorldAt State Value Fixed) (picks : List Pick) → IsWholeRun space code opened picks → log ≡ run_log space code opened picks → Leads space code log opened w → IsFree space code log w
  free_at log opened w picks whole same leads =
      let free = complete_replays_are_free space code laws rules opened picks whole leads.picks (subst (λ l. IsGatedRun space code l opened leads.picks) same leads.gated) in
      subst (IsFree space code log) (sym leads.leads) (subst (λ l. IsFree space code l (world_run space code opened leads.picks)) (sym same) free)

  pub free_refusal : (log : Log) (opened w : WorldAt State Value Fixed) (t : ℕ) (f : ReplayFault) → IsOpeningWorld code opened → Leads space code log opened w
      → (f ≡ fault.NoMemory) ⊎ TurnRefused space code log w t f → IsFreeRefusal space code log opened f
  free_refusal log opened w t f o leads (inl e) picks run below complete = subst IsShutOrWanting (sym e) tt
  free_refusal log opened w t f o leads (inr x) picks run below complete =
      let whole : IsWholeRun space code opened picks = record { opening = o; run = run } in
      let same = complete_logs_are_run_logs space code laws rules opened picks whole log below complete in
      subst IsShutOrWanting (sym x.is) (free_by log w t x.thread.places x.refusal (free_at log opened w picks whole same leads) x.refused)

  -- ---- where a turn leads

  step_leads : (log : Log) → HasLimits log → (w v : WorldAt State Value Fixed) (t : ℕ) (input : Input) → input_of_turn (turn_of space code log w t) ≡ Some input → v ≡ world_after space code w (pick_of t input) → Leads space code log w v
  step_leads log limits w v t input is after = record {
    picks = pick_of t input ∷ [];
    gated = ((turns_are_gated_steps space code laws rules log limits w t input).0 is, tt);
    leads = after;
  }

  turn_by : (log : Log) → HasLimits log → (w v : WorldAt State Value Fixed) (t : ℕ) (o : Turn) → turn_of space code log w t ≡ o → v ≡ world_after_turn space code w t o → Leads space code log w v
  turn_by log limits w v t turn.Done is after = subst (Leads space code log w) (sym after) (nowhere space code log w)
  turn_by log limits w v t turn.Local is after = step_leads log limits w v t Go (ap input_of_turn is) after
  turn_by log limits w v t (turn.Event input) is after = step_leads log limits w v t input (ap input_of_turn is) after
  turn_by log limits w v t (turn.Refused r) is after = subst (Leads space code log w) (sym after) (nowhere space code log w)

  pub turn_leads : (log : Log) → HasLimits log → (opened w v : WorldAt State Value Fixed) (t : ℕ) → Leads space code log opened w → v ≡ world_after_turn space code w t (turn_of space code log w t) → Leads space code log opened v
  turn_leads log limits opened w v t leads after = leads_on space code log opened w v leads (turn_by log limits w v t (turn_of space code log w t) refl after)

  -- ---- the same, where it is known only that there is such a gated run

  less_prop : (f : ReplayFault) → IsProp (IsOfLessLog f)
  less_prop (fault.Missing thread place) a b = refl
  less_prop fault.Shut a b = refl
  less_prop fault.NoMemory a b = refl
  less_prop (fault.Clash thread place) a b = absurd a
  less_prop (fault.Diverged thread place) a b = absurd a
  less_prop fault.Stuck a b = absurd a

  shut_prop : (f : ReplayFault) → IsProp (IsShutOrWanting f)
  shut_prop fault.Shut a b = refl
  shut_prop fault.NoMemory a b = refl
  shut_prop (fault.Missing thread place) a b = absurd a
  shut_prop (fault.Clash thread place) a b = absurd a
  shut_prop (fault.Diverged thread place) a b = absurd a
  shut_prop fault.Stuck a b = absurd a

  pub right_merely : (log : Log) (opened w : WorldAt State Value Fixed) (t : ℕ) (f : ReplayFault) → ∥ IsOpeningWorld code opened ∥₁ → ∥ Leads space code log opened w ∥₁
      → (f ≡ fault.NoMemory) ⊎ TurnRefused space code log w t f → IsRightRefusal space code log opened f
  right_merely log opened w t f o leads r picks run below =
      ∥∥₁_elim o (less_prop f) (λ opening. ∥∥₁_elim leads (less_prop f) (λ l. right_refusal log opened w t f opening l r picks run below))

  pub shows_merely : (log : Log) (opened w : WorldAt State Value Fixed) → ∥ IsOpeningWorld code opened ∥₁ → ∥ Leads space code log opened w ∥₁ → ShowsRecorded space code log opened w
  shows_merely log opened w o leads picks run below =
      ∥∥₁_elim o ∥∥₁_prop (λ opening. ∥∥₁_map leads (λ l. right_at log opened w picks opening run below l))

  pub free_merely : (log : Log) (opened w : WorldAt State Value Fixed) (t : ℕ) (f : ReplayFault) → ∥ IsOpeningWorld code opened ∥₁ → ∥ Leads space code log opened w ∥₁
      → (f ≡ fault.NoMemory) ⊎ TurnRefused space code log w t f → IsFreeRefusal space code log opened f
  free_merely log opened w t f o leads r picks run below complete =
      ∥∥₁_elim o (shut_prop f) (λ opening. ∥∥₁_elim leads (shut_prop f) (λ l. free_refusal log opened w t f opening l r picks run below complete))

  pub leads_merely : (log : Log) (opened w v : WorldAt State Value Fixed) → ∥ Leads space code log opened w ∥₁ → Leads space code log w v → ∥ Leads space code log opened v ∥₁
  leads_merely log opened w v leads more = ∥∥₁_map leads (λ l. leads_on space code log opened w v l more)

  pub turn_merely : (log : Log) → HasLimits log → (opened w v : WorldAt State Value Fixed) (t : ℕ) → ∥ Leads space code log opened w ∥₁ → v ≡ world_after_turn space code w t (turn_of space code log w t) → ∥ Leads space code log opened v ∥₁
  turn_merely log limits opened w v t leads after = ∥∥₁_map leads (λ l. turn_leads log limits opened w v t l after)
