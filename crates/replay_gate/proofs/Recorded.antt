-- Where a replay stops whose log is below that of a run, or is that log.
use Rattle.std.proofs.Common.{◌≡◌, ℕ, false, List, length, Some, ap, ◌∙◌, subst, arith, inl, inr}
use Rattle.std.proofs.Math.Logic.{∥∥₁_elim}
use Rattle.std.proofs.lemmas.Option.{slice_get_within}
use Rattle.rw_objects.specs.Space.{Space, SpaceLaws}
use Rattle.rw_objects.specs.Code.{Code, CodeLaws}
use Rattle.event_core.specs.declared.pick.Input.{Input}
use Rattle.event_core.specs.declared.pick.Pick.{Pick}
use Rattle.event_core.specs.World.{WorldAt}
use Rattle.event_core.specs.Opening.{IsOpeningWorld}
use Rattle.replay_laws.specs.declared.turn.Turn.{Turn}
use Rattle.replay_laws.specs.declared.turn.Turn.TheVariants as turn
use Rattle.replay_laws.specs.Log.{Log, HasLimits}
use Rattle.replay_laws.specs.Gates.{LetsPass}
use Rattle.replay_laws.specs.Turns.{turn_of, input_of_turn}
use Rattle.replay_laws.specs.Ordered.{thread_of_turn}
use Rattle.replay_laws.specs.Laws.{IsWholeRun}
use Rattle.replay_laws.proofs.Replays.{complete_logs_are_run_logs, turns_are_gated_steps}
use Rattle.replay_gate.specs.Answers.{makes_step}
use Rattle.replay_gate.specs.Leads.{Leads}
use Rattle.replay_gate.proofs.Refusing.{right_at, free_at}
use Rattle.replay_gate.specs.declared.breaks.Break.{Break}
use Rattle.replay_gate.specs.declared.breaks.Stopped.{Stopped}
use Rattle.replay_gate.specs.declared.breaks.Stopped.TheVariants as stopped
use Rattle.replay_gate.specs.Stops.{RunsOut, StopsAt, StopsRight, StopsFree}
use Rattle.replay_gate.proofs.BreakRoundsOn.{at_length}

no_prop : IsProp ⊥
no_prop a b = absurd a

step_by_input : (x : Turn) (i : Input) → input_of_turn x ≡ Some i → makes_step x ≡ false → ⊥
step_by_input turn.Done i h s = cc
step_by_input turn.Local i h s = cc
step_by_input (turn.Event input) i h s = cc
step_by_input (turn.Refused r) i h s = cc

module _ {State Op Reply Value Fixed : Type 0} (space : Space Op Reply Value Fixed) (code : Code State Op Reply Fixed) (laws : SpaceLaws space) (rules : CodeLaws space code) where
  module _ (log : Log) (opened start v : WorldAt State Value Fixed) (order : List ℕ) (breaks : List Break) (o : ∥ IsOpeningWorld code opened ∥₁) (leads : ∥ Leads space code log opened v ∥₁) where
    right : (s : Stopped) → StopsAt space code log start order breaks v s → StopsRight space code log opened s
    right (stopped.Break index) h picks run below = tt
    right stopped.Finished h picks run below = tt
    right stopped.Stuck h picks run below = tt
    right (stopped.Fault f) h picks run below =
        let t = thread_of_turn order (length start.threads) h.turns in
        elim h.stops.0 [
          | inl e ↦ e
          | inr d ↦ absurd (∥∥₁_elim o no_prop (λ opening. ∥∥₁_elim leads no_prop (λ l.
              (right_at space code laws rules log opened v picks opening run below l).no_divergence t (ap (λ u. turn_of space code log u t) h.stops.1 ∙ d.refused))))
        ]

    goes_on : HasLimits log → RunsOut space code log start order breaks v → (p : Pick) → LetsPass space code log v p → ⊥
    goes_on limits r p lets =
        let l = slice_get_within v.threads p.thread lets.thread lets.exists in
        let e = at_length space code log start order breaks r.turns v r.behind in
        step_by_input (turn_of space code log v p.thread) p.input ((turns_are_gated_steps space code laws rules log limits v p.thread p.input).1 lets) (r.still p.thread (omega (arith, l, e)))

    free : HasLimits log → (s : Stopped) → StopsAt space code log start order breaks v s → StopsFree space code log opened s
    free limits (stopped.Break index) h picks run below complete = tt
    free limits stopped.Finished h picks run below complete = tt
    free limits stopped.Stuck h picks run below complete =
        ∥∥₁_elim o no_prop (λ opening. ∥∥₁_elim leads no_prop (λ l.
        let whole : IsWholeRun space code opened picks = record { opening = opening; run = run } in
        let at = free_at space code laws rules log opened v picks whole (complete_logs_are_run_logs space code laws rules opened picks whole log below complete) l in
        elim at.goes_on [
          | inl f ↦ h.1 f
          | inr x ↦ goes_on limits h.0 x.0 x.1
        ]))
    free limits (stopped.Fault f) h picks run below complete = right (stopped.Fault f) h picks run below

  -- the same of a replay that stands at that world, whose log and opening stayed
  module _ (log log' : Log) (opened opened' start v : WorldAt State Value Fixed) (order : List ℕ) (breaks : List Break) (same_log : log' ≡ log) (same_opened : opened' ≡ opened)
      (o : ∥ IsOpeningWorld code opened' ∥₁) (leads : ∥ Leads space code log' opened' v ∥₁) where
    pub stops_right : (s : Stopped) → StopsAt space code log start order breaks v s → StopsRight space code log opened s
    stops_right s h =
        right log opened start v order breaks (subst (λ x. ∥ IsOpeningWorld code x ∥₁) same_opened o)
        (subst (λ x. ∥ Leads space code log x v ∥₁) same_opened (subst (λ l. ∥ Leads space code l opened' v ∥₁) same_log leads)) s h

    pub stops_free : HasLimits log → (s : Stopped) → StopsAt space code log start order breaks v s → StopsFree space code log opened s
    stops_free limits s h =
        free log opened start v order breaks (subst (λ x. ∥ IsOpeningWorld code x ∥₁) same_opened o)
        (subst (λ x. ∥ Leads space code log x v ∥₁) same_opened (subst (λ l. ∥ Leads space code l opened' v ∥₁) same_log leads)) limits s h
