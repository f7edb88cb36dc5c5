-- What a turn does, by what the code reads of its thread.
use Rattle.std.proofs.Common.{◌≡◌, ℕ, ◌<◌, ◌≤◌, Bool, true, false, cond, nat_lt, Some, slice_get, option_map, sym, ap, ◌∙◌, subst}
use Rattle.std.proofs.lemmas.Bool.{lt-ltb, le-ltb}
use Rattle.wasm_types.specs.declared.outcome.Outcome.{Outcome}
use Rattle.rw_objects.specs.declared.next.Next.{Next}
use Rattle.rw_objects.specs.Space.{Space}
use Rattle.rw_objects.specs.Code.{Code}
use Rattle.event_core.specs.Threads.{ThreadAt}
use Rattle.event_core.specs.End.{outcome_of}
use Rattle.event_core.specs.World.{WorldAt}
use Rattle.log_pieces.specs.Decides.{end_decides}
use Rattle.log_pieces.specs.declared.end.End.{End}
use Rattle.log_pieces.specs.declared.flat.Flat.TheVariants.{Known}
use Rattle.replay_laws.specs.declared.turn.Turn.TheVariants as turn
use Rattle.replay_laws.specs.declared.turn.Refusal.TheVariants.{Diverged}
use Rattle.replay_laws.specs.Log.{Log}
use Rattle.replay_laws.specs.RunLog.{end_of_thread}
use Rattle.replay_laws.specs.Turns.{turn_by_next, turn_by_end, turn_by_thread, turn_of, same_end}
use Rattle.replay_gate.specs.Leads.{IsAtEnd}
use Rattle.replay_gate.proofs.Going.{made_of}
use Rattle.std.proofs.lemmas.Option.{same_Some}

known_same : (a b : End) → Some (Known a) ≡ Some (Known b) → a ≡ b
known_same a b h = cc

true_or_false : (b : Bool) → b ≡ true → b ≡ false → ⊥
true_or_false b h other = cc

module _ {State Op Reply Value Fixed : Type 0} (space : Space Op Reply Value Fixed) (code : Code State Op Reply Fixed) (log : Log) (w : WorldAt State Value Fixed) (t : ℕ) where
  by_end : (th : ThreadAt State) (e : End) → slice_get w.threads t ≡ Some th → log.end t ≡ Some (Known e)
      → turn_of space code log w t ≡ cond (nat_lt (code.steps th.state) e.steps) (turn_by_next space code log w t th.places e.places (code.next th.state)) (cond (same_end e (end_of_thread code th)) turn.Done (turn.Refused Diverged))
  by_end th e is ends = ap (turn_by_thread space code log w t) is ∙ ap (turn_by_end space code log w t th) ends

  -- where steps are left
  pub goes_by_next : (steps places : ℕ) (next : Next Op) (e : End) → Some steps ≡ option_map (λ x. code.steps x.state) (slice_get w.threads t) → Some places ≡ option_map (λ x. x.places) (slice_get w.threads t)
      → Some next ≡ option_map (λ x. code.next x.state) (slice_get w.threads t) → log.end t ≡ Some (Known e) → steps < e.steps → turn_by_next space code log w t places e.places next ≡ turn_of space code log w t
  goes_by_next steps places next e a b d ends less =
      let th = made_of (λ x. code.steps x.state) (slice_get w.threads t) steps (sym a) in
      let tp = made_of (λ x. x.places) (slice_get w.threads t) places (sym b) in
      let tn = made_of (λ x. code.next x.state) (slice_get w.threads t) next (sym d) in
      let p : th.0.places ≡ places = ap (λ x. x.places) (same_Some _ _ (sym th.1 ∙ tp.1)) ∙ tp.2 in
      let n : code.next th.0.state ≡ next = ap (λ x. code.next x.state) (same_Some _ _ (sym th.1 ∙ tn.1)) ∙ tn.2 in
      let below : code.steps th.0.state < e.steps = subst (λ k. k < e.steps) (sym th.2) less in
      sym (
      by_end th.0 e th.1 ends
      ∙ ap (λ b. cond b (turn_by_next space code log w t th.0.places e.places (code.next th.0.state)) (cond (same_end e (end_of_thread code th.0)) turn.Done (turn.Refused Diverged))) (lt-ltb _ _ below)
      ∙ ap (λ k. turn_by_next space code log w t k e.places (code.next th.0.state)) p
      ∙ ap (turn_by_next space code log w t places e.places) n
      )

  -- how a thread stands
  abbrev stand : ℕ → ℕ → Outcome → End
  stand steps places outcome = record { steps = steps; places = places; outcome = outcome }

  stands : (steps places : ℕ) (outcome : Outcome) (th tp to : ThreadAt State) → code.steps th.state ≡ steps → tp.places ≡ places → outcome_of (code.next to.state) ≡ outcome → th ≡ tp → th ≡ to → end_of_thread code th ≡ stand steps places outcome
  stands steps places outcome th tp to a b d p o =
      ap (λ x. stand x th.places (outcome_of (code.next th.state))) a
      ∙ ap (λ y. stand steps y (outcome_of (code.next th.state))) (ap (λ (x : ThreadAt State). x.places) p ∙ b)
      ∙ ap (stand steps places) (ap (λ (x : ThreadAt State). outcome_of (code.next x.state)) o ∙ d)

  -- where a thread stands otherwise than it is logged
  pub not_at_end : (steps places : ℕ) (outcome : Outcome) (e : End) → Some steps ≡ option_map (λ x. code.steps x.state) (slice_get w.threads t) → Some places ≡ option_map (λ x. x.places) (slice_get w.threads t)
      → Some outcome ≡ option_map (λ x. outcome_of (code.next x.state)) (slice_get w.threads t) → log.end t ≡ Some (Known e) → same_end e (stand steps places outcome) ≡ false → IsAtEnd code log w t → ⊥
  not_at_end steps places outcome e a b d ends other at =
      let th = made_of (λ x. code.steps x.state) (slice_get w.threads t) steps (sym a) in
      let tp = made_of (λ x. x.places) (slice_get w.threads t) places (sym b) in
      let to = made_of (λ x. outcome_of (code.next x.state)) (slice_get w.threads t) outcome (sym d) in
      let end = stands steps places outcome th.0 tp.0 to.0 th.2 tp.2 to.2 (same_Some _ _ (sym th.1 ∙ tp.1)) (same_Some _ _ (sym th.1 ∙ to.1)) in
      let is : e ≡ stand steps places outcome = known_same _ _ (sym ends ∙ at th.0 th.1) ∙ end in
      true_or_false _ ((end_decides e (stand steps places outcome)).1 is) other

  -- where none are, it stands as it is logged, or diverged
  pub goes_to_end : (steps places : ℕ) (outcome : Outcome) (e : End) → Some steps ≡ option_map (λ x. code.steps x.state) (slice_get w.threads t) → Some places ≡ option_map (λ x. x.places) (slice_get w.threads t)
      → Some outcome ≡ option_map (λ x. outcome_of (code.next x.state)) (slice_get w.threads t) → log.end t ≡ Some (Known e) → e.steps ≤ steps
      → cond (same_end e (stand steps places outcome)) turn.Done (turn.Refused Diverged) ≡ turn_of space code log w t
  goes_to_end steps places outcome e a b d ends past =
      let th = made_of (λ x. code.steps x.state) (slice_get w.threads t) steps (sym a) in
      let tp = made_of (λ x. x.places) (slice_get w.threads t) places (sym b) in
      let to = made_of (λ x. outcome_of (code.next x.state)) (slice_get w.threads t) outcome (sym d) in
      let end : end_of_thread code th.0 ≡ stand steps places outcome = stands steps places outcome th.0 tp.0 to.0 th.2 tp.2 to.2 (same_Some _ _ (sym th.1 ∙ tp.1)) (same_Some _ _ (sym th.1 ∙ to.1)) in
      let past' : e.steps ≤ code.steps th.0.state = subst (λ k. e.steps ≤ k) (sym th.2) past in
      sym (
      by_end th.0 e th.1 ends
      ∙ ap (λ b. cond b (turn_by_next space code log w t th.0.places e.places (code.next th.0.state)) (cond (same_end e (end_of_thread code th.0)) turn.Done (turn.Refused Diverged))) (le-ltb _ _ past')
      ∙ ap (λ x. cond (same_end e x) turn.Done (turn.Refused Diverged)) end
      )
