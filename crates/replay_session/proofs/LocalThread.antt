-- Local steps of one thread are turns of it.
use Rattle.std.proofs.Common.{◌≡◌, ℕ, zero, suc, ◌+◌, ◌<◌, ◌≤◌, List, [], ◌∷◌, length, Option, Some, None, slice_get, refl, sym, ap, ◌∙◌, subst, arith, inl, inr}
use Rattle.std.proofs.lemmas.Bool.{cases_eq}
use Rattle.std.proofs.lemmas.Option.{same_Some}
use Rattle.rw_objects.specs.Space.{Space}
use Rattle.rw_objects.specs.Code.{Code, CodeLaws}
use Rattle.event_core.specs.LocalRun.{thread_in}
use Rattle.event_core.specs.Threads.{ThreadAt, change_at, thread_after_local}
use Rattle.event_core.specs.World.{WorldAt}
use Rattle.event_core.proofs.LocalRuns.{get_same, get_other}
use Rattle.event_core.proofs.SoundSteps.{length_change}
use Rattle.log_pieces.specs.declared.end.End.{End}
use Rattle.log_pieces.specs.declared.flat.Flat.{Flat}
use Rattle.log_pieces.specs.declared.flat.Flat.TheVariants as flat
use Rattle.replay_laws.specs.declared.turn.Turn.TheVariants as turn
use Rattle.replay_laws.specs.Log.{Log, HasLimits}
use Rattle.replay_laws.specs.Turns.{turn_of, world_after_turn}
use Rattle.replay_gate.specs.Alone.{GoesAlone}
use Rattle.replay_gate.specs.Answers.{makes_step}
use Rattle.replay_gate.specs.Local.{steps_left_of}
use Rattle.replay_gate.proofs.LeftSteps.{leads_locally}
use Rattle.replay_gate.proofs.LocalTurns.{turns_locally}
use Rattle.replay_gate.proofs.RunsAlone.{left_within}
use Rattle.replay_session.specs.Events.{event_count, events_on}
use Rattle.replay_session.specs.Ways.{ThreadLeads}
use Rattle.replay_session.proofs.EventCounts.{events_joined}
use Rattle.replay_session.proofs.Ways.{one_turn, no_thread_turns, thread_joined}

same_lists : {A : Type 0} (xs ys : List A) → length xs ≡ length ys → ((i : ℕ) (x y : A) → slice_get xs i ≡ Some x → slice_get ys i ≡ Some y → x ≡ y) → xs ≡ ys
same_lists [] [] n h = refl
same_lists [] (y ∷ ys) n h = absurd (omega (arith, n))
same_lists (x ∷ xs) [] n h = absurd (omega (arith, n))
same_lists (x ∷ xs) (y ∷ ys) n h =
    let here = h 0 x y refl refl in
    let rest = same_lists xs ys (omega (arith, n)) (λ i a b e g. h (suc i) a b e g) in
    ap (λ z. z ∷ xs) here ∙ ap (λ zs. y ∷ zs) rest

module _ {State Op Reply Value Fixed : Type 0} (space : Space Op Reply Value Fixed) (code : Code State Op Reply Fixed) (rules : CodeLaws space code) (log : Log) (limits : HasLimits log) (t : ℕ) where
  -- no step leaves the world as it is
  same_world : (w v : WorldAt State Value Fixed) → GoesAlone code t 0 w v → v ≡ w
  same_world w v a =
      let threads = same_lists v.threads w.threads a.len (λ i x y e f.
      elim (cases_eq i t) [
        | inl q ↦
            let o = a.own y (ap (slice_get w.threads) (sym q) ∙ f) in
            let z : x ≡ thread_in o.0 y = same_Some x (thread_in o.0 y) (sym e ∙ ap (slice_get v.threads) q ∙ o.2) in
            z ∙ ap (λ s. thread_in s y) (sym o.1)
        | inr d ↦ same_Some x y (sym e ∙ a.others i d ∙ f)
      ]) in
      ap (λ ts. record { threads = ts; memory = v.memory }) threads ∙ ap (λ m. record { threads = w.threads; memory = m }) a.memory

  none_lead : (w v : WorldAt State Value Fixed) → GoesAlone code t 0 w v → ThreadLeads space code log t 0 w v
  none_lead w v a = subst (ThreadLeads space code log t 0 w) (sym (same_world w v a)) (no_thread_turns space code rules log t w)

  -- steps of the thread lead on, and none of them is an event
  abbrev LeadsQuietly : ℕ → WorldAt State Value Fixed → WorldAt State Value Fixed → Type 0
  LeadsQuietly n w v = ThreadLeads space code log t n w v × (events_on space code log t w n ≡ 0)

  go_on : (n : ℕ) (w v : WorldAt State Value Fixed) (th : ThreadAt State) (end : End) → slice_get w.threads t ≡ Some th → log.end t ≡ Some (flat.Known end) → code.steps th.state + n ≤ end.steps → GoesAlone code t n w v → LeadsQuietly n w v
  go_on zero w v th end is ends few a = (none_lead w v a, refl)
  go_on (suc n) w v th end is ends few a =
      let o = a.own th is in
      let local : turn_of space code log w t ≡ turn.Local = turns_locally space code log w t (record { thread = th; exists = is; end = end; is_known = ends; below = omega (arith, few); next = o.1.0 }) in
      let u : WorldAt State Value Fixed = record { threads = change_at w.threads t (thread_after_local code); memory = w.memory } in
      let after : u ≡ world_after_turn space code w t (turn_of space code log w t) = sym (ap (world_after_turn space code w t) local ∙ leads_locally space code rules log limits w t local) in
      let first = one_turn space code rules log t w u (ap makes_step local) after in
      let there = get_same (thread_after_local code) w.threads t th is in
      let one = rules.local_steps th.state o.1.0 in
      let rest : GoesAlone code t n u v = record {
        memory = a.memory;
        len = a.len ∙ sym (length_change (thread_after_local code) w.threads t);
        others = λ i d. a.others i d ∙ sym (get_other (thread_after_local code) w.threads t i d);
        own = λ x e.
            let z : x ≡ thread_after_local code th = same_Some x (thread_after_local code th) (sym e ∙ there) in
            subst (λ y. (s : State) × Rattle.rw_objects.specs.LocalRun.GoesLocally code n y.state s × (slice_get v.threads t ≡ Some (thread_in s y))) (sym z) (o.0, o.1.2, o.2);
      } in
      let on = go_on n u v (thread_after_local code th) end there ends (omega (arith, few, one)) rest in
      let z : 1 + n ≡ suc n = omega arith in
      let all = ap (events_on space code log t w) z in
      let joined = events_joined space code rules log t 1 n w in
      let none : event_count (turn_of space code log w t) ≡ 0 = ap event_count local in
      let here : events_on space code log t w 1 ≡ 0 = omega (arith, none) in
      let behind = ap (λ x. events_on space code log t x n) first.leads in
      let quiet = on.1 in (
        subst (λ m. ThreadLeads space code log t m w v) z (thread_joined space code rules log t 1 n w u v first on.0),
        omega (arith, all, joined, here, behind, quiet),
      )

  left_there : (o : Option (Flat End)) (x : Option (ThreadAt State)) (n : ℕ) → 0 < n → n ≤ steps_left_of code o x → (th : ThreadAt State) × (x ≡ Some th)
  left_there None x n some few = absurd (omega (arith, some, few))
  left_there (Some flat.Clash) x n some few = absurd (omega (arith, some, few))
  left_there (Some (flat.Known e)) None n some few = absurd (omega (arith, some, few))
  left_there (Some (flat.Known e)) (Some th) n some few = (th, refl)

  alone : (n most : ℕ) (w v : WorldAt State Value Fixed) → n ≤ most → most ≤ steps_left_of code (log.end t) (slice_get w.threads t) → GoesAlone code t n w v → LeadsQuietly n w v
  alone zero most w v l few a = (none_lead w v a, refl)
  alone (suc n) most w v l few a =
      let all : suc n ≤ steps_left_of code (log.end t) (slice_get w.threads t) = omega (arith, l, few) in
      let some : 0 < suc n = omega arith in
      let th = left_there (log.end t) (slice_get w.threads t) (suc n) some all in
      let k = left_within space code log t (suc n) w th.0 th.1 some all in
      go_on (suc n) w v th.0 k.end th.1 k.is_known k.within a

  pub alone_leads : (n most : ℕ) (w v : WorldAt State Value Fixed) → n ≤ most → most ≤ steps_left_of code (log.end t) (slice_get w.threads t) → GoesAlone code t n w v → ThreadLeads space code log t n w v
  alone_leads n most w v l few a = (alone n most w v l few a).0

  pub alone_quiet : (n most : ℕ) (w v : WorldAt State Value Fixed) → n ≤ most → most ≤ steps_left_of code (log.end t) (slice_get w.threads t) → GoesAlone code t n w v → events_on space code log t w n ≡ 0
  alone_quiet n most w v l few a = (alone n most w v l few a).1
