-- Steps that threads have left to their logged ends, and what turns leave of them.
use Rattle.std.proofs.Common.{◌≡◌, ◌≢◌, ℕ, ◌+◌, ◌-◌, ◌<◌, ◌≤◌, List, length, get_or, slice_set, replicate, Some, slice_get, refl, sym, ap, ◌∙◌, subst, arith, inl, inr}
use Rattle.std.proofs.lemmas.Bool.{cases_lt}
use Rattle.std.proofs.lemmas.List.{get_or-set_same, get_or-set_other, get_or-replicate, length-replicate, get_or_past}
use Rattle.rw_objects.specs.Space.{Space}
use Rattle.rw_objects.specs.Code.{Code, CodeLaws}
use Rattle.event_core.specs.declared.pick.Input.TheVariants.{Go}
use Rattle.event_core.specs.declared.step.PickStep.{PickStep}
use Rattle.event_core.specs.declared.step.PickStep.TheVariants as step
use Rattle.event_core.specs.Threads.{change_at, thread_after_local}
use Rattle.event_core.specs.World.{WorldAt, step_of_pick, world_after_step}
use Rattle.event_core.proofs.LocalRuns.{get_same, get_other}
use Rattle.log_pieces.specs.declared.flat.Flat.TheVariants.{Known}
use Rattle.replay_laws.specs.declared.turn.Turn.{Turn}
use Rattle.replay_laws.specs.declared.turn.Turn.TheVariants as turn
use Rattle.replay_laws.specs.Log.{Log, HasLimits}
use Rattle.replay_laws.specs.Turns.{pick_of, turn_of, world_after_turn}
use Rattle.replay_gate.specs.Local.{steps_left_of, AreLeft}
use Rattle.replay_gate.proofs.LocalTurns.{StandsLocally, stands_locally, steps_locally}

-- ---- lists with an item for each thread

pub same_everywhere : (n t a : ℕ) → get_or (replicate n a) t a ≡ a
same_everywhere n t a = elim (cases_lt t n) [ inl l ↦ get_or-replicate n t a a l | inr l ↦ get_or_past (replicate n a) t a (let e = length-replicate n a in omega (arith, l, e)) ]

at_or_not : (Q : ℕ → ℕ → Type 0) (t i n m : ℕ) → m ≡ n → i ≡ t → Q t m → Q i n
at_or_not Q t i n m e is q = subst (λ k. Q k n) (sym is) (subst (Q t) e q)

-- where the item of one thread is set, and what held of the others' items still holds
pub set_for : (P Q : ℕ → ℕ → Type 0) (xs : List ℕ) (t m : ℕ) → ((i : ℕ) → P i (get_or xs i 0)) → Q t m → ((i n : ℕ) → i ≢ t → P i n → Q i n) → t < length xs → (i : ℕ) → Q i (get_or (slice_set xs t m) i 0)
set_for P Q xs t m all here others within i =
    let far : i ≢ t → Q i (get_or (slice_set xs t m) i 0) = λ d. subst (Q i) (sym (get_or-set_other xs t i m 0 d)) (others i (get_or xs i 0) d (all i)) in
    elim (cases_lt i t) [
      | inl l ↦ far (λ q. omega (arith, l, q))
      | inr l ↦
          elim (cases_lt t i) [
            | inl x ↦ far (λ q. omega (arith, x, q))
            | inr x ↦
                let q : i ≡ t = omega (arith, l, x) in
                at_or_not Q t i (get_or (slice_set xs t m) i 0) m (sym (get_or-set_same xs t m 0 within) ∙ ap (λ k. get_or (slice_set xs t m) k 0) (sym q)) q here
          ]
    ]

-- ---- a turn changes its own thread alone

module _ {State Op Reply Value Fixed : Type 0} (space : Space Op Reply Value Fixed) (code : Code State Op Reply Fixed) where
  other_by_step : (w : WorldAt State Value Fixed) (t i : ℕ) → i ≢ t → (s : PickStep Op) → slice_get (world_after_step space code w t s).threads i ≡ slice_get w.threads i
  other_by_step w t i d (step.Refused f) = refl
  other_by_step w t i d step.Local = get_other _ w.threads t i d
  other_by_step w t i d (step.Event op) = get_other _ w.threads t i d

  pub other_thread : (w : WorldAt State Value Fixed) (t i : ℕ) → i ≢ t → (x : Turn) → slice_get (world_after_turn space code w t x).threads i ≡ slice_get w.threads i
  other_thread w t i d turn.Done = refl
  other_thread w t i d turn.Local = other_by_step w t i d (step_of_pick space code w (pick_of t Go))
  other_thread w t i d (turn.Event input) = other_by_step w t i d (step_of_pick space code w (pick_of t input))
  other_thread w t i d (turn.Refused r) = refl

  pub none_left : (log : Log) (w : WorldAt State Value Fixed) (n : ℕ) → AreLeft code log w (replicate n 0)
  none_left log w n t = let e = same_everywhere n t 0 in omega (arith, e)

  pub turned_left : (log : Log) (w v : WorldAt State Value Fixed) (t m : ℕ) (x : Turn) (left : List ℕ) → AreLeft code log w left → m ≤ steps_left_of code (log.end t) (slice_get v.threads t) → v ≡ world_after_turn space code w t x → t < length left → AreLeft code log v (slice_set left t m)
  turned_left log w v t m x left all here after within =
      set_for (λ i n. n ≤ steps_left_of code (log.end i) (slice_get w.threads i)) (λ i n. n ≤ steps_left_of code (log.end i) (slice_get v.threads i)) left t m all here
      (λ i n d h. subst (λ o. n ≤ steps_left_of code (log.end i) o) (sym (ap (λ (y : WorldAt State Value Fixed). slice_get y.threads i) after ∙ other_thread w t i d x)) h) within

  -- ---- a local turn

  module _ (rules : CodeLaws space code) (log : Log) (limits : HasLimits log) (w : WorldAt State Value Fixed) (t : ℕ) (local : turn_of space code log w t ≡ turn.Local) where
    stands : StandsLocally space code log w t
    stands = stands_locally space code log w t local

    pub leads_locally : world_after_turn space code w t turn.Local ≡ record { threads = change_at w.threads t (thread_after_local code); memory = w.memory }
    leads_locally = ap (world_after_step space code w t) (steps_locally space code log w t limits local)

    at_thread : slice_get (world_after_turn space code w t turn.Local).threads t ≡ Some (thread_after_local code stands.thread)
    at_thread = ap (λ (x : WorldAt State Value Fixed). slice_get x.threads t) leads_locally ∙ get_same (thread_after_local code) w.threads t stands.thread stands.exists

    one_more : code.steps (code.local stands.thread.state) ≡ code.steps stands.thread.state + 1
    one_more = rules.local_steps stands.thread.state stands.next

    pub one_fewer : (n : ℕ) → n ≤ steps_left_of code (log.end t) (slice_get w.threads t) → n - 1 ≤ steps_left_of code (log.end t) (slice_get (world_after_turn space code w t turn.Local).threads t)
    one_fewer n within =
        let few : n ≤ stands.end.steps - code.steps stands.thread.state = subst (λ o. n ≤ steps_left_of code (Some (Known stands.end)) o) stands.exists (subst (λ e. n ≤ steps_left_of code e (slice_get w.threads t)) stands.is_known within) in
        let more = one_more in
        subst (λ e. n - 1 ≤ steps_left_of code e (slice_get (world_after_turn space code w t turn.Local).threads t)) (sym stands.is_known)
        (subst (λ o. n - 1 ≤ steps_left_of code (Some (Known stands.end)) o) (sym at_thread) (omega (arith, few, more)))

    pub locally_left : (v : WorldAt State Value Fixed) (n : ℕ) (left : List ℕ) → v ≡ world_after_turn space code w t turn.Local → AreLeft code log w left → n ≤ steps_left_of code (log.end t) (slice_get w.threads t) → t < length left → AreLeft code log v (slice_set left t (n - 1))
    locally_left v n left after all few within =
        turned_left log w v t (n - 1) turn.Local left all (subst (λ (x : WorldAt State Value Fixed). n - 1 ≤ steps_left_of code (log.end t) (slice_get x.threads t)) (sym after) (one_fewer n few)) after within
