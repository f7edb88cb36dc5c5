-- Free steps of threads, and what turns leave of them.
use Rattle.std.proofs.Common.{◌≡◌, ◌≢◌, ℕ, ◌+◌, ◌-◌, ◌<◌, ◌≤◌, List, length, slice_set, replicate, Some, slice_get, option_map, sym, ap, ◌∙◌, subst, arith, inl, inr}
use Rattle.std.proofs.lemmas.Bool.{cases_lt}
use Rattle.rw_objects.specs.Space.{Space}
use Rattle.rw_objects.specs.Code.{Code, CodeLaws}
use Rattle.event_core.specs.Threads.{ThreadAt, change_at, thread_after_local}
use Rattle.event_core.specs.World.{WorldAt}
use Rattle.event_core.proofs.LocalRuns.{get_same}
use Rattle.replay_laws.specs.declared.turn.Turn.TheVariants as turn
use Rattle.replay_laws.specs.Log.{Log, HasLimits}
use Rattle.replay_laws.specs.Turns.{turn_of, world_after_turn}
use Rattle.replay_gate.specs.Local.{steps_left_of}
use Rattle.replay_gate.proofs.LeftSteps as left
use Rattle.replay_gate.proofs.LocalTurns.{StandsLocally, stands_locally}
use Rattle.replay_gate.specs.declared.breaks.Break.{Break}
use Rattle.replay_gate.specs.declared.breaks.Break.TheVariants as break
use Rattle.replay_gate.specs.Breaks.{is_event, Hits, NoneHits}
use Rattle.replay_gate.specs.Free.{IsFreeOf, IsFree, AreFree}

some_same : {A : Type 0} (a b : A) → Some a ≡ Some b → a ≡ b
some_same a b h = cc

-- what was read of a thread's steps
pub made_by : {State Op Reply Value Fixed Fixed' : Type 0} (code : Code State Op Reply Fixed) (w : WorldAt State Value Fixed') (t made : ℕ) (thread : ThreadAt State) → Some made ≡ option_map (λ x. code.steps x.state) (slice_get w.threads t) → slice_get w.threads t ≡ Some thread
    → code.steps thread.state ≡ made
made_by code w t made thread read is = some_same _ _ (sym (read ∙ ap (option_map (λ x. code.steps x.state)) is))

-- ---- one break

none_free_of : (t made : ℕ) (b : Break) → IsFreeOf t made 0 b
none_free_of t made (break.Step of steps) = λ e. elim (cases_lt made steps) [ inl l ↦ inr (omega (arith, l)) | inr l ↦ inl l ]
none_free_of t made (break.Place of place) = tt
none_free_of t made (break.Write objects) = tt

pub fewer_free_of : (t made n few : ℕ) (b : Break) → few ≤ n → IsFreeOf t made n b → IsFreeOf t made few b
fewer_free_of t made n few (break.Step of steps) l f = λ e. elim (f e) [ inl x ↦ inl x | inr x ↦ inr (omega (arith, x, l)) ]
fewer_free_of t made n few (break.Place of place) l f = tt
fewer_free_of t made n few (break.Write objects) l f = tt

next_free_of : (t made next n : ℕ) (b : Break) → 0 < n → next ≡ made + 1 → IsFreeOf t made n b → IsFreeOf t next (n - 1) b
next_free_of t made next n (break.Step of steps) l s f = λ e. elim (f e) [ inl x ↦ inl (omega (arith, x, s)) | inr x ↦ inr (omega (arith, x, l, s)) ]
next_free_of t made next n (break.Place of place) l s f = tt
next_free_of t made next n (break.Write objects) l s f = tt

module _ {State Op Reply Fixed : Type 0} (code : Code State Op Reply Fixed) {Value Fixed' : Type 0} (log : Log) (breaks : List Break) where
  pub none_free : (w : WorldAt State Value Fixed') (t : ℕ) → IsFree code log w breaks t 0
  none_free w t = record { within = omega arith; clear = λ th e j b is. none_free_of t (code.steps th.state) b }

  pub all_none_free : (w : WorldAt State Value Fixed') (n : ℕ) → AreFree code log w breaks (replicate n 0)
  all_none_free w n t = subst (IsFree code log w breaks t) (sym (left.same_everywhere n t 0)) (none_free w t)

  -- it is told by the thread alone
  pub free_same : (w v : WorldAt State Value Fixed') (t n : ℕ) → slice_get v.threads t ≡ slice_get w.threads t → IsFree code log w breaks t n → IsFree code log v breaks t n
  free_same w v t n same f = record {
    within = subst (λ o. n ≤ steps_left_of code (log.end t) o) (sym same) f.within;
    clear = λ th e. f.clear th (sym same ∙ e);
  }

  -- a turn of thread t, behind which so many steps of it are free
  pub all_free : (w v : WorldAt State Value Fixed') (t m : ℕ) (free : List ℕ) → AreFree code log w breaks free → IsFree code log v breaks t m → ((i : ℕ) → i ≢ t → slice_get v.threads i ≡ slice_get w.threads i) → t < length free
      → AreFree code log v breaks (slice_set free t m)
  all_free w v t m free all here others =
      left.set_for (IsFree code log w breaks) (IsFree code log v breaks) free t m all here (λ i n d f. free_same w v i n (others i d) f)

module _ {State Op Reply Value Fixed : Type 0} (space : Space Op Reply Value Fixed) (code : Code State Op Reply Fixed) where
  pub turned_free : (log : Log) (breaks : List Break) (w v : WorldAt State Value Fixed) (t m : ℕ) (free : List ℕ) → AreFree code log w breaks free → IsFree code log v breaks t m
      → v ≡ world_after_turn space code w t (turn_of space code log w t) → t < length free → AreFree code log v breaks (slice_set free t m)
  turned_free log breaks w v t m free all here after within =
      all_free code log breaks w v t m free all here (λ i d. ap (λ (x : WorldAt State Value Fixed). slice_get x.threads i) after ∙ left.other_thread space code w t i d (turn_of space code log w t)) within

  -- ---- a free local step

  module _ (rules : CodeLaws space code) (log : Log) (limits : HasLimits log) (breaks : List Break) (w : WorldAt State Value Fixed) (t n : ℕ) (some : 0 < n) (free : IsFree code log w breaks t n) (local : turn_of space code log w t ≡ turn.Local) where
    stands : StandsLocally space code log w t
    stands = stands_locally space code log w t local

    leads : world_after_turn space code w t turn.Local ≡ record { threads = change_at w.threads t (thread_after_local code); memory = w.memory }
    leads = left.leads_locally space code rules log limits w t local

    at_thread : slice_get (world_after_turn space code w t turn.Local).threads t ≡ Some (thread_after_local code stands.thread)
    at_thread = ap (λ (x : WorldAt State Value Fixed). slice_get x.threads t) leads ∙ get_same (thread_after_local code) w.threads t stands.thread stands.exists

    one : code.steps (code.local stands.thread.state) ≡ code.steps stands.thread.state + 1
    one = rules.local_steps stands.thread.state stands.next

    none_of : (b : Break) → IsFreeOf t (code.steps stands.thread.state) n b → Hits space code log w t b → ⊥
    none_of (break.Place of place) f hits = let x = hits.holds.event in let y = ap is_event local in cc
    none_of (break.Step of steps) f hits =
        let p = hits.holds in
        let there : slice_get (world_after_turn space code w t (turn_of space code log w t)).threads t ≡ Some (thread_after_local code stands.thread) =
        ap (λ x. slice_get (world_after_turn space code w t x).threads t) local ∙ at_thread in
        let same : p.at ≡ thread_after_local code stands.thread = some_same p.at (thread_after_local code stands.thread) (sym p.exists ∙ there) in
        let is : code.steps (code.local stands.thread.state) ≡ steps = sym (ap (λ (x : ThreadAt State). code.steps x.state) same) ∙ p.steps_made in
        let more = one in
        elim (f (sym p.same)) [ inl l ↦ omega (arith, l, more, is) | inr l ↦ omega (arith, l, more, is, some) ]
    none_of (break.Write objects) f hits =
        let x = hits.holds in
        x.changed (ap (λ (y : WorldAt State Value Fixed). (y.memory.counts x.object).version) (ap (world_after_turn space code w t) local ∙ leads))

    pub none_hits : NoneHits space code log w t breaks
    none_hits j b is hits = none_of b (free.clear stands.thread stands.exists j b is) hits

    pub one_fewer : IsFree code log (world_after_turn space code w t turn.Local) breaks t (n - 1)
    one_fewer = record {
      within = left.one_fewer space code rules log limits w t local n free.within;
      clear = λ th e j b is.
          let same : th ≡ thread_after_local code stands.thread = some_same th (thread_after_local code stands.thread) (sym e ∙ at_thread) in
          next_free_of t (code.steps stands.thread.state) (code.steps th.state) n b some (ap (λ (x : ThreadAt State). code.steps x.state) same ∙ one) (free.clear stands.thread stands.exists j b is);
    }

    pub freely_free : (v : WorldAt State Value Fixed) (all : List ℕ) → v ≡ world_after_turn space code w t turn.Local → AreFree code log w breaks all → t < length all → AreFree code log v breaks (slice_set all t (n - 1))
    freely_free v all after are within =
        turned_free log breaks w v t (n - 1) all are (subst (λ x. IsFree code log x breaks t (n - 1)) (sym after) one_fewer) (after ∙ ap (world_after_turn space code w t) (sym local)) within
