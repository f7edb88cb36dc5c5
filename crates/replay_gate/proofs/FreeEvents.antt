-- Free steps that are left behind others, and events by which threads go on.
use Rattle.std.proofs.Common.{◌≡◌, ℕ, zero, suc, ◌+◌, ◌-◌, ◌<◌, ◌≤◌, List, length, slice_set, Option, Some, None, slice_get, sym, ap, ◌∙◌, subst, arith, inl, inr}
use Rattle.std.proofs.lemmas.Option.{same_Some}
use Rattle.rw_objects.specs.declared.entry.Entry.{Entry}
use Rattle.rw_objects.specs.Space.{Space, reply_of}
use Rattle.rw_objects.specs.Code.{Code, CodeLaws}
use Rattle.rw_objects.specs.LocalRun.{GoesLocally}
use Rattle.event_core.specs.declared.pick.Input.TheVariants.{Go}
use Rattle.event_core.specs.declared.step.PickStep.TheVariants as step
use Rattle.event_core.specs.Threads.{ThreadAt, thread_after_reply}
use Rattle.event_core.specs.World.{WorldAt, world_after_step}
use Rattle.event_core.proofs.LocalRuns.{get_same}
use Rattle.event_core.proofs.Threads.{step_some}
use Rattle.log_pieces.specs.declared.end.End.{End}
use Rattle.log_pieces.specs.declared.flat.Flat.{Flat}
use Rattle.log_pieces.specs.declared.flat.Flat.TheVariants as flat
use Rattle.replay_laws.specs.Log.{Log, HasLimits}
use Rattle.replay_laws.specs.Turns.{pick_of, world_after_turn, input_of_turn}
use Rattle.replay_laws.proofs.Passing.{turn_passes}
use Rattle.replay_gate.specs.Local.{steps_left_of}
use Rattle.replay_gate.specs.Ready.{GoesOnByEvent}
use Rattle.replay_gate.proofs.Taking.{takes}
use Rattle.replay_gate.specs.declared.breaks.Break.{Break}
use Rattle.replay_gate.specs.declared.breaks.Break.TheVariants as break
use Rattle.replay_gate.specs.Free.{IsFreeOf, IsFree, AreFree}
use Rattle.replay_gate.proofs.FreeSteps.{turned_free}

later_free_of : (t made m n : ℕ) (b : Break) → m ≤ n → IsFreeOf t made n b → IsFreeOf t (made + m) (n - m) b
later_free_of t made m n (break.Step of steps) l f = λ e. elim (f e) [ inl x ↦ inl (omega (arith, x)) | inr x ↦ inr (omega (arith, x, l)) ]
later_free_of t made m n (break.Place of place) l f = tt
later_free_of t made m n (break.Write objects) l f = tt

module _ {State Op Reply Value Fixed : Type 0} (space : Space Op Reply Value Fixed) (code : Code State Op Reply Fixed) where
  later_left : (o : Option (Flat End)) (a b : ThreadAt State) (m n : ℕ) → code.steps b.state ≡ code.steps a.state + m → m ≤ n → n ≤ steps_left_of code o (Some a) → n - m ≤ steps_left_of code o (Some b)
  later_left None a b m n more few left = omega (arith, left)
  later_left (Some flat.Clash) a b m n more few left = omega (arith, left)
  later_left (Some (flat.Known e)) a b m n more few left = omega (arith, more, few, left)

  -- m steps later, of the free ones
  pub later_free : (log : Log) (breaks : List Break) (w v : WorldAt State Value Fixed) (t m n : ℕ) (a b : ThreadAt State) → slice_get w.threads t ≡ Some a → slice_get v.threads t ≡ Some b → code.steps b.state ≡ code.steps a.state + m → m ≤ n
      → IsFree code log w breaks t n → IsFree code log v breaks t (n - m)
  later_free log breaks w v t m n a b at_first behind more few f = record {
    within = subst (λ o. n - m ≤ steps_left_of code (log.end t) o) (sym behind) (later_left (log.end t) a b m n more few (subst (λ o. n ≤ steps_left_of code (log.end t) o) at_first f.within));
    clear = λ th e j x is.
        let same : th ≡ b = same_Some th b (sym e ∙ behind) in
        let made : code.steps th.state ≡ code.steps a.state + m = ap (λ (y : ThreadAt State). code.steps y.state) same ∙ more in
        subst (λ k. IsFreeOf t k (n - m) x) (sym made) (later_free_of t (code.steps a.state) m n x few (f.clear a at_first j x is));
  }

  module _ (rules : CodeLaws space code) where
    -- so many local steps count
    pub made_locally : (n : ℕ) (s u : State) → GoesLocally code n s u → code.steps u ≡ code.steps s + n
    made_locally zero s u g = let e = ap code.steps g in omega (arith, e)
    made_locally (suc n) s u g = let one = rules.local_steps s g.0 in let rest = made_locally n (code.local s) u g.2 in omega (arith, one, rest)

    module _ (log : Log) (limits : HasLimits log) (breaks : List Break) (w v : WorldAt State Value Fixed) (t n : ℕ) (held : Option (Flat Entry)) (event : GoesOnByEvent space code log w t held v) where
      pub event_fewer : 0 < n → IsFree code log w breaks t n → IsFree code log v breaks t (n - 1)
      event_fewer some f =
          let lets = turn_passes space code rules log limits w t Go (ap input_of_turn event.is) in
          let reply = reply_of space w.memory.fixed w.memory.values event.op in
          let small : code.steps lets.thread.state < 1000000000 = let l = limits t lets.end lets.is_known in let b = lets.below in omega (arith, l, b) in
          let asks = takes space code w.memory event.op (code.next lets.thread.state) (sym (step_some space code w (pick_of t Go) lets.thread lets.exists small) ∙ event.step) in
          let after : v ≡ world_after_step space code w t (step.Event event.op) = event.leads ∙ ap (world_after_step space code w t) event.step in
          later_free log breaks w v t 1 n lets.thread (thread_after_reply code reply lets.thread) lets.exists
          (ap (λ (x : WorldAt State Value Fixed). slice_get x.threads t) after ∙ get_same (thread_after_reply code reply) w.threads t lets.thread lets.exists) (rules.take_steps lets.thread.state reply asks) (omega (arith, some)) f

      pub event_free : (all : List ℕ) → 0 < n → IsFree code log w breaks t n → AreFree code log w breaks all → t < length all → AreFree code log v breaks (slice_set all t (n - 1))
      event_free all some f are within = turned_free space code log breaks w v t (n - 1) all are (event_fewer some f) (event.leads ∙ ap (world_after_turn space code w t) (sym event.is)) within
