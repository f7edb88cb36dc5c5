-- A turn of any world leaves it as it is, or counts one step.
use Rattle.std.proofs.Common.{◌≡◌, ℕ, ◌+◌, ◌⊎◌, Bool, true, false, cond, nat_lt, Option, Some, None, slice_get, refl, sym, ap, ◌∙◌, inl, inr, arith}
use Rattle.rw_objects.specs.Space.{Space, SpaceLaws}
use Rattle.rw_objects.specs.Code.{Code, CodeLaws, TakesReply}
use Rattle.rw_objects.specs.Memory.{Memory}
use Rattle.rw_objects.specs.declared.next.Next.{Next}
use Rattle.rw_objects.specs.declared.next.Next.TheVariants as next
use Rattle.event_core.specs.declared.pick.Input.{Input}
use Rattle.event_core.specs.declared.pick.Input.TheVariants.{Go, TimeOut}
use Rattle.event_core.specs.declared.pick.Pick.{Pick}
use Rattle.event_core.specs.declared.step.PickStep.{PickStep}
use Rattle.event_core.specs.declared.step.PickStep.TheVariants as step
use Rattle.event_core.specs.PickStep.{step_of_next, is_enabled}
use Rattle.event_core.specs.Run.{world_run}
use Rattle.event_core.specs.Threads.{ThreadAt, thread_after_local, thread_after_reply, all_steps}
use Rattle.event_core.specs.World.{WorldAt, step_of_pick, step_of_thread, world_after, world_after_step}
use Rattle.event_core.proofs.SoundSteps.{sum_change}
use Rattle.event_core.proofs.Steps.{thread_local}
use Rattle.replay_laws.specs.declared.turn.Turn.{Turn}
use Rattle.replay_laws.specs.declared.turn.Turn.TheVariants as turn
use Rattle.replay_laws.specs.Log.{Log, HasLimits}
use Rattle.replay_laws.specs.Ordered.{pick_made}
use Rattle.replay_laws.specs.Turns.{pick_of, turn_of, world_after_turn, input_of_turn}
use Rattle.replay_laws.proofs.Orders.{turn_leaves}
use Rattle.replay_laws.proofs.Passing.{turn_passes}
use Rattle.replay_laws.proofs.Picks.{passes_enabled}
use Rattle.replay_gate.specs.Answers.{makes_step}
use Rattle.replay_session.specs.Gone.{steps_of_turn}

-- where a test chose the first of two
chosen : {A : Type 0} (b : Bool) (x y z : A) → cond b x y ≡ z → (y ≡ z → ⊥) → (b ≡ true) × (x ≡ z)
chosen true x y z h _ = (refl, h)
chosen false x y z h never = absurd (never h)

an_input : (x : Turn) → makes_step x ≡ true → (i : Input) × (input_of_turn x ≡ Some i)
an_input turn.Done h = absurd cc
an_input turn.Local h = (Go, refl)
an_input (turn.Event input) h = (input, refl)
an_input (turn.Refused r) h = absurd cc

module _ {State Op Reply Value Fixed : Type 0} (space : Space Op Reply Value Fixed) (code : Code State Op Reply Fixed) where
  takes : (m : Memory Value Fixed) (n : Next Op) (input : Input) (op : Op) → step_of_next space m n input ≡ step.Event op → TakesReply n
  takes m (next.Halted outcome) input op h = absurd cc
  takes m next.Local Go op h = absurd cc
  takes m next.Local TimeOut op h = absurd cc
  takes m (next.Ask asked) input op h = tt
  takes m (next.Asleep resume out) input op h = tt

  thread_takes : (m : Memory Value Fixed) (o : Option (ThreadAt State)) (input : Input) (op : Op) → step_of_thread space code m o input ≡ step.Event op → (t : ThreadAt State) × (o ≡ Some t) × TakesReply (code.next t.state)
  thread_takes m None input op h = absurd cc
  thread_takes m (Some t) input op h =
      let e = chosen (nat_lt (code.steps t.state) 1000000000) _ _ _ h (λ no. cc) in
      (t, refl, takes m (code.next t.state) input op e.1)

  -- a turn that makes no step leaves the world as it is
  pub stays : (w : WorldAt State Value Fixed) (t : ℕ) (x : Turn) → makes_step x ≡ false → world_after_turn space code w t x ≡ w
  stays w t turn.Done h = refl
  stays w t turn.Local h = absurd cc
  stays w t (turn.Event input) h = absurd cc
  stays w t (turn.Refused r) h = refl

  module _ (rules : CodeLaws space code) where
    -- an enabled pick counts one step, one that is refused leaves the world as it is
    made : (w : WorldAt State Value Fixed) (p : Pick) (j : PickStep Op) → step_of_pick space code w p ≡ j → is_enabled j ≡ true
        → all_steps code (world_after_step space code w p.thread j).threads ≡ all_steps code w.threads + 1
    made w p (step.Refused f) q on = absurd cc
    made w p step.Local q on =
        let e = thread_local space code w.memory (slice_get w.threads p.thread) p.input q in
        sum_change (λ u. code.steps u.state) (thread_after_local code) w.threads p.thread e.0 e.1 (rules.local_steps e.0.state e.2.next)
    made w p (step.Event op) q on =
        let e = thread_takes w.memory (slice_get w.threads p.thread) p.input op q in
        sum_change (λ u. code.steps u.state) (thread_after_reply code _) w.threads p.thread e.0 e.1 (rules.take_steps e.0.state _ e.2)

    pick_counts : (w : WorldAt State Value Fixed) (p : Pick) → (world_after space code w p ≡ w) ⊎ (all_steps code (world_after space code w p).threads ≡ all_steps code w.threads + 1)
    pick_counts w p = go (step_of_pick space code w p) refl
      where
        go : (j : PickStep Op) → step_of_pick space code w p ≡ j → (world_after_step space code w p.thread j ≡ w) ⊎ (all_steps code (world_after_step space code w p.thread j).threads ≡ all_steps code w.threads + 1)
        go (step.Refused f) q = inl refl
        go step.Local q = inr (made w p step.Local q refl)
        go (step.Event op) q = inr (made w p (step.Event op) q refl)

    pub turn_counts : (w : WorldAt State Value Fixed) (t : ℕ) (x : Turn) → (world_after_turn space code w t x ≡ w) ⊎ (all_steps code (world_after_turn space code w t x).threads ≡ all_steps code w.threads + 1)
    turn_counts w t turn.Done = inl refl
    turn_counts w t turn.Local = pick_counts w (pick_of t Go)
    turn_counts w t (turn.Event input) = pick_counts w (pick_of t input)
    turn_counts w t (turn.Refused r) = inl refl

    -- a turn that makes a step counts one
    pub turn_grows : SpaceLaws space → (log : Log) → HasLimits log → (w : WorldAt State Value Fixed) (t : ℕ) → makes_step (turn_of space code log w t) ≡ true
        → all_steps code (world_after_turn space code w t (turn_of space code log w t)).threads ≡ all_steps code w.threads + 1
    turn_grows laws log limits w t h =
        let i = an_input (turn_of space code log w t) h in
        let passes = turn_passes space code rules log limits w t i.0 i.1 in
        let leaves : world_after_turn space code w t (turn_of space code log w t) ≡ world_after space code w (pick_of t i.0) =
        turn_leaves space code w t (turn_of space code log w t) ∙ ap (λ o. world_run space code w (pick_made t o)) i.1 in
        ap (λ x. all_steps code x.threads) leaves ∙ made w (pick_of t i.0) (step_of_pick space code w (pick_of t i.0)) refl (passes_enabled space code laws rules log w (pick_of t i.0) passes)

    pub turn_adds : SpaceLaws space → (log : Log) → HasLimits log → (w : WorldAt State Value Fixed) (t : ℕ)
        → all_steps code (world_after_turn space code w t (turn_of space code log w t)).threads ≡ all_steps code w.threads + steps_of_turn (turn_of space code log w t)
    turn_adds laws log limits w t = go (turn_of space code log w t) refl
      where
        grown : (x : Turn) → turn_of space code log w t ≡ x → makes_step x ≡ true → all_steps code (world_after_turn space code w t x).threads ≡ all_steps code w.threads + 1
        grown x e h = ap (λ y. all_steps code (world_after_turn space code w t y).threads) (sym e) ∙ turn_grows laws log limits w t (ap makes_step e ∙ h)

        go : (x : Turn) → turn_of space code log w t ≡ x → all_steps code (world_after_turn space code w t x).threads ≡ all_steps code w.threads + steps_of_turn x
        go turn.Done e = omega arith
        go turn.Local e = grown turn.Local e refl
        go (turn.Event input) e = grown (turn.Event input) e refl
        go (turn.Refused r) e = omega arith
