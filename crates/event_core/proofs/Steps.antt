-- What a judgement tells of the thread.
use Rattle.std.proofs.Common.{◌≡◌, ◌<◌, Bool, true, false, cond, Option, Some, None, nat_lt, sym, ap, ◌∙◌, refl, subst}
use Rattle.std.proofs.Math.Dec.{ltb}
use Rattle.std.proofs.lemmas.Bool.{ltb-true}
use Rattle.rw_objects.specs.Space.{Space, Fits, is_ready, SpaceLaws}
use Rattle.rw_objects.specs.Code.{Code, CodeLaws, TakesReply, NextFits, NextKinds}
use Rattle.rw_objects.specs.Memory.{Memory}
use Rattle.rw_objects.specs.declared.next.Next.{Next}
use Rattle.rw_objects.specs.declared.next.Next.TheVariants as next
use Rattle.event_core.specs.declared.pick.Input.{Input}
use Rattle.event_core.specs.declared.pick.Input.TheVariants.{Go, TimeOut}
use Rattle.event_core.specs.declared.step.StepFault.{StepFault}
use Rattle.event_core.specs.declared.step.StepFault.TheVariants as fault
use Rattle.event_core.specs.declared.step.PickStep.TheVariants as step
use Rattle.event_core.specs.Threads.{ThreadAt, CanStepLocally}
use Rattle.event_core.specs.PickStep.{step_of_next}
use Rattle.event_core.specs.World.{step_of_thread}

module _ {Op : Type 0} where
  ready_not_local : (b : Bool) (op : Op) (f : StepFault) → cond b (step.Event op) (step.Refused f) ≡ step.Local → ⊥
  ready_not_local true op f h = cc
  ready_not_local false op f h = cc

  ready_event : (b : Bool) (op done : Op) (f : StepFault) → cond b (step.Event op) (step.Refused f) ≡ step.Event done → (b ≡ true) × (op ≡ done)
  ready_event true op done f h = (refl, cc)
  ready_event false op done f h = absurd (cc)

module _ {Op Reply Value Fixed : Type 0} (space : Space Op Reply Value Fixed) where
  pub next_local : (m : Memory Value Fixed) (n : Next Op) (input : Input) → step_of_next space m n input ≡ step.Local → n ≡ next.Local
  next_local m (next.Halted outcome) input h = absurd (cc)
  next_local m next.Local input h = refl
  next_local m (next.Ask op) Go h = absurd (cc)
  next_local m (next.Ask op) TimeOut h = absurd (cc)
  next_local m (next.Asleep resume out) Go h = absurd (ready_not_local _ resume fault.Asleep h)
  next_local m (next.Asleep resume None) TimeOut h = absurd (cc)
  next_local m (next.Asleep resume (Some out)) TimeOut h = absurd (ready_not_local _ out fault.NotWaiting h)

  -- an operation that is made fits and is ready
  pub record IsMade (m : Memory Value Fixed) (n : Next Op) (op : Op) : Type 0 where
    pub takes : TakesReply n
    pub fits : Fits space m.fixed op
    pub ready : is_ready space m.fixed m.values op ≡ true

  pub next_event : SpaceLaws space → (m : Memory Value Fixed) (n : Next Op) (input : Input) (op : Op) → NextFits space m.fixed n → NextKinds space n → step_of_next space m n input ≡ step.Event op → IsMade m n op
  next_event laws m (next.Halted outcome) input op fits kinds h = absurd (cc)
  next_event laws m next.Local Go op fits kinds h = absurd (cc)
  next_event laws m next.Local TimeOut op fits kinds h = absurd (cc)
  next_event laws m (next.Ask asked) TimeOut op fits kinds h = absurd (cc)
  next_event laws m (next.Ask asked) Go op fits kinds h =
      let e : asked ≡ op = cc in
      let fits' : Fits space m.fixed op = subst (Fits space m.fixed) e fits in
      record { takes = tt; fits = fits'; ready = laws.access_ready m.fixed op m.values fits' (ap space.kind (sym e) ∙ kinds) }
  next_event laws m (next.Asleep resume None) Go op fits kinds h =
      let e = ready_event _ resume op fault.Asleep h in
      record { takes = tt; fits = subst (Fits space m.fixed) e.1 fits; ready = ap (is_ready space m.fixed m.values) (sym e.1) ∙ e.0 }
  next_event laws m (next.Asleep resume (Some out)) Go op fits kinds h =
      let e = ready_event _ resume op fault.Asleep h in
      record { takes = tt; fits = subst (Fits space m.fixed) e.1 fits.0; ready = ap (is_ready space m.fixed m.values) (sym e.1) ∙ e.0 }
  next_event laws m (next.Asleep resume None) TimeOut op fits kinds h = absurd (cc)
  next_event laws m (next.Asleep resume (Some out)) TimeOut op fits kinds h =
      let e = ready_event _ out op fault.NotWaiting h in
      record { takes = tt; fits = subst (Fits space m.fixed) e.1 fits.1; ready = ap (is_ready space m.fixed m.values) (sym e.1) ∙ e.0 }

-- where a test chose the first of two
chosen : {A : Type 0} (b : Bool) (x y z : A) → cond b x y ≡ z → (y ≡ z → ⊥) → (b ≡ true) × (x ≡ z)
chosen true x y z h _ = (refl, h)
chosen false x y z h never = absurd (never h)

module _ {State Op Reply Value Fixed : Type 0} (space : Space Op Reply Value Fixed) (code : Code State Op Reply Fixed) where
  pub thread_local : (m : Memory Value Fixed) (o : Option (ThreadAt State)) (input : Input) → step_of_thread space code m o input ≡ step.Local → (t : ThreadAt State) × (o ≡ Some t) × CanStepLocally code t
  thread_local m None input h = absurd (cc)
  thread_local m (Some t) input h =
      let e = chosen (nat_lt (code.steps t.state) 1000000000) _ _ _ h (λ no. cc) in
      (t, refl, record { next = next_local space m (code.next t.state) input e.1; steps = ltb-true _ _ e.0 })

  -- the thread of an event, and its operation
  pub record IsEvent (m : Memory Value Fixed) (t : ThreadAt State) (op : Op) : Type 0 where
    pub steps : code.steps t.state < 1000000000
    pub made : IsMade space m (code.next t.state) op

  pub thread_event : SpaceLaws space → CodeLaws space code → (m : Memory Value Fixed) (o : Option (ThreadAt State)) (input : Input) (op : Op) → ((t : ThreadAt State) → o ≡ Some t → code.fixed t.state ≡ m.fixed) → ((t : ThreadAt State) → o ≡ Some t → code.is_suited t.state ≡ true) → step_of_thread space code m o input ≡ step.Event op → (t : ThreadAt State) × (o ≡ Some t) × IsEvent m t op
  thread_event laws rules m None input op same is_suited h = absurd (cc)
  thread_event laws rules m (Some t) input op same is_suited h =
      let e = chosen (nat_lt (code.steps t.state) 1000000000) _ _ _ h (λ no. cc) in (
        t,
        refl,
        record {
          steps = ltb-true _ _ e.0;
          made = next_event space laws m (code.next t.state) input op (subst (λ f. NextFits space f (code.next t.state)) (same t refl) (rules.fits t.state (is_suited t refl))) (rules.kinds t.state) e.1;
        },
      )
