-- What the moves of a driven thread come to.
use Rattle.std.proofs.Common.{◌≡◌, ℕ, zero, suc, ◌+◌, ◌<◌, ◌≤◌, Bool, true, false, List, [], ◌∷◌, ◌++◌, length, Some, refl, sym, ap, ◌∙◌, subst, arith}
use Rattle.std.proofs.lemmas.List.{length-append}
use Rattle.wasm_types.specs.declared.sizes.TheConstants.{MOST_STEPS}
use Rattle.rw_objects.specs.Space.{Space, Fits}
use Rattle.rw_objects.specs.Code.{Code, CodeLaws, TakesReply, NextFits}
use Rattle.rw_objects.specs.LocalRun.{GoesLocally, GoesLocallyWithin}
use Rattle.rw_objects.proofs.LocalRuns.{goes_steps}
use Rattle.rw_objects.specs.Memory.{Memory}
use Rattle.rw_objects.specs.declared.next.Next.TheVariants as next
use Rattle.event_core.specs.declared.pick.Input.{Input}
use Rattle.event_core.specs.Threads.{ThreadAt}
use Rattle.event_core.specs.Sound.{IsSoundThread}
use Rattle.replay_laws.specs.History.{op_at, IfTimeOut}
use Rattle.shared_parts.specs.Calls.{call}
use Rattle.workers.specs.Driving.{Driven, Went, IsEntered, Advances}
use Rattle.workers.proofs.Goes.{went_on, went_nowhere, went_locally, went_by}

module _ {State Op Reply Value Fixed : Type 0} (space : Space Op Reply Value Fixed) (code : Code State Op Reply Fixed) where
  module _ (rules : CodeLaws space code) where
    pub sound_entered : (m : Memory Value Fixed) (op : Op) (a b : Driven State Op Reply) → TakesReply (code.next a.thread.state) → code.steps a.thread.state < MOST_STEPS → IsEntered code op a b → IsSoundThread code m a.thread → IsSoundThread code m b.thread
    sound_entered m op a b takes below e sound = record {
      fixed = ap code.fixed e.state ∙ (rules.take_fixed a.thread.state e.reply takes ∙ sound.fixed);
      is_suited = ap code.is_suited e.state ∙ rules.take_suited a.thread.state e.reply takes sound.is_suited;
      steps = let s = ap code.steps e.state ∙ rules.take_steps a.thread.state e.reply takes in omega (arith, s, below);
      places = let s = ap code.steps e.state ∙ rules.take_steps a.thread.state e.reply takes in omega (arith, s, e.places, sound.places);
    }

    pub steps_entered : (op : Op) (a b : Driven State Op Reply) → TakesReply (code.next a.thread.state) → IsEntered code op a b → code.steps b.thread.state ≡ code.steps a.thread.state + 1
    steps_entered op a b takes e = ap code.steps e.state ∙ rules.take_steps a.thread.state e.reply takes

    pub sound_locals : (m : Memory Value Fixed) (n : ℕ) (t u : ThreadAt State) → GoesLocally code n t.state u.state → u.places ≡ t.places → IsSoundThread code m t → IsSoundThread code m u
    sound_locals m zero t u l same sound =
        let e : u.state ≡ t.state = sym l in
        record {
          fixed = ap code.fixed e ∙ sound.fixed;
          is_suited = ap code.is_suited e ∙ sound.is_suited;
          steps = let k = ap code.steps e in omega (arith, k, sound.steps);
          places = let k = ap code.steps e in omega (arith, k, same, sound.places);
        }
    sound_locals m (suc n) t u l same sound =
        let steps = rules.local_steps t.state l.0 in
        sound_locals m n (record { state = code.local t.state; places = t.places }) u l.2 same (record {
          fixed = rules.local_fixed t.state l.0 ∙ sound.fixed;
          is_suited = rules.local_suited t.state l.0 sound.is_suited;
          steps = let b = l.1 in omega (arith, steps, b);
          places = omega (arith, steps, sound.places);
        })

    pub sound_within : (m : Memory Value Fixed) (most : ℕ) (t u : ThreadAt State) → GoesLocallyWithin code most t.state u.state → u.places ≡ t.places → IsSoundThread code m t → IsSoundThread code m u
    sound_within m most t u l same sound = sound_locals m l.0 t u l.1 same sound

    pub steps_within : (most : ℕ) (s u : State) → GoesLocallyWithin code most s u → code.steps u ≤ code.steps s + most
    steps_within most s u l = let made = goes_steps code space rules l.0 s u l.1 in let few = l.2 in omega (arith, made, few)

    -- what a sound thread asks for fits
    pub sound_fits : (m : Memory Value Fixed) (t : ThreadAt State) → IsSoundThread code m t → NextFits space m.fixed (code.next t.state)
    sound_fits m t sound = subst (λ f. NextFits space f (code.next t.state)) sound.fixed (rules.fits t.state sound.is_suited)

  module _ (may : ℕ → State → Bool) where
    pub advances_on : (a b c : Driven State Op Reply) → Advances code may a b → Advances code may b c → Advances code may a c
    advances_on a b c x y = record {
      went = went_on code (may a.seat.thread) a.seat.thread a.thread.state b.thread.state c.thread.state a.seat.calls b.seat.calls c.seat.calls x.went
          (subst (λ t. Went code (may t) t b.thread.state b.seat.calls c.thread.state c.seat.calls) x.thread y.went);
      thread = y.thread ∙ x.thread;
      places = omega (arith, x.places, y.places);
    }

    pub advances_nowhere : (a b : Driven State Op Reply) → b ≡ a → Advances code may a b
    advances_nowhere a b e = record {
      went = went_nowhere code (may a.seat.thread) a.seat.thread a.thread.state b.thread.state a.seat.calls b.seat.calls (ap (λ w. w.thread.state) e) (ap (λ w. w.seat.calls) e);
      thread = ap (λ w. w.seat.thread) e;
      places = let p = ap (λ (w : Driven State Op Reply). w.thread.places) e in let l = ap (λ (w : Driven State Op Reply). length w.seat.calls) e in omega (arith, p, l);
    }

    pub advances_locally : (a b : Driven State Op Reply) (n : ℕ) → GoesLocally code n a.thread.state b.thread.state → b.thread.places ≡ a.thread.places → b.seat ≡ a.seat → Advances code may a b
    advances_locally a b n r p s = record {
      went = went_locally code (may a.seat.thread) a.seat.thread n a.thread.state b.thread.state a.seat.calls b.seat.calls r (ap (λ w. w.calls) s);
      thread = ap (λ w. w.thread) s;
      places = let l = ap (λ w. length w.calls) s in omega (arith, p, l);
    }

    pub advances_within : (a b : Driven State Op Reply) (most : ℕ) → GoesLocallyWithin code most a.thread.state b.thread.state → b.thread.places ≡ a.thread.places → b.seat ≡ a.seat → Advances code may a b
    advances_within a b most l p s = advances_locally a b l.0 l.1 p s

    pub advances_by : (a b : Driven State Op Reply) (input : Input) (op : Op) → op_at (code.next a.thread.state) input ≡ Some op → code.steps a.thread.state < MOST_STEPS → IfTimeOut input (may a.seat.thread a.thread.state ≡ true) → IsEntered code op a b → Advances code may a b
    advances_by a b input op asks below time e = record {
      went = went_by code (may a.seat.thread) a.seat.thread a.thread.state b.thread.state a.seat.calls b.seat.calls input op e.reply e.entry asks below time e.state e.calls;
      thread = e.thread;
      places = let l = ap length e.calls ∙ length-append a.seat.calls (call a.seat.thread op e.reply e.entry ∷ []) in omega (arith, l, e.places);
    }

    pub advances_if : (a b : Driven State Op Reply) (input : Input) (op : Op) (made : Bool) → op_at (code.next a.thread.state) input ≡ Some op → code.steps a.thread.state < MOST_STEPS → IfTimeOut input (may a.seat.thread a.thread.state ≡ true)
        → (made ≡ true → IsEntered code op a b) → (made ≡ false → b ≡ a) → Advances code may a b
    advances_if a b input op true asks below time entered kept = advances_by a b input op asks below time (entered refl)
    advances_if a b input op false asks below time entered kept = advances_nowhere a b (kept refl)

    -- a try of a thread that stood where a did
    pub advances_still : (a w b : Driven State Op Reply) (input : Input) (op : Op) (made : Bool) → w ≡ a → op_at (code.next a.thread.state) input ≡ Some op → code.steps a.thread.state < MOST_STEPS → IfTimeOut input (may a.seat.thread a.thread.state ≡ true)
        → (made ≡ true → IsEntered code op w b) → (made ≡ false → b ≡ w) → Advances code may a b
    advances_still a w b input op made same asks below time entered kept =
        advances_if a b input op made asks below time (λ e. subst (λ x. IsEntered code op x b) same (entered e)) (λ e. kept e ∙ same)
