-- What a turn and the test of the breaks behind it tell.
use Rattle.std.proofs.Common.{Bool, ◌≡◌, ℕ, ◌⊎◌, true, false, List, None, Some, length, refl, sym, ap, ◌∙◌, subst, inl, inr, arith}
use Rattle.std.proofs.lemmas.Option.{slice_get_past}
use Rattle.rw_objects.specs.Space.{Space}
use Rattle.rw_objects.specs.Code.{Code}
use Rattle.event_core.specs.World.{WorldAt}
use Rattle.replay_laws.specs.declared.turn.Turn.{Turn}
use Rattle.replay_laws.specs.declared.turn.Turn.TheVariants as turn
use Rattle.replay_laws.specs.declared.turn.Refusal.{Refusal}
use Rattle.replay_laws.specs.declared.turn.Refusal.TheVariants.{Missing, Clash, Shut, Diverged}
use Rattle.replay_laws.specs.Log.{Log}
use Rattle.replay_laws.specs.Turns.{turn_of, world_after_turn}
use Rattle.replay_gate.specs.declared.answers.ReplayFault.{ReplayFault}
use Rattle.replay_gate.specs.declared.answers.ReplayFault.TheVariants as fault
use Rattle.replay_gate.specs.declared.answers.Turned.{Turned}
use Rattle.replay_gate.specs.declared.answers.Turned.TheVariants as turned
use Rattle.replay_gate.specs.Answers.{fault_of, makes_step}
use Rattle.replay_gate.specs.Turned.{answer_of_turn, TurnRefused}
use Rattle.replay_gate.specs.declared.breaks.Break.{Break}
use Rattle.replay_gate.specs.declared.marks.Marks.{Marks}
use Rattle.replay_gate.specs.declared.running.Taken.TheVariants as taken
use Rattle.replay_gate.specs.Tests.{holds_by, IsFirst, HoldsNone}
use Rattle.replay_gate.specs.Breaks.{Hits, NoneHits, FirstHits}
use Rattle.replay_gate.specs.Stops.{GoesOn, is_passed_over, is_done, taken_of, TurnTakes, Diverges}
use Rattle.replay_gate.proofs.Testing.{MarksTell, passes_holds, fails_holds}

-- where there is no break none holds
pub none_holds : {State Op Reply Value Fixed : Type 0} (code : Code State Op Reply Fixed) (breaks : List Break) (t : ℕ) (d : Turned) (marks : Marks) (v : WorldAt State Value Fixed) → length breaks ≡ 0 → HoldsNone code breaks t d marks v
none_holds code breaks t d marks v none j b at = let past : None ≡ Some b = sym (slice_get_past breaks j (omega (arith, none))) ∙ at in absurd cc

-- ---- answers

pub step_made : (x : Turn) (d : Turned) → answer_of_turn x ≡ Some d → is_done d ≡ false → makes_step x ≡ true
step_made turn.Done turned.Done is h = absurd cc
step_made turn.Done turned.Local is h = absurd cc
step_made turn.Done turned.Event is h = absurd cc
step_made turn.Local d is h = refl
step_made (turn.Event input) d is h = refl
step_made (turn.Refused r) d is h = absurd cc

pub step_taken : (x : Turn) → makes_step x ≡ true → taken.Step ≡ taken_of x
step_taken turn.Done h = absurd cc
step_taken turn.Local h = refl
step_taken (turn.Event input) h = refl
step_taken (turn.Refused r) h = absurd cc

step_on : (x : Turn) → makes_step x ≡ true → GoesOn x
step_on turn.Done h = absurd cc
step_on turn.Local h = tt
step_on (turn.Event input) h = tt
step_on (turn.Refused r) h = absurd cc

-- a turn that was done
pub done_is : (x : Turn) (d : Turned) → answer_of_turn x ≡ Some d → is_done d ≡ true → x ≡ turn.Done
done_is turn.Done d is h = refl
done_is turn.Local turned.Done is h = absurd cc
done_is turn.Local turned.Local is h = absurd cc
done_is turn.Local turned.Event is h = absurd cc
done_is (turn.Event input) turned.Done is h = absurd cc
done_is (turn.Event input) turned.Local is h = absurd cc
done_is (turn.Event input) turned.Event is h = absurd cc
done_is (turn.Refused r) d is h = absurd cc

step_or_not : (b : Bool) → b ≡ true → b ≡ false → ⊥
step_or_not b h other = cc

passed_by : (r : Refusal) (t place : ℕ) → is_passed_over (fault_of r t place) ≡ true → GoesOn (turn.Refused r)
passed_by Missing t place h = tt
passed_by Clash t place h = tt
passed_by Shut t place h = tt
passed_by Diverged t place h = absurd cc

diverged_by : (r : Refusal) (t place : ℕ) → is_passed_over (fault_of r t place) ≡ false → r ≡ Diverged
diverged_by Missing t place h = absurd cc
diverged_by Clash t place h = absurd cc
diverged_by Shut t place h = absurd cc
diverged_by Diverged t place h = refl

memory_stops : (f : ReplayFault) → f ≡ fault.NoMemory → is_passed_over f ≡ true → ⊥
memory_stops f e h = let k = ap is_passed_over e in cc

module _ {State Op Reply Value Fixed : Type 0} (space : Space Op Reply Value Fixed) (code : Code State Op Reply Fixed) (log : Log) (w : WorldAt State Value Fixed) (t : ℕ) where
  -- ---- refusals

  -- a turn is refused, and passed over
  pub record IsPassedOver : Type 0 where
    pub refusal : Refusal
    pub refused : turn_of space code log w t ≡ turn.Refused refusal
    pub goes_on : GoesOn (turn.Refused refusal)

  passed : (f : ReplayFault) → (f ≡ fault.NoMemory) ⊎ TurnRefused space code log w t f → is_passed_over f ≡ true → IsPassedOver
  passed f (inl e) h = absurd (memory_stops f e h)
  passed f (inr x) h = record { refusal = x.refusal; refused = x.refused; goes_on = passed_by x.refusal t x.thread.places (ap is_passed_over (sym x.is) ∙ h) }

  pub passed_takes : (f : ReplayFault) (breaks : List Break) (v : WorldAt State Value Fixed) → (f ≡ fault.NoMemory) ⊎ TurnRefused space code log w t f → is_passed_over f ≡ true → v ≡ w → TurnTakes space code log w t breaks v taken.Held
  passed_takes f breaks v r h same =
      let p = passed f r h in
      let q = ap makes_step p.refused in
      record {
        taken = ap taken_of (sym p.refused);
        on = subst GoesOn (sym p.refused) p.goes_on;
        none = λ j b is y. step_or_not _ y.step q;
        world = same ∙ ap (world_after_turn space code w t) (sym p.refused);
      }

  pub fault_stops : (f : ReplayFault) → (f ≡ fault.NoMemory) ⊎ TurnRefused space code log w t f → is_passed_over f ≡ false → (f ≡ fault.NoMemory) ⊎ Diverges space code log w t f
  fault_stops f (inl e) h = inl e
  fault_stops f (inr x) h =
      let d = diverged_by x.refusal t x.thread.places (ap is_passed_over (sym x.is) ∙ h) in
      inr (record { refused = x.refused ∙ ap (λ r. turn.Refused r) d; thread = x.thread; exists = x.exists; is = x.is ∙ ap (λ r. fault_of r t x.thread.places) d })

  -- ---- breaks

  pub done_takes : (breaks : List Break) (v : WorldAt State Value Fixed) → turn_of space code log w t ≡ turn.Done → v ≡ w → TurnTakes space code log w t breaks v taken.Done
  done_takes breaks v is same = record {
    taken = ap taken_of (sym is);
    on = subst GoesOn (sym is) tt;
    none = λ j b at y. step_or_not _ y.step (ap makes_step is);
    world = same ∙ ap (world_after_turn space code w t) (sym is);
  }

  module _ (d : Turned) (marks : Marks) (v : WorldAt State Value Fixed) (m : MarksTell space code w t (turn_of space code log w t) marks) (is : answer_of_turn (turn_of space code log w t) ≡ Some d)
      (after : v ≡ world_after_turn space code w t (turn_of space code log w t)) where
    hits : (b : Break) → makes_step (turn_of space code log w t) ≡ true → holds_by code b t d marks v ≡ true → Hits space code log w t b
    hits b s h = record { step = s; holds = subst (λ u. Rattle.replay_gate.specs.Breaks.Holds space code w u t (turn_of space code log w t) b) after (passes_holds space code w t (turn_of space code log w t) d marks v m is b h) }

    misses : (b : Break) → holds_by code b t d marks v ≡ false → Hits space code log w t b → ⊥
    misses b h y =
        fails_holds space code w t (turn_of space code log w t) d marks v m is after b h
        (subst (λ u. Rattle.replay_gate.specs.Breaks.Holds space code w u t (turn_of space code log w t) b) (sym after) y.holds)

    pub first_hits : (breaks : List Break) (index : ℕ) → is_done d ≡ false → IsFirst code breaks t d marks v index → FirstHits space code log w t breaks index
    first_hits breaks index s f = record {
      one = f.one;
      is = f.is;
      hits = hits f.one (step_made (turn_of space code log w t) d is s) f.holds;
      first = λ j b l at. misses b (f.first j b l at);
    }

    none_hits : (breaks : List Break) → HoldsNone code breaks t d marks v → NoneHits space code log w t breaks
    none_hits breaks n j b at = misses b (n j b at)

    pub step_takes : (breaks : List Break) → is_done d ≡ false → HoldsNone code breaks t d marks v → TurnTakes space code log w t breaks v taken.Step
    step_takes breaks s n =
        let made = step_made (turn_of space code log w t) d is s in
        record { taken = step_taken (turn_of space code log w t) made; on = step_on (turn_of space code log w t) made; none = none_hits breaks n; world = after }
