-- What is noted of turns, one after the other.
use Rattle.std.proofs.Common.{◌≡◌, ℕ, suc, true, false, List, [], ◌++◌, length, Some, refl, sym, ap, ◌∙◌, subst, append_assoc}
use Rattle.std.proofs.lemmas.List.{append-nil}
use Rattle.rw_objects.specs.Space.{Space}
use Rattle.rw_objects.specs.Code.{Code}
use Rattle.event_core.specs.World.{WorldAt}
use Rattle.replay_laws.specs.declared.turn.Turn.{Turn}
use Rattle.replay_laws.specs.declared.turn.Turn.TheVariants as turn
use Rattle.replay_laws.specs.Log.{Log}
use Rattle.replay_laws.specs.Turns.{turn_of, world_after_turn}
use Rattle.replay_laws.specs.Ordered.{thread_of_turn, ordered_world}
use Rattle.replay_gate.specs.declared.answers.Turned.{Turned}
use Rattle.replay_gate.specs.declared.answers.Turned.TheVariants as turned
use Rattle.replay_gate.specs.LocalRounds.{Rests}
use Rattle.replay_gate.specs.Turned.{answer_of_turn}
use Rattle.replay_gate.specs.declared.breaks.Break.{Break}
use Rattle.replay_gate.specs.declared.breaks.Stopped.{Stopped}
use Rattle.replay_gate.specs.declared.breaks.Stopped.TheVariants as stopped
use Rattle.replay_gate.specs.Tests.{is_answer}
use Rattle.replay_gate.specs.Stops.{TurnStopsAt}
use Rattle.replay_gate.specs.Notes.{HasNoted, HasNotedTurns, noted_at, event_note, note_by, note_of_turn, notes}

-- ---- one who watches

module _ {Watcher Asked : Type 0} (asked : Watcher → Asked) (whole : Watcher → Type 0) (noted : Watcher → List ℕ) where
  pub noted_none : (a : Watcher) → HasNoted asked whole noted a a []
  noted_none a = record { same = refl; before = λ h. h; is = λ h. sym (append-nil (noted a)) }

  pub noted_more : (a b c : Watcher) (x y : List ℕ) → HasNoted asked whole noted a b x → HasNoted asked whole noted b c y → HasNoted asked whole noted a c (x ++ y)
  noted_more a b c x y p q = record {
    same = q.same ∙ p.same;
    before = λ h. p.before (q.before h);
    is = λ h. q.is h ∙ ap (λ z. z ++ y) (p.is (q.before h)) ∙ append_assoc (noted a) x y;
  }

  -- behind what notes nothing
  pub noted_behind : (a b c : Watcher) (y : List ℕ) → HasNoted asked whole noted a b [] → HasNoted asked whole noted b c y → HasNoted asked whole noted a c y
  noted_behind a b c y p q = noted_more a b c [] y p q

module _ {State Op Reply Value Fixed : Type 0} (space : Space Op Reply Value Fixed) (code : Code State Op Reply Fixed) where
  -- ---- a turn

  module _ (note : WorldAt State Value Fixed → ℕ → WorldAt State Value Fixed → List ℕ) where
    -- a turn that rests is not noted
    pub rests_note : (w : WorldAt State Value Fixed) (t : ℕ) (x : Turn) → Rests x → note_by space code note w t x ≡ []
    rests_note w t turn.Done h = refl
    rests_note w t turn.Local h = absurd h
    rests_note w t (turn.Event input) h = absurd h
    rests_note w t (turn.Refused r) h = refl

    -- a turn that was made is noted as it was answered
    pub answered_note : (w v : WorldAt State Value Fixed) (t : ℕ) (x : Turn) (d : Turned) → answer_of_turn x ≡ Some d → v ≡ world_after_turn space code w t x → event_note (is_answer d) (note w t v) ≡ note_by space code note w t x
    answered_note w v t turn.Done turned.Done is e = refl
    answered_note w v t turn.Done turned.Local is e = absurd cc
    answered_note w v t turn.Done turned.Event is e = absurd cc
    answered_note w v t turn.Local turned.Done is e = absurd cc
    answered_note w v t turn.Local turned.Local is e = refl
    answered_note w v t turn.Local turned.Event is e = absurd cc
    answered_note w v t (turn.Event input) turned.Done is e = absurd cc
    answered_note w v t (turn.Event input) turned.Local is e = absurd cc
    answered_note w v t (turn.Event input) turned.Event is e = ap (note w t) e
    answered_note w v t (turn.Refused r) d is e = absurd cc

  -- who looked before a turn that was made, and then noted it as it was answered, has noted it
  module _ {Watcher Asked : Type 0} (asked : Watcher → Asked) (whole : Watcher → Type 0) (noted : Watcher → List ℕ) (note : Asked → WorldAt State Value Fixed → ℕ → WorldAt State Value Fixed → List ℕ) (a b c : Watcher) where
    pub looked_noted : (w seen v left : WorldAt State Value Fixed) (t : ℕ) (x : Turn) (d : Turned) → seen ≡ w → left ≡ v → answer_of_turn x ≡ Some d → v ≡ world_after_turn space code w t x → HasNoted asked whole noted a b []
        → HasNoted asked whole noted b c (event_note (is_answer d) (note (asked b) seen t left)) → HasNoted asked whole noted a c (note_by space code (note (asked a)) w t x)
    looked_noted w seen v left t x d same_w same_v is after p q =
        subst (HasNoted asked whole noted a c) (answered_note (note (asked a)) w v t x d is after)
        (noted_behind asked whole noted a b c (event_note (is_answer d) (note (asked a) w t v)) p
        (subst (λ y. HasNoted asked whole noted b c (event_note (is_answer d) (note y w t v))) p.same
        (subst (λ u. HasNoted asked whole noted b c (event_note (is_answer d) (note (asked b) u t v))) same_w
        (subst (λ u. HasNoted asked whole noted b c (event_note (is_answer d) (note (asked b) seen t u))) same_v q))))

  -- ---- turns of the order

  module _ (log : Log) (start : WorldAt State Value Fixed) (order : List ℕ) where
    -- one turn more
    pub next_note : (note : WorldAt State Value Fixed → ℕ → WorldAt State Value Fixed → List ℕ) (k t : ℕ) (w : WorldAt State Value Fixed) → w ≡ ordered_world space code log start order k → thread_of_turn order (length start.threads) k ≡ t
        → notes space code note log start order k ++ note_of_turn space code note log w t ≡ notes space code note log start order (suc k)
    next_note note k t w at of =
        let u = ordered_world space code log start order k in
        ap (λ z. notes space code note log start order k ++ z) (ap (λ x. note_of_turn space code note log x t) at ∙ ap (note_of_turn space code note log u) (sym of))

    -- a turn that is not noted
    pub quiet_note : (note : WorldAt State Value Fixed → ℕ → WorldAt State Value Fixed → List ℕ) (k t : ℕ) (w : WorldAt State Value Fixed) → w ≡ ordered_world space code log start order k → thread_of_turn order (length start.threads) k ≡ t
        → note_of_turn space code note log w t ≡ [] → notes space code note log start order (suc k) ≡ notes space code note log start order k
    quiet_note note k t w at of none =
        sym (next_note note k t w at of) ∙ ap (λ z. notes space code note log start order k ++ z) none ∙ append-nil (notes space code note log start order k)

    module _ {Watcher Asked : Type 0} (asked : Watcher → Asked) (whole : Watcher → Type 0) (noted : Watcher → List ℕ) (note : Asked → WorldAt State Value Fixed → ℕ → WorldAt State Value Fixed → List ℕ) (old mid new : Watcher) where
      pub turn_noted : (k t : ℕ) (w : WorldAt State Value Fixed) → w ≡ ordered_world space code log start order k → thread_of_turn order (length start.threads) k ≡ t
          → HasNoted asked whole noted old mid (notes space code (note (asked old)) log start order k) → HasNoted asked whole noted mid new (note_of_turn space code (note (asked mid)) log w t)
          → HasNoted asked whole noted old new (notes space code (note (asked old)) log start order (suc k))
      turn_noted k t w at of p q =
          subst (HasNoted asked whole noted old new) (next_note (note (asked old)) k t w at of)
          (noted_more asked whole noted old mid new (notes space code (note (asked old)) log start order k) (note_of_turn space code (note (asked old)) log w t) p
          (subst (λ a. HasNoted asked whole noted mid new (note_of_turn space code (note a) log w t)) p.same q))

      -- where the replay stops behind a turn, or before one that it can't make
      pub stop_noted : (k t : ℕ) (w v : WorldAt State Value Fixed) (breaks : List Break) (s : Stopped) → w ≡ ordered_world space code log start order k → thread_of_turn order (length start.threads) k ≡ t
          → HasNoted asked whole noted old mid (notes space code (note (asked old)) log start order k) → TurnStopsAt space code log w t breaks v s
          → HasNoted asked whole noted mid new (noted_at s (note_of_turn space code (note (asked mid)) log w t))
          → HasNotedTurns space code (note (asked old)) log start order asked whole noted old new v
      stop_noted k t w v breaks (stopped.Break index) at of p stops q = record {
        turns = suc k;
        at = stops.1 ∙ ap (λ x. world_after_turn space code x t (turn_of space code log x t)) at
            ∙ ap (λ x. world_after_turn space code (ordered_world space code log start order k) x (turn_of space code log (ordered_world space code log start order k) x)) (sym of);
        has = turn_noted k t w at of p q;
      }
      stop_noted k t w v breaks stopped.Finished at of p stops q = absurd stops
      stop_noted k t w v breaks stopped.Stuck at of p stops q = absurd stops
      stop_noted k t w v breaks (stopped.Fault f) at of p stops q = record {
        turns = k;
        at = stops.1 ∙ at;
        has = subst (HasNoted asked whole noted old new) (append-nil (notes space code (note (asked old)) log start order k))
            (noted_more asked whole noted old mid new (notes space code (note (asked old)) log start order k) [] p q);
      }
