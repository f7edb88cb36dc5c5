-- The theorems, of any system in which the touched objects alone decide.
use Rattle.replay_laws.specs.Log.{Log}
use Rattle.std.proofs.Common.{◌≡◌, List, sym, ◌∙◌, subst, inl, inr, refl}
use Rattle.std.specs.Prelude.{◌⊎◌}
use Rattle.replay_laws.proofs.System.{System, IsNear}
use Rattle.replay_laws.proofs.Worlds.{World, Happening}
use Rattle.replay_laws.specs.Log.{IsBelowLog}
use Rattle.replay_laws.proofs.Logs.{IsGated, IsFinished, HasStep, log_of}
use Rattle.replay_laws.proofs.Statements.{IsWholeRun, OneValue, RightOnTheWay, NoGateShutsForGood, RunsLogIsComplete, FinishedVouches, ReplaysEndAlike, HasTurn, ReplaysAreFree}
use Rattle.replay_laws.proofs.Points.{same, version_counter}
use Rattle.replay_laws.proofs.Match.{Way}
use Rattle.replay_laws.proofs.Way.{way, way_start}
use Rattle.replay_laws.proofs.Gates.{Gates, gates, gates_start}
use Rattle.replay_laws.proofs.Ends.{same_end}
use Rattle.replay_laws.proofs.Progress.{goes_on}
use Rattle.replay_laws.proofs.Vouch.{gated_run, vouches, vouches_all, complete_agrees, log_below, log_complete}
use Rattle.replay_laws.proofs.Turns.{IsTurn, Moved, Passed}
use Rattle.replay_laws.proofs.Turning.{turn_of_step, never_missing}
use Rattle.replay_laws.proofs.Refusals.{never_clashes, never_diverges}

module _ {V O R S : Type 0} (sys : System V O R S) where
  pub one_value : OneValue sys
  one_value w hs u r o v x y a b = sym a.value ∙ same sys (λ z. z.version o) (λ z. z.value o) (version_counter sys o) w hs u a.point b.point r.run a.is_point b.is_point (a.version ∙ sym b.version) ∙ b.value

  pub runs_log_is_complete : RunsLogIsComplete sys
  runs_log_is_complete w hs u r = (log_complete sys w hs u r.run r.opening, log_below sys w hs u r.run r.opening)

  pub finished_vouches : FinishedVouches sys
  finished_vouches w z log gs g q f = (
    gated_run sys log w gs g q,
    record {
      below = vouches sys log w z gs g q f;
      entries = λ c. (vouches_all sys log w z gs g q f c).0;
      ends = λ c. (vouches_all sys log w z gs g q f c).1;
    },
  )

  turn_at : (log : Log) (g : World V S) (h : Happening V S) → h.before ≡ g → IsTurn sys log h.before h.thread Moved ⊎ IsTurn sys log h.before h.thread Passed → HasTurn sys log g
  turn_at log g h e (inl p) = record { thread = h.thread; answer = Moved; is_step = inl refl; turn = subst (λ w. IsTurn sys log w h.thread Moved) e p }
  turn_at log g h e (inr p) = record { thread = h.thread; answer = Passed; is_step = inr refl; turn = subst (λ w. IsTurn sys log w h.thread Passed) e p }

  turns : (log : Log) (g : World V S) → IsFinished sys log g ⊎ HasStep sys log g → IsFinished sys log g ⊎ HasTurn sys log g
  turns log g (inl f) = inl f
  turns log g (inr s) = inr (turn_at log g s.step s.before (turn_of_step sys log s.step s.is_step s.is_let))

  module _ (laws : IsNear sys) where
    on_way : (w : World V S) (hs : List (Happening V S)) (u : World V S) → IsWholeRun sys w hs u → (log : Log) → IsBelowLog log (log_of sys hs u) → (gs : List (Happening V S)) (g : World V S) → IsGated sys log w gs g → Way sys w hs g
    on_way w hs u r log b gs g q = way sys w hs u r.run r.opening laws log b w gs g (way_start sys w hs u r.run) q

    at_gates : (w : World V S) (hs : List (Happening V S)) (u : World V S) → IsWholeRun sys w hs u → (log : Log) → IsBelowLog log (log_of sys hs u) → (gs : List (Happening V S)) (g : World V S) → IsGated sys log w gs g → Gates hs g
    at_gates w hs u r log b gs g q = gates sys w hs u r.run r.opening laws log b w gs g (way_start sys w hs u r.run) (gates_start sys w hs u r.run r.opening) q

    pub right_on_the_way : RightOnTheWay sys
    right_on_the_way w hs u r log b gs g q =
        let a = on_way w hs u r log b gs g q in
        record {
          objects = a.recorded;
          threads = a.stood;
          no_clash = λ t. never_clashes sys w hs u r.run r.opening laws log b g a t;
          no_divergence = λ t. never_diverges sys w hs u r.run r.opening laws log b g a t;
        }

    pub no_gate_shuts_for_good : NoGateShutsForGood sys
    no_gate_shuts_for_good w hs u r log b c gs g q =
        goes_on sys w hs u r.run r.opening laws log (complete_agrees sys w hs u r.run r.opening log b c) g (on_way w hs u r log b gs g q) (at_gates w hs u r log b gs g q)

    pub replays_end_alike : ReplaysEndAlike sys
    replays_end_alike w hs u r log b gs g q f =
        same_end sys w hs u r.run r.opening g (on_way w hs u r log b gs g q) (at_gates w hs u r log b gs g q) log b f

    pub replays_are_free : ReplaysAreFree sys
    replays_are_free w hs u r log b c gs g q =
        let a = right_on_the_way w hs u r log b gs g q in
        record {
          turns = turns log g (no_gate_shuts_for_good w hs u r log b c gs g q);
          no_clash = a.no_clash;
          no_missing = λ t. never_missing sys log c g t;
          no_divergence = a.no_divergence;
        }
