-- The laws of replay, over picks.
use Rattle.std.proofs.Common.{◌≡◌, ℕ, Option, Some, None, slice_get, option_map, refl, List, length, sym, ap, ◌∙◌, subst, inl, inr, arith}
use Rattle.std.proofs.lemmas.Bool.{cases_lt}
use Rattle.rw_objects.specs.Space.{Space, SpaceLaws}
use Rattle.rw_objects.specs.Code.{Code, CodeLaws}
use Rattle.event_core.specs.Run.{world_run}
use Rattle.event_core.proofs.Opens.{opening_is_sound}
use Rattle.replay_laws.specs.Log.{Log, IsBelow, IsBelowLog, IsCompleteLog, HasLimits, known}
use Rattle.replay_laws.specs.RunLog.{run_log, end_of_thread}
use Rattle.replay_laws.specs.Laws.{IsWholeRun, IsRight, ReplaysAreRight, TurnsAreGatedSteps, OneRecordedValue, RunLogsAreComplete, CompleteLogsAreRunLogs, FinishedReplaysVouch, FinishedReplaysEndAlike}
use Rattle.replay_laws.proofs.Views.{system_of, view, happenings}
use Rattle.replay_laws.proofs.Near.{near}
use Rattle.replay_laws.proofs.Picks.{below_is, gated_is, gated_enabled, opening_is, finished_is, same_ends}
use Rattle.replay_laws.proofs.LogsOfPicks.{log_same, log_is, whole_is}
use Rattle.replay_laws.proofs.PointsOfPicks.{is_recorded, recorded_is, stood_is}
use Rattle.replay_laws.proofs.Vouch.{complete_agrees}
use Rattle.replay_laws.proofs.Turns.{Answer, IsTurn}
use Rattle.replay_laws.proofs.TurnsOfPicks.{answer_of, turn_is}
use Rattle.replay_laws.proofs.Passing.{turn_passes, passing_turn}
use Rattle.replay_laws.proofs.Picks.{kept_run, same_run}
use Rattle.replay_laws.specs.declared.turn.Turn.{Turn}
use Rattle.replay_laws.specs.declared.turn.Turn.TheVariants as turn
use Rattle.replay_laws.specs.declared.turn.Refusal.TheVariants as refusal
use Rattle.replay_laws.specs.Turns.{turn_of}
use Rattle.replay_laws.specs.Gates.{IsGatedRun}
use Rattle.event_core.specs.declared.pick.Pick.{Pick}
use Rattle.event_core.specs.Threads.{ThreadAt}
use Rattle.event_core.specs.World.{WorldAt}
use Rattle.log_pieces.specs.declared.end.End.{End}
use Rattle.log_pieces.specs.declared.flat.Flat.{Flat}
use Rattle.log_pieces.specs.declared.flat.Flat.TheVariants.{Known}
use Rattle.replay_laws.proofs.Theorems.{one_value, runs_log_is_complete, finished_vouches, replays_end_alike, right_on_the_way}

module _ {State Op Reply Value Fixed : Type 0} (space : Space Op Reply Value Fixed) (code : Code State Op Reply Fixed) (laws : SpaceLaws space) (rules : CodeLaws space code) where
  pub one_recorded_value : OneRecordedValue space code
  one_recorded_value w ps r o v x y a b =
      one_value (system_of space code w.memory.fixed (length w.threads)) (view space code w) (happenings space code w ps) (view space code (world_run space code w ps)) (whole_is space code laws rules w ps r)
      o v x y (is_recorded space code w ps o v x a) (is_recorded space code w ps o v y b)

  pub run_logs_are_complete : RunLogsAreComplete space code
  run_logs_are_complete w ps r =
      let c = runs_log_is_complete (system_of space code w.memory.fixed (length w.threads)) (view space code w) (happenings space code w ps) (view space code (world_run space code w ps)) (whole_is space code laws rules w ps r) in
      subst (IsCompleteLog (length w.threads)) (log_is space code laws rules w ps) c.0

  pub complete_logs_are_run_logs : CompleteLogsAreRunLogs space code
  complete_logs_are_run_logs w ps r log b c =
      let sys = system_of space code w.memory.fixed (length w.threads) in
      let whole = whole_is space code laws rules w ps r in
      let agrees = complete_agrees sys (view space code w) (happenings space code w ps) (view space code (world_run space code w ps)) whole.run whole.opening log (below_is space code laws rules log w ps b) c in
      let own = run_logs_are_complete w ps r in
      let is = log_is space code laws rules w ps in
      log_same log (run_log space code w ps)
      (λ t p. elim (cases_lt t (length w.threads)) [ inl l ↦ agrees.entries t p l ∙ ap (λ x. x.entry t p) is | inr l ↦ c.no_other_entry t p l ∙ sym (own.no_other_entry t p l) ])
      (λ t. elim (cases_lt t (length w.threads)) [ inl l ↦ agrees.ends t l ∙ ap (λ x. x.end t) is | inr l ↦ c.no_other_end t l ∙ sym (own.no_other_end t l) ])

  pub finished_replays_vouch : FinishedReplaysVouch space code
  finished_replays_vouch w opening log gs g f =
      let sys = system_of space code w.memory.fixed (length w.threads) in
      let sound = opening_is_sound code w opening in
      let v = finished_vouches sys (view space code w) (opening_is space code laws rules w opening) log (happenings space code w gs) (view space code (world_run space code w gs)) (gated_is space code laws rules log w gs sound g) (finished_is space code laws rules log w gs f) in
      let is = log_is space code laws rules w gs in
      record {
        run = gated_enabled space code laws rules log w gs g;
        below = subst (λ l. IsBelowLog l log) is v.1.below;
        same = λ c. sym is ∙ log_same _ log (v.1.entries c) (v.1.ends c);
      }

  pub finished_replays_end_alike : FinishedReplaysEndAlike space code
  finished_replays_end_alike w ps r log b gs g f =
      let sys = system_of space code w.memory.fixed (length w.threads) in
      same_ends space code laws rules w gs ps
      (replays_end_alike sys (near space code w.memory.fixed (length w.threads))
      (view space code w) (happenings space code w ps) (view space code (world_run space code w ps))
      (whole_is space code laws rules w ps r)
      log (below_is space code laws rules log w ps b)
      (happenings space code w gs) (view space code (world_run space code w gs))
      (gated_is space code laws rules log w gs (opening_is_sound code w r.opening) g)
      (finished_is space code laws rules log w gs f))

  -- ends below those of a sound world are within the limits
  end_known : (o : Option (ThreadAt State)) (e : End) (x : Option (Flat End)) → x ≡ Some (Known e) → IsBelow x (known (option_map (end_of_thread code) o)) → (th : ThreadAt State) × (o ≡ Some th) × (e ≡ end_of_thread code th)
  end_known o e None q b = absurd (cc)
  end_known None e (Some x) q (inl b) = absurd (cc)
  end_known None e (Some x) q (inr b) = absurd (cc)
  end_known (Some th) e (Some x) q (inl b) = (th, refl, cc)
  end_known (Some th) e (Some x) q (inr b) = absurd (cc)

  pub limits_of : (w : WorldAt State Value Fixed) (ps : List Pick) → IsWholeRun space code w ps → (log : Log) → IsBelowLog log (run_log space code w ps) → HasLimits log
  limits_of w ps r log b t e q =
      let u = world_run space code w ps in
      let k = end_known (slice_get u.threads t) e (log.end t) q (b.ends t) in
      let sound = kept_run space code laws rules w ps (opening_is_sound code w r.opening) in
      omega (arith, ap (λ x. x.steps) k.2, (sound.each t k.0 k.1).steps)

  module _ (w : WorldAt State Value Fixed) (ps : List Pick) (r : IsWholeRun space code w ps) (log : Log) (b : IsBelowLog log (run_log space code w ps)) (gs : List Pick) (g : IsGatedRun space code log w gs) where
    -- what a turn answers there, in the relation
    pub turn_at : (t : ℕ) → IsTurn (system_of space code w.memory.fixed (length w.threads)) log (view space code (world_run space code w gs)) t (answer_of (turn_of space code log (world_run space code w gs) t))
    turn_at t =
        subst (λ s. IsTurn s log (view space code (world_run space code w gs)) t (answer_of (turn_of space code log (world_run space code w gs) t))) (same_run space code laws rules w gs)
        (turn_is space code laws rules log (limits_of w ps r log b) (world_run space code w gs) (kept_run space code laws rules w gs (opening_is_sound code w r.opening)) t)

    pub never : (a : Answer) (t : ℕ) → (IsTurn (system_of space code w.memory.fixed (length w.threads)) log (view space code (world_run space code w gs)) t a → ⊥) → (x : Turn) → answer_of x ≡ a → turn_of space code log (world_run space code w gs) t ≡ x → ⊥
    never a t other x is q = other (subst (IsTurn (system_of space code w.memory.fixed (length w.threads)) log (view space code (world_run space code w gs)) t) (ap answer_of q ∙ is) (turn_at t))

    pub is_right : IsRight space code log w ps (world_run space code w gs)
    is_right =
        let sys = system_of space code w.memory.fixed (length w.threads) in
        let v = world_run space code w gs in
        let a = right_on_the_way sys (near space code w.memory.fixed (length w.threads)) (view space code w) (happenings space code w ps) (view space code (world_run space code w ps)) (whole_is space code laws rules w ps r)
        log (below_is space code laws rules log w ps b) (happenings space code w gs) (view space code v) (gated_is space code laws rules log w gs (opening_is_sound code w r.opening) g) in
        record {
          values = λ o. recorded_is space code w ps o (v.memory.counts o).version (v.memory.values o) (a.objects o);
          threads = λ t th is. stood_is space code w ps t th (slice_get v.threads t) is (a.threads t);
          no_clash = λ t q. never _ t (a.no_clash t) (turn.Refused refusal.Clash) refl q;
          no_divergence = λ t q. never _ t (a.no_divergence t) (turn.Refused refusal.Diverged) refl q;
        }

  pub replays_are_right : ReplaysAreRight space code
  replays_are_right w ps r log b gs g = is_right w ps r log b gs g

  pub turns_are_gated_steps : TurnsAreGatedSteps space code
  turns_are_gated_steps log limits w t input = (turn_passes space code rules log limits w t input, passing_turn space code rules log limits w t input)
