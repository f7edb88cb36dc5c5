-- No gate shuts for good, and a run's log lets that very run pass.
use Rattle.std.proofs.Common.{◌≡◌, true, ◌+◌, ◌<◌, List, [], ◌∷◌, length, Option, Some, None, slice_get, option_map, refl, sym, ap, ◌∙◌, subst, inl, inr, arith}
use Rattle.std.specs.Prelude.{◌⊎◌}
use Rattle.std.proofs.lemmas.Option.{slice_get_within, slice_get_cases}
use Rattle.rw_objects.specs.Memory.{Memory}
use Rattle.rw_objects.specs.Space.{Space, SpaceLaws}
use Rattle.rw_objects.specs.Code.{Code, CodeLaws}
use Rattle.event_core.specs.declared.pick.Pick.{Pick}
use Rattle.event_core.specs.declared.pick.Input.{Input}
use Rattle.event_core.specs.declared.pick.Input.TheVariants.{Go}
use Rattle.event_core.specs.declared.step.PickStep.{PickStep}
use Rattle.event_core.specs.declared.step.PickStep.TheVariants as step
use Rattle.event_core.specs.Threads.{ThreadAt}
use Rattle.event_core.specs.Sound.{IsSound}
use Rattle.event_core.specs.PickStep.{is_enabled}
use Rattle.event_core.specs.World.{WorldAt, step_of_thread, step_of_pick, world_after}
use Rattle.event_core.specs.Run.{IsRun, world_run, entries}
use Rattle.event_core.proofs.Opens.{opening_is_sound}
use Rattle.log_pieces.specs.declared.flat.Flat.{Flat}
use Rattle.replay_laws.specs.declared.turn.Turn.{Turn}
use Rattle.replay_laws.specs.declared.turn.Turn.TheVariants as turn
use Rattle.replay_laws.specs.declared.turn.Refusal.TheVariants as refusal
use Rattle.replay_laws.specs.Log.{Log, IsBelow, IsBelowLog, known}
use Rattle.replay_laws.specs.RunLog.{run_log, end_of_thread}
use Rattle.replay_laws.specs.Gates.{MeetsLog, LetsPass, IsGatedRun, IsFinished}
use Rattle.replay_laws.specs.Turns.{pick_of, turn_of, input_of_turn}
use Rattle.replay_laws.specs.Laws.{IsWholeRun, IsFree, CompleteReplaysAreFree, RunsReplay}
use Rattle.replay_laws.proofs.Views.{steps_at, places_at, system_of, view, entry_if, happening, happenings}
use Rattle.replay_laws.proofs.Near.{near}
use Rattle.replay_laws.proofs.Logs.{IsGated, IsLet, IsEventLet, IsFinished as IsFinishedView}
use Rattle.replay_laws.proofs.Turns.{Moved, Passed}
use Rattle.replay_laws.proofs.Statements.{HasTurn}
use Rattle.replay_laws.proofs.Answers.{one_answer}
use Rattle.replay_laws.proofs.Gated.{Tells, gated_by}
use Rattle.replay_laws.proofs.Bridge.{same_system, kept_after, run_is}
use Rattle.replay_laws.proofs.Picks.{opening_is, below_is, gated_is, same_length, log_end_is, entries_is, touches_all, open_back, are_back}
use Rattle.replay_laws.proofs.LogsOfPicks.{whole_is}
use Rattle.replay_laws.proofs.TurnsOfPicks.{answer_of}
use Rattle.replay_laws.proofs.Passing.{turn_passes}
use Rattle.replay_laws.proofs.Theorems.{replays_are_free}
use Rattle.replay_laws.proofs.Replays.{run_logs_are_complete, limits_of, never, turn_at}

-- a turn that makes a step has an input
step_made : (x : Turn) → (answer_of x ≡ Moved) ⊎ (answer_of x ≡ Passed) → (i : Input) × (input_of_turn x ≡ Some i)
step_made turn.Local h = (Go, refl)
step_made (turn.Event i) h = (i, refl)
step_made turn.Done (inl e) = absurd (cc)
step_made turn.Done (inr e) = absurd (cc)
step_made (turn.Refused refusal.Missing) (inl e) = absurd (cc)
step_made (turn.Refused refusal.Missing) (inr e) = absurd (cc)
step_made (turn.Refused refusal.Clash) (inl e) = absurd (cc)
step_made (turn.Refused refusal.Clash) (inr e) = absurd (cc)
step_made (turn.Refused refusal.Shut) (inl e) = absurd (cc)
step_made (turn.Refused refusal.Shut) (inr e) = absurd (cc)
step_made (turn.Refused refusal.Diverged) (inl e) = absurd (cc)
step_made (turn.Refused refusal.Diverged) (inr e) = absurd (cc)

below_self : {A : Type 0} (o : Option (Flat A)) → IsBelow o o
below_self None = tt
below_self (Some a) = inl refl

module _ {State Op Reply Value Fixed : Type 0} (space : Space Op Reply Value Fixed) (code : Code State Op Reply Fixed) (laws : SpaceLaws space) (rules : CodeLaws space code) where
  pub below_own : (log : Log) → IsBelowLog log log
  below_own log = record { entries = λ t p. below_self (log.entry t p); ends = λ t. below_self (log.end t) }

  -- a world whose view is finished
  is_finished : (w : WorldAt State Value Fixed) (gs : List Pick) (log : Log) → IsFinishedView (system_of space code w.memory.fixed (length w.threads)) log (view space code (world_run space code w gs)) → IsFinished code log (world_run space code w gs)
  is_finished w gs log f t th is =
      f t (let l = slice_get_within (world_run space code w gs).threads t th is in omega (arith, l, same_length space code laws rules w gs))
      ∙ log_end_is space code laws rules w gs t ∙ ap (λ o. known (option_map (end_of_thread code) o)) is

  module _ (w : WorldAt State Value Fixed) (ps : List Pick) (r : IsWholeRun space code w ps) (gs : List Pick) (g : IsGatedRun space code (run_log space code w ps) w gs) where
    passing : HasTurn (system_of space code w.memory.fixed (length w.threads)) (run_log space code w ps) (view space code (world_run space code w gs)) → (p : Pick) × LetsPass space code (run_log space code w ps) (world_run space code w gs) p
    passing h =
        let log = run_log space code w ps in
        let v = world_run space code w gs in
        let sys = system_of space code w.memory.fixed (length w.threads) in
        let same = one_answer sys log (view space code v) h.thread h.answer (answer_of (turn_of space code log v h.thread)) h.turn (turn_at space code laws rules w ps r log (below_own log) gs g h.thread) in
        let i = step_made (turn_of space code log v h.thread) (elim h.is_step [ inl e ↦ inl (sym same ∙ e) | inr e ↦ inr (sym same ∙ e) ]) in
        (pick_of h.thread i.0, turn_passes space code rules log (limits_of space code laws rules w ps r log (below_own log)) v h.thread i.0 i.1)

    is_free : IsFree space code (run_log space code w ps) (world_run space code w gs)
    is_free =
        let log = run_log space code w ps in
        let v = world_run space code w gs in
        let sys = system_of space code w.memory.fixed (length w.threads) in
        let b = below_own log in
        let a = replays_are_free sys (near space code w.memory.fixed (length w.threads)) (view space code w) (happenings space code w ps) (view space code (world_run space code w ps)) (whole_is space code laws rules w ps r)
        log (below_is space code laws rules log w ps b) (run_logs_are_complete space code laws rules w ps r) (happenings space code w gs) (view space code v) (gated_is space code laws rules log w gs (opening_is_sound code w r.opening) g) in
        record {
          goes_on = elim a.turns [ inl f ↦ inl (is_finished w gs log f) | inr h ↦ inr (passing h) ];
          no_missing = λ t q. never space code laws rules w ps r log b gs g _ t (a.no_missing t) (turn.Refused refusal.Missing) refl q;
          no_clash = λ t q. never space code laws rules w ps r log b gs g _ t (a.no_clash t) (turn.Refused refusal.Clash) refl q;
          no_divergence = λ t q. never space code laws rules w ps r log b gs g _ t (a.no_divergence t) (turn.Refused refusal.Diverged) refl q;
        }

  pub complete_replays_are_free : CompleteReplaysAreFree space code
  complete_replays_are_free w ps r gs g = is_free w ps r gs g

  -- a step whose happening is let pass is let pass
  module _ (log : Log) (w : WorldAt State Value Fixed) (p : Pick) (l : IsLet log (happening space code w p)) where
    event_back : (th : ThreadAt State) → slice_get w.threads p.thread ≡ Some th → (j : PickStep Op) → is_enabled j ≡ true → IsEventLet (log.entry p.thread (places_at code (slice_get w.threads p.thread))) l.end.places (happening space code w p) (entry_if space code w.memory j)
        → MeetsLog space (log.entry p.thread th.places) th.places l.end.places w.memory j
    event_back th is (step.Refused f) on m = absurd (cc)
    event_back th is step.Local on m = tt
    event_back th is (step.Event op) on m =
        let place : places_at code (slice_get w.threads p.thread) ≡ th.places = ap (places_at code) is in
        let less : places_at code (slice_get w.threads p.thread) < l.end.places = m.place in (
          omega (arith, less, place),
          record {
            item = m.item;
            is_known = ap (log.entry p.thread) (sym place) ∙ m.is_known;
            opens = open_back space code w m.item.found m.is_open;
            same_kind = m.same_kind;
            same_touches = are_back (space.touches op) m.item.found (sym (touches_all (space.touches op) w.memory.counts) ∙ m.same_touches);
          },
        )

  let_back : (log : Log) (w : WorldAt State Value Fixed) (p : Pick) → is_enabled (step_of_pick space code w p) ≡ true → IsLet log (happening space code w p) → LetsPass space code log w p
  let_back log w p on l =
      let e = of_enabled w.memory (slice_get w.threads p.thread) refl on in
      record {
        thread = e.0;
        exists = e.1;
        end = l.end;
        is_known = l.is_known;
        below = subst (λ o. steps_at code o < l.end.steps) e.1 l.below;
        meets = event_back log w p l e.0 e.1 (step_of_pick space code w p) on l.event;
      }
    where
      of_enabled : (m : Memory Value Fixed) (o : Option (ThreadAt State)) → slice_get w.threads p.thread ≡ o → is_enabled (step_of_thread space code m o p.input) ≡ true → (th : ThreadAt State) × (slice_get w.threads p.thread ≡ Some th)
      of_enabled m None is on = absurd (cc)
      of_enabled m (Some th) is on = (th, is)

  gated_back : (log : Log) (w : WorldAt State Value Fixed) (ps : List Pick) → IsSound code w.threads w.memory → IsRun space code w ps
      → IsGated (system_of space code w.memory.fixed (length w.threads)) log (view space code w) (happenings space code w ps) (view space code (world_run space code w ps)) → IsGatedRun space code log w ps
  gated_back log w [] sound r g = tt
  gated_back log w (p ∷ ps) sound r g =
      let v = world_after space code w p in (
        let_back log w p r.0 g.2,
        gated_back log v ps (kept_after space code laws rules w p sound) r.1
            (subst (λ s. IsGated s log (view space code v) (happenings space code v ps) (view space code (world_run space code v ps))) (sym (same_system space code laws rules w p)) g.3),
      )

  -- the log of a run tells of that run
  tells : (w : WorldAt State Value Fixed) (ps : List Pick) → IsWholeRun space code w ps → Tells (system_of space code w.memory.fixed (length w.threads)) (run_log space code w ps) (view space code w) (happenings space code w ps) (view space code (world_run space code w ps))
  tells w ps r =
      let u = world_run space code w ps in
      record {
        ends = λ t l.
            elim (slice_get_cases u.threads t).1 [
              | inl e ↦ (
                end_of_thread code e.0,
                ap (λ o. known (option_map (end_of_thread code) o)) e.2,
                (let q = ap (steps_at code) e.2 in omega (arith, q)),
                (let q = ap (places_at code) e.2 in omega (arith, q)),
              )
              | inr e ↦ absurd (let m = e.0 in omega (arith, l, m, same_length space code laws rules w ps))
            ];
        entries = λ t i e q.
            let z : (view space code w).places t ≡ 0 = (opening_is space code laws rules w r.opening t).1 in
            let n : (view space code w).places t + i ≡ i = omega (arith, z) in
            ap (λ k. known (slice_get (entries space code w ps t) k)) n ∙ ap known (ap (λ es. slice_get es i) (sym (entries_is space code w ps t)) ∙ q);
      }

  pub runs_replay : RunsReplay space code
  runs_replay w ps r =
      let sys = system_of space code w.memory.fixed (length w.threads) in
      let sound = opening_is_sound code w r.opening in
      record {
        gated = gated_back (run_log space code w ps) w ps sound r.run (gated_by sys (run_log space code w ps) (view space code w) (happenings space code w ps) (view space code (world_run space code w ps)) (run_is space code laws rules w ps sound r.run) (tells w ps r));
        finished = λ t th is. ap (λ o. known (option_map (end_of_thread code) o)) is;
      }
