-- The log of a run of picks is that of its happenings.
use Rattle.std.proofs.Common.{◌≡◌, ℕ, List, length, ap, ◌∙◌}
use Rattle.std.specs.Prelude.{slice_get}
use Rattle.std.proofs.Math.Path.{fun_ext}
use Rattle.rw_objects.specs.Space.{Space, SpaceLaws}
use Rattle.rw_objects.specs.Code.{Code, CodeLaws}
use Rattle.event_core.specs.declared.pick.Pick.{Pick}
use Rattle.event_core.specs.World.{WorldAt}
use Rattle.event_core.specs.Run.{world_run}
use Rattle.event_core.proofs.Opens.{opening_is_sound}
use Rattle.replay_laws.specs.Log.{Log, known}
use Rattle.replay_laws.specs.RunLog.{run_log}
use Rattle.replay_laws.specs.Laws.{IsWholeRun}
use Rattle.replay_laws.proofs.Logs.{log_of}
use Rattle.replay_laws.proofs.Statements.{IsWholeRun as IsWholeView}
use Rattle.replay_laws.proofs.Views.{system_of, view, happenings}
use Rattle.replay_laws.proofs.Bridge.{run_is}
use Rattle.replay_laws.proofs.Picks.{entries_is, log_end_is, opening_is}

-- logs that say the same everywhere are equal
pub log_same : (a b : Log) → ((t p : ℕ) → a.entry t p ≡ b.entry t p) → ((t : ℕ) → a.end t ≡ b.end t) → a ≡ b
log_same a b e f =
    let entries : a.entry ≡ b.entry = fun_ext (λ t. fun_ext (λ p. e t p)) in
    let ends : a.end ≡ b.end = fun_ext (λ t. f t) in
    let with_entries : (ℕ → ℕ → _) → Log = λ k. record { entry = k; end = a.end } in
    let with_ends : (ℕ → _) → Log = λ k. record { entry = b.entry; end = k } in
    ap with_entries entries ∙ ap with_ends ends

module _ {State Op Reply Value Fixed : Type 0} (space : Space Op Reply Value Fixed) (code : Code State Op Reply Fixed) (laws : SpaceLaws space) (rules : CodeLaws space code) where
  pub log_is : (w : WorldAt State Value Fixed) (ps : List Pick) → log_of (system_of space code w.memory.fixed (length w.threads)) (happenings space code w ps) (view space code (world_run space code w ps)) ≡ run_log space code w ps
  log_is w ps = log_same _ (run_log space code w ps) (λ t p. ap (λ es. known (slice_get es p)) (entries_is space code w ps t)) (λ t. log_end_is space code laws rules w ps t)

  -- a run from an opening world
  pub whole_is : (w : WorldAt State Value Fixed) (ps : List Pick) → IsWholeRun space code w ps
      → IsWholeView (system_of space code w.memory.fixed (length w.threads)) (view space code w) (happenings space code w ps) (view space code (world_run space code w ps))
  whole_is w ps r = record { opening = opening_is space code laws rules w r.opening; run = run_is space code laws rules w ps (opening_is_sound code w r.opening) r.run }
