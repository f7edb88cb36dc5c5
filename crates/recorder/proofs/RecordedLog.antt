-- The log that is recorded is that of the run.
use Rattle.std.proofs.Common.{◌≡◌, ℕ, zero, suc, ◌<◌, ◌≤◌, List, [], ◌∷◌, length, map, slice_get, option_map, refl, sym, ap, ◌∙◌, inl, inr, arith}
use Rattle.std.specs.Prelude.{◌⊎◌, option_and_then}
use Rattle.std.proofs.lemmas.Bool.{cases_lt}
use Rattle.std.proofs.lemmas.Option.{slice_get-map}
use Rattle.rw_objects.specs.declared.entry.Entry.{Entry}
use Rattle.rw_objects.specs.Space.{Space}
use Rattle.rw_objects.specs.Code.{Code}
use Rattle.event_core.specs.declared.pick.Pick.{Pick}
use Rattle.event_core.specs.World.{WorldAt}
use Rattle.event_core.specs.Run.{world_run, entries}
use Rattle.event_core.proofs.Places.{entries_past}
use Rattle.replay_laws.specs.Log.{known}
use Rattle.replay_laws.specs.RunLog.{run_log, end_of_thread}
use Rattle.replay_laws.proofs.LogsOfPicks.{log_same}
use Rattle.recorder.specs.ThreadLogAt.{ThreadLogAt, log_of}
use Rattle.recorder.specs.Recorded.{list_at}

entry_at : (threads : List ThreadLogAt) (t p : ℕ) → option_and_then (λ l. slice_get l.entries p) (slice_get threads t) ≡ slice_get (list_at (map (λ l. l.entries) threads) t) p
entry_at [] t p = refl
entry_at (l ∷ ls) zero p = refl
entry_at (l ∷ ls) (suc t) p = entry_at ls t p

list_past : (lists : List (List Entry)) (t : ℕ) → length lists ≤ t → list_at lists t ≡ []
list_past [] t h = refl
list_past (l ∷ ls) zero h = absurd (omega arith)
list_past (l ∷ ls) (suc t) h = list_past ls t (omega arith)

module _ {State Op Reply Value Fixed : Type 0} (space : Space Op Reply Value Fixed) (code : Code State Op Reply Fixed) where
  module _ (w u : WorldAt State Value Fixed) (ps : List Pick) (leads : u ≡ world_run space code w ps) (lists : List (List Entry)) (threads : List ThreadLogAt)
      (are : map (λ l. l.entries) threads ≡ lists) (ends : map (λ l. l.end) threads ≡ map (end_of_thread code) u.threads)
      (logged : (t : ℕ) → t < length w.threads → list_at lists t ≡ entries space code w ps t) (size : length lists ≡ length w.threads) where
    list_is : (t : ℕ) → (t < length w.threads) ⊎ (length w.threads ≤ t) → list_at lists t ≡ entries space code w ps t
    list_is t (inl l) = logged t l
    list_is t (inr l) = list_past lists t (omega (arith, l, size)) ∙ sym (entries_past space code w ps t l)

    pub recorded_log : log_of threads ≡ run_log space code w ps
    recorded_log =
        log_same (log_of threads) (run_log space code w ps)
        (λ t p. ap known (entry_at threads t p ∙ (ap (λ l. slice_get (list_at l t) p) are ∙ ap (λ l. slice_get l p) (list_is t (cases_lt t (length w.threads))))))
        (λ t. ap known (sym (slice_get-map (λ (l : ThreadLogAt). l.end) threads t) ∙ (ap (λ l. slice_get l t) ends ∙ (slice_get-map (end_of_thread code) u.threads t ∙ ap (λ (v : WorldAt State Value Fixed). option_map (end_of_thread code) (slice_get v.threads t)) leads))))
