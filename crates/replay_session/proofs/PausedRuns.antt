-- What is known of rounds that pause at a break or a test.
use Rattle.std.proofs.Common.{◌≡◌, ℕ, suc, List, [], length, Option, None, refl, sym, ap, ◌∙◌, subst}
use Rattle.rw_objects.specs.Space.{Space, SpaceLaws}
use Rattle.rw_objects.specs.Code.{Code, CodeLaws}
use Rattle.event_core.specs.Opening.{IsOpeningWorld}
use Rattle.event_core.specs.World.{WorldAt}
use Rattle.replay_laws.specs.Log.{Log, HasLimits}
use Rattle.replay_laws.specs.Ordered.{thread_of_turn, ordered_world}
use Rattle.replay_laws.specs.Turns.{turn_of, world_after_turn}
use Rattle.replay_gate.specs.Leads.{Leads}
use Rattle.replay_gate.specs.declared.breaks.Break.{Break}
use Rattle.replay_gate.specs.declared.breaks.Stopped.{Stopped}
use Rattle.replay_gate.specs.declared.breaks.Stopped.TheVariants as stopped
use Rattle.replay_gate.specs.Stops.{StopsAt}
use Rattle.replay_gate.proofs.Recorded.{stops_right, stops_free}
use Rattle.replay_session.specs.declared.paused.Met.TheVariants as met
use Rattle.replay_session.specs.declared.paused.Paused.{Paused}
use Rattle.replay_session.specs.declared.paused.Paused.TheVariants as paused
use Rattle.replay_session.specs.Pauses.{paused_of, PausesRight, PausesFree, PausesAt}
use Rattle.replay_session.specs.Ways.{TurnsLead}
use Rattle.replay_session.proofs.RoundTurns.{turns_made}
use Rattle.replay_session.proofs.Together.{stopped_behind}

module _ {State Op Reply Value Fixed : Type 0} (space : Space Op Reply Value Fixed) (code : Code State Op Reply Fixed) (log : Log) (breaks : List Break) (holds : WorldAt State Value Fixed → ℕ → Option ℕ) where
  module _ (never : (w : WorldAt State Value Fixed) (t : ℕ) → holds w t ≡ None) (start v : WorldAt State Value Fixed) where
    stops : (p : Paused) → PausesAt space code log breaks holds start v p → (s : Stopped) × (p ≡ paused_of s) × StopsAt space code log start [] breaks v s
    stops (paused.Met (met.Break index)) h = (stopped.Break index, refl, record { turns = h.turns; world = h.world; behind = h.behind; stops = h.pauses })
    stops (paused.Met (met.Test index)) h =
        let t = thread_of_turn [] (length start.threads) h.turns in
        let e = sym h.pauses.0.tested ∙ never (world_after_turn space code h.world t (turn_of space code log h.world t)) t in
        absurd cc
    stops paused.Finished h = (stopped.Finished, refl, (h.0.out, h.1))
    stops paused.Stuck h = (stopped.Stuck, refl, (h.0.out, h.1))
    stops (paused.Fault f) h = (stopped.Fault f, refl, record { turns = h.turns; world = h.world; behind = h.behind; stops = h.pauses })

    pauses : (s : Stopped) → StopsAt space code log start [] breaks v s → PausesAt space code log breaks holds start v (paused_of s)
    pauses (stopped.Break index) h = record { turns = h.turns; world = h.world; behind = h.behind; untested = λ i l m. never _ _; pauses = h.stops }
    pauses stopped.Finished h = (record { out = h.0; untested = λ i l m. never _ _ }, h.1)
    pauses stopped.Stuck h = (record { out = h.0; untested = λ i l m. never _ _ }, h.1)
    pauses (stopped.Fault f) h = record { turns = h.turns; world = h.world; behind = h.behind; untested = λ i l m. never _ _; pauses = h.stops }

  pub as_stops : ((w : WorldAt State Value Fixed) (t : ℕ) → holds w t ≡ None) → (start v : WorldAt State Value Fixed) (p : Paused)
      → (PausesAt space code log breaks holds start v p → (s : Stopped) × (p ≡ paused_of s) × StopsAt space code log start [] breaks v s)
      × ((s : Stopped) → p ≡ paused_of s → StopsAt space code log start [] breaks v s → PausesAt space code log breaks holds start v p)
  as_stops never start v p = (stops never start v p, λ s is h. subst (PausesAt space code log breaks holds start v) (sym is) (pauses never start v s h))

  -- ---- the turns that were taken

  module _ (rules : CodeLaws space code) (w : WorldAt State Value Fixed) where
    behind : (v : WorldAt State Value Fixed) (p : Paused) → PausesAt space code log breaks holds w v p → (k : ℕ) × (v ≡ ordered_world space code log w [] k)
    behind v (paused.Met (met.Break index)) h = stopped_behind space code rules log w breaks v (stopped.Break index) (record { turns = h.turns; world = h.world; behind = h.behind; stops = h.pauses })
    behind v (paused.Met (met.Test index)) h =
        let t = thread_of_turn [] (length w.threads) h.turns in
        (suc h.turns, h.pauses.1 ∙ ap (λ u. world_after_turn space code u t (turn_of space code log u t)) h.behind.at)
    behind v paused.Finished h = (h.0.out.turns, h.0.out.behind.at)
    behind v paused.Stuck h = (h.0.out.turns, h.0.out.behind.at)
    behind v (paused.Fault f) h = stopped_behind space code rules log w breaks v (stopped.Fault f) (record { turns = h.turns; world = h.world; behind = h.behind; stops = h.pauses })

    pub pauses_turns : (v : WorldAt State Value Fixed) (p : Paused) → PausesAt space code log breaks holds w v p → (a : ℕ) × TurnsLead space code log a w v
    pauses_turns v p h = let b = behind v p h in turns_made space code rules log w b.0 v b.1

-- ---- on the log of a run

module _ {State Op Reply Value Fixed : Type 0} (space : Space Op Reply Value Fixed) (code : Code State Op Reply Fixed) (laws : SpaceLaws space) (rules : CodeLaws space code)
    (log log' : Log) (opened opened' start v : WorldAt State Value Fixed) (breaks : List Break) (holds : WorldAt State Value Fixed → ℕ → Option ℕ) (same_log : log' ≡ log) (same_opened : opened' ≡ opened)
    (o : ∥ IsOpeningWorld code opened' ∥₁) (leads : ∥ Leads space code log' opened' v ∥₁) where
  pub pauses_right : (p : Paused) → PausesAt space code log breaks holds start v p → PausesRight space code log opened p
  pauses_right (paused.Met m) h picks run below = tt
  pauses_right paused.Finished h picks run below = tt
  pauses_right paused.Stuck h picks run below = tt
  pauses_right (paused.Fault f) h picks run below =
      stops_right space code laws rules log log' opened opened' start v [] breaks same_log same_opened o leads (stopped.Fault f) (record { turns = h.turns; world = h.world; behind = h.behind; stops = h.pauses }) picks run below

  pub pauses_free : HasLimits log → (p : Paused) → PausesAt space code log breaks holds start v p → PausesFree space code log opened p
  pauses_free limits (paused.Met m) h picks run below complete = tt
  pauses_free limits paused.Finished h picks run below complete = tt
  pauses_free limits paused.Stuck h picks run below complete =
      stops_free space code laws rules log log' opened opened' start v [] breaks same_log same_opened o leads limits stopped.Stuck (h.0.out, h.1) picks run below complete
  pauses_free limits (paused.Fault f) h picks run below complete =
      stops_free space code laws rules log log' opened opened' start v [] breaks same_log same_opened o leads limits (stopped.Fault f) (record { turns = h.turns; world = h.world; behind = h.behind; stops = h.pauses }) picks run below complete
