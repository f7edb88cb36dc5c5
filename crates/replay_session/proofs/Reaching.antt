-- Where a session stands that goes to a break.
use Rattle.std.proofs.Common.{◌≡◌, ◌-◌, true, false, List, [], ap, ◌∙◌, subst}
use Rattle.rw_objects.specs.Space.{Space}
use Rattle.rw_objects.specs.Code.{Code}
use Rattle.event_core.specs.Threads.{all_steps}
use Rattle.event_core.specs.World.{WorldAt}
use Rattle.replay_laws.specs.Log.{Log}
use Rattle.replay_gate.specs.declared.breaks.Break.{Break}
use Rattle.replay_gate.specs.declared.breaks.Stopped.{Stopped}
use Rattle.replay_gate.specs.declared.breaks.Stopped.TheVariants as stopped
use Rattle.replay_gate.specs.Stops.{StopsAt, StopsRight, StopsFree}
use Rattle.replay_session.specs.declared.legs.Leg.{Leg}
use Rattle.replay_session.specs.Legs.{with_rounds}
use Rattle.replay_session.specs.Reaching.{is_break, GoesTo}

module _ {State Op Reply Value Fixed : Type 0} (space : Space Op Reply Value Fixed) (code : Code State Op Reply Fixed) (log log' : Log) (opened start : WorldAt State Value Fixed) (same : log' ≡ log) (from : start ≡ opened) where
  -- rounds from the same opening world on, on the same log
  same_stops : (breaks : List Break) (v : WorldAt State Value Fixed) (s : Stopped) → StopsAt space code log' start [] breaks v s → StopsAt space code log opened [] breaks v s
  same_stops breaks v s h = subst (λ l. StopsAt space code l opened [] breaks v s) same (subst (λ o. StopsAt space code log' o [] breaks v s) from h)

  pub same_right : (s : Stopped) → StopsRight space code log' start s → StopsRight space code log opened s
  same_right s h = subst (λ l. StopsRight space code l opened s) same (subst (λ o. StopsRight space code log' o s) from h)

  pub same_free : (s : Stopped) → StopsFree space code log' start s → StopsFree space code log opened s
  same_free s h = subst (λ l. StopsFree space code l opened s) same (subst (λ o. StopsFree space code log' o s) from h)

  module _ (breaks : List Break) (w v : WorldAt State Value Fixed) (old legs : List Leg) where
    -- a break stopped the rounds
    pub stands : (s : Stopped) (none : List Leg) → is_break s ≡ true → StopsAt space code log' start [] breaks v s → none ≡ [] → legs ≡ with_rounds none (all_steps code v.threads - all_steps code start.threads) → GoesTo space code log opened breaks w v old legs s
    stands (stopped.Break index) none h stops empty is = (
      same_stops breaks v (stopped.Break index) stops,
      is ∙ ap (λ ls. with_rounds ls (all_steps code v.threads - all_steps code start.threads)) empty ∙ ap (λ (o : WorldAt State Value Fixed). with_rounds [] (all_steps code v.threads - all_steps code o.threads)) from,
    )
    stands stopped.Finished none h stops empty is = absurd cc
    stands stopped.Stuck none h stops empty is = absurd cc
    stands (stopped.Fault f) none h stops empty is = absurd cc

    -- none did
    pub stays : (s : Stopped) (u : WorldAt State Value Fixed) → is_break s ≡ false → StopsAt space code log' start [] breaks u s → v ≡ w → legs ≡ old → GoesTo space code log opened breaks w v old legs s
    stays (stopped.Break index) u h stops at kept = absurd cc
    stays stopped.Finished u h stops at kept = record { world = u; stops = same_stops breaks u stopped.Finished stops; same = at; kept = kept }
    stays stopped.Stuck u h stops at kept = record { world = u; stops = same_stops breaks u stopped.Stuck stops; same = at; kept = kept }
    stays (stopped.Fault f) u h stops at kept = record { world = u; stops = same_stops breaks u (stopped.Fault f) stops; same = at; kept = kept }
