-- Going from the opening world on to a break.
use Rattle.std.specs.Prelude.{◌≡◌, ◌-◌, Bool, true, false, List, []}
use Rattle.rw_objects.specs.Space.{Space}
use Rattle.rw_objects.specs.Code.{Code}
use Rattle.event_core.specs.Threads.{all_steps}
use Rattle.event_core.specs.World.{WorldAt}
use Rattle.replay_laws.specs.Log.{Log}
use Rattle.replay_gate.specs.declared.breaks.Break.{Break}
use Rattle.replay_gate.specs.declared.breaks.Stopped.{Stopped}
use Rattle.replay_gate.specs.declared.breaks.Stopped.TheVariants as stopped
use Rattle.replay_gate.specs.Stops.{StopsAt}
use Rattle.replay_session.specs.declared.legs.Leg.{Leg}
use Rattle.replay_session.specs.Legs.{with_rounds}

abbrev pub is_break : Stopped → Bool
is_break (stopped.Break index) = true
is_break stopped.Finished = false
is_break stopped.Stuck = false
is_break (stopped.Fault f) = false

module _ {State Op Reply Value Fixed : Type 0} (space : Space Op Reply Value Fixed) (code : Code State Op Reply Fixed) (log : Log) (opened : WorldAt State Value Fixed) (breaks : List Break) where
  -- rounds from the opening world on stop so somewhere, and world and way are as they were
  pub record StaysSo (w v : WorldAt State Value Fixed) (old legs : List Leg) (s : Stopped) : Type 0 where
    pub world : WorldAt State Value Fixed
    pub stops : StopsAt space code log opened [] breaks world s
    pub same : v ≡ w
    pub kept : legs ≡ old

  -- rounds from the opening world on stop so: at a break the world is then v and the way is these rounds, else both are
  -- as they were
  abbrev pub GoesTo : (w v : WorldAt State Value Fixed) (old legs : List Leg) → Stopped → Type 0
  GoesTo w v old legs (stopped.Break index) =
      StopsAt space code log opened [] breaks v (stopped.Break index) × (legs ≡ with_rounds [] (all_steps code v.threads - all_steps code opened.threads))
  GoesTo w v old legs stopped.Finished = StaysSo w v old legs stopped.Finished
  GoesTo w v old legs stopped.Stuck = StaysSo w v old legs stopped.Stuck
  GoesTo w v old legs (stopped.Fault f) = StaysSo w v old legs (stopped.Fault f)
