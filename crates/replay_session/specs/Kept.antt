-- Worlds that are kept on a way.
use Rattle.std.specs.Prelude.{◌≡◌, ◌-◌, ◌≤◌, List, ◌∷◌, ◌++◌}
use Rattle.rw_objects.specs.Space.{Space}
use Rattle.rw_objects.specs.Code.{Code}
use Rattle.event_core.specs.World.{WorldAt}
use Rattle.replay_laws.specs.Log.{Log}
use Rattle.replay_session.specs.declared.legs.Leg.{Leg}
use Rattle.replay_session.specs.declared.legs.Leg.TheVariants as leg
use Rattle.replay_session.specs.Legs.{steps_of_leg, leg_with}
use Rattle.replay_session.specs.Rounds.{RoundsGo}
use Rattle.replay_session.specs.Ways.{ThreadLeads, WayLeads}

module _ {State Op Reply Value Fixed : Type 0} (space : Space Op Reply Value Fixed) (code : Code State Op Reply Fixed) (log : Log) where
  -- so many steps of a leg lead from one world to another: of a leg of rounds, whole rounds do
  abbrev pub PartLeads : Leg → WorldAt State Value Fixed → WorldAt State Value Fixed → Type 0
  PartLeads (leg.Thread thread steps) w v = ThreadLeads space code log thread steps w v
  PartLeads (leg.Rounds steps) w v = RoundsGo space code log steps w v

  -- legs, and then so many steps of the leg that comes next, do
  abbrev pub StandsBehind : List Leg → Leg → WorldAt State Value Fixed → WorldAt State Value Fixed → Type 0
  StandsBehind legs part w v = (u : WorldAt State Value Fixed) × WayLeads space code log legs w u × PartLeads part u v

-- what is left of a way, the first legs of which are these, behind so many steps of the leg that comes next
pub record IsRest (legs : List Leg) (part : Leg) (way rest : List Leg) : Type 0 where
  pub next : Leg
  pub more : List Leg
  pub way_is : way ≡ legs ++ (next ∷ more)
  pub part_is : part ≡ leg_with next (steps_of_leg part)
  pub few : steps_of_leg part ≤ steps_of_leg next
  pub rest_is : rest ≡ leg_with next (steps_of_leg next - steps_of_leg part) ∷ more
