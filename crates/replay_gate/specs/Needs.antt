-- What a turn needs of a log's entries.
use Rattle.std.specs.Prelude.{ℕ, ◌<◌, cond, nat_lt}
use Rattle.rw_objects.specs.declared.next.Next.{Next}
use Rattle.rw_objects.specs.declared.next.Next.TheVariants as next
use Rattle.rw_objects.specs.Space.{Space}
use Rattle.rw_objects.specs.Code.{Code}
use Rattle.event_core.specs.World.{WorldAt}
use Rattle.replay_laws.specs.declared.turn.Turn.{Turn}
use Rattle.replay_laws.specs.declared.turn.Turn.TheVariants as turn
use Rattle.replay_laws.specs.declared.turn.Refusal.TheVariants.{Diverged}
use Rattle.replay_laws.specs.Log.{Log}
use Rattle.replay_laws.specs.Turns.{turn_by_entry}
use Rattle.replay_gate.specs.declared.needs.EntryNeeds.{EntryNeeds}
use Rattle.replay_gate.specs.declared.needs.EntryNeeds.TheVariants as needs

abbrev pub needs_by_place : {Op : Type 0} → Next Op → ℕ → ℕ → EntryNeeds Op
needs_by_place n place places = cond (nat_lt place places) (needs.Entry n place) (needs.Nothing (turn.Refused Diverged))

-- what a turn needs where steps are left
abbrev pub needs_by_next : {Op : Type 0} → ℕ → ℕ → Next Op → EntryNeeds Op
needs_by_next place places next.Local = needs.Nothing turn.Local
needs_by_next place places (next.Ask op) = needs_by_place (next.Ask op) place places
needs_by_next place places (next.Asleep resume out) = needs_by_place (next.Asleep resume out) place places
needs_by_next place places (next.Halted outcome) = needs.Nothing (turn.Refused Diverged)

-- an entry is needed of one of the first sixteen threads alone
abbrev pub IsOfFew : {Op : Type 0} → ℕ → EntryNeeds Op → Type 0
IsOfFew t (needs.Nothing x) = Unit {0}
IsOfFew t (needs.Entry n place) = t < 16

module _ {State Op Reply Value Fixed : Type 0} (space : Space Op Reply Value Fixed) (code : Code State Op Reply Fixed) where
  -- the turn that comes of what it needs
  abbrev pub turn_by_needs : Log → WorldAt State Value Fixed → ℕ → EntryNeeds Op → Turn
  turn_by_needs log w t (needs.Nothing x) = x
  turn_by_needs log w t (needs.Entry n place) = turn_by_entry space code w t n (log.entry t place)
