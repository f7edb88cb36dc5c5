-- The turn that comes of what it needs.
use Rattle.std.proofs.Common.{◌≡◌, ℕ, ◌<◌, Bool, true, false, cond, nat_lt, refl}
use Rattle.rw_objects.specs.declared.next.Next.{Next}
use Rattle.rw_objects.specs.declared.next.Next.TheVariants as next
use Rattle.rw_objects.specs.Space.{Space}
use Rattle.rw_objects.specs.Code.{Code}
use Rattle.event_core.specs.World.{WorldAt}
use Rattle.replay_laws.specs.declared.turn.Turn.TheVariants as turn
use Rattle.replay_laws.specs.declared.turn.Refusal.TheVariants.{Diverged}
use Rattle.replay_laws.specs.Log.{Log}
use Rattle.replay_laws.specs.Turns.{turn_by_entry, turn_by_next}
use Rattle.replay_gate.specs.declared.needs.EntryNeeds.{EntryNeeds}
use Rattle.replay_gate.specs.declared.needs.EntryNeeds.TheVariants as needs
use Rattle.replay_gate.specs.Needs.{needs_by_next, turn_by_needs, IsOfFew}

pub of_few : {Op : Type 0} (t : ℕ) (n : EntryNeeds Op) → t < 16 → IsOfFew t n
of_few t (needs.Nothing x) l = tt
of_few t (needs.Entry next place) l = l

module _ {State Op Reply Value Fixed : Type 0} (space : Space Op Reply Value Fixed) (code : Code State Op Reply Fixed) (log : Log) (w : WorldAt State Value Fixed) (t : ℕ) where
  at_place : (n : Next Op) (place : ℕ) (b : Bool) → turn_by_needs space code log w t (cond b (needs.Entry n place) (needs.Nothing (turn.Refused Diverged))) ≡ cond b (turn_by_entry space code w t n (log.entry t place)) (turn.Refused Diverged)
  at_place n place true = refl
  at_place n place false = refl

  pub turn_of_needs : (place places : ℕ) (n : Next Op) → turn_by_needs space code log w t (needs_by_next place places n) ≡ turn_by_next space code log w t place places n
  turn_of_needs place places next.Local = refl
  turn_of_needs place places (next.Ask op) = at_place (next.Ask op) place (nat_lt place places)
  turn_of_needs place places (next.Asleep resume out) = at_place (next.Asleep resume out) place (nat_lt place places)
  turn_of_needs place places (next.Halted outcome) = refl
