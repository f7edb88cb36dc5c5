-- The turn of a thread that there is not.
use Rattle.std.proofs.Common.{◌≡◌, ℕ, ◌≤◌, length, ap}
use Rattle.std.proofs.lemmas.Option.{slice_get_past}
use Rattle.rw_objects.specs.Space.{Space}
use Rattle.rw_objects.specs.Code.{Code}
use Rattle.event_core.specs.World.{WorldAt}
use Rattle.replay_laws.specs.declared.turn.Turn.TheVariants.{Done}
use Rattle.replay_laws.specs.Log.{Log}
use Rattle.replay_laws.specs.Turns.{turn_by_thread, turn_of}

pub far_done : {State Op Reply Value Fixed : Type 0} (space : Space Op Reply Value Fixed) (code : Code State Op Reply Fixed) (log : Log) (w : WorldAt State Value Fixed) (t : ℕ) → length w.threads ≤ t → turn_of space code log w t ≡ Done
far_done space code log w t far = ap (turn_by_thread space code log w t) (slice_get_past w.threads t far)
