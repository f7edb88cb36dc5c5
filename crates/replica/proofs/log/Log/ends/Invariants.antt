use Rattle.std.proofs.Common.{◌≡◌, ◌≤◌, take}
use Rattle.std.specs.Prelude.{count_by, is_some}
use Rattle.replica.specs.Flats.{known_end}
use Rattle.replica.proofs.log.Log.ends.Given as goal

abbrev pub invariant-loop-log : goal.invariant-loop-log
invariant-loop-log l = (l.count ≡ count_by (λ log. is_some (known_end log.end)) (take l.log-index l.log-items)) × (l.count ≤ l.log-index)
