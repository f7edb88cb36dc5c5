use Rattle.wreplay_bench.specs.Rounds.{Validates, Counts}
use Rattle.wreplay_bench.proofs.rounds.validated.Given as goal

abbrev pub invariant-loop : goal.invariant-loop
invariant-loop l = Counts (Validates l.bytes) l.counter l.count
