use Rattle.wreplay_bench.specs.Rounds.{Decodes, Counts}
use Rattle.wreplay_bench.proofs.rounds.decoded.Given as goal

abbrev pub invariant-loop : goal.invariant-loop
invariant-loop l = Counts (Decodes l.bytes) l.counter l.count
