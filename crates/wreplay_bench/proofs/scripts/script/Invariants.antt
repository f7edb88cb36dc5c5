use Rattle.std.proofs.Common.{◌≡◌, length}
use Rattle.wreplay_bench.proofs.scripts.script.Given as goal

abbrev pub invariant-loop-place : goal.invariant-loop-place
invariant-loop-place l = length l.script.items ≡ l.place
