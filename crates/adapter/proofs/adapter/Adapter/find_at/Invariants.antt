-- no instruction of the functions so far stands there
use Rattle.std.proofs.Common.{ℕ, ◌<◌}
use Rattle.adapter.specs.State.{state_of}
use Rattle.adapter.proofs.References.{NoneIn}
use Rattle.adapter.proofs.adapter.Adapter.find_at.Given as goal

abbrev pub invariant-loop-function : goal.invariant-loop-function
invariant-loop-function l = (k : ℕ) → k < l.function → NoneIn (state_of l.self).debugger.code l.offset k
