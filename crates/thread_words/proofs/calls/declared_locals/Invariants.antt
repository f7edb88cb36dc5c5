-- The locals of the groups so far were counted.
use Rattle.std.proofs.Common.{◌≡◌, length, take}
use Rattle.wasm_types.specs.Locals.{locals_of}
use Rattle.thread_words.proofs.calls.declared_locals.Given as goal

abbrev pub invariant-loop-group : goal.invariant-loop-group
invariant-loop-group l = l.count ≡ length (locals_of (take l.group-index l.group-items))
