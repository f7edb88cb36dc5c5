use Rattle.std.proofs.Common.{◌≡◌, ◌-◌, ℕ}
use Rattle.binary_decoder.specs.Names.{entry_at, entries_of, whole_items, named_or}
use Rattle.binary_decoder.specs.Kept.{name_of}
use Rattle.binary_decoder.proofs.names.FunctionNames.read.Given as goal

-- the entries so far have named functions, and then those that are left
abbrev pub invariant-loop : goal.invariant-loop
invariant-loop l = (function : ℕ) → named_or (name_of l.self function) function (whole_items entry_at (l.count - l.counter) l.cursor.rest.now) ≡ named_or (name_of l.fn.self function) function (entries_of l.fn.cursor.rest.now)
