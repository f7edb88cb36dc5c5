use Rattle.std.proofs.Common.{◌≡◌, ◌⊎◌, ◌+◌, ◌++◌, ℕ, List}
use Rattle.program.proofs.InMemory.{is_valid}
use Rattle.program.proofs.tests.checked_in_memory.Goals as goal

pub returns : goal.returns
returns g c =
    let broke : Type 0 = c.run-status.new.source.failures ≡ c.new-source.result.failures + 1 in
    let tells : List ℕ → Type 0 = λ text. (c.run-status.new.errors.taken.items ≡ c.new-errors.result.taken.items ++ text) ⊎ (c.run-status.new.errors.failures ≡ c.new-errors.result.failures + 1) in
    record { valid = λ path plan asks is. is_valid c.args.files.now.files.now _ _ broke _ _ tells _ _ _ path plan asks (c.run-status.ensures.answered.done is) }
