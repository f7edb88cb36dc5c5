-- How a shared space that has no name yet has to be named.
use Rattle.std.specs.Prelude.{ℕ, List, [], ◌∷◌}
use Rattle.rw_objects.specs.Counts.{no_counts}
use Rattle.rw_objects.specs.Memory.{memory_with}
use Rattle.shared_parts.specs.declared.eight.Eight.{Eight}
use Rattle.shared_parts.specs.Named.{Named}

abbrev pub names_of : {Value Fixed : Type 0} → Fixed → (ℕ → Value) → ℕ → List ℕ → ℕ → Named Value Fixed
names_of fixed values ledger lanes threads = record { memory = memory_with fixed values no_counts; ledger = ledger; lanes = lanes; threads = threads }

-- the names of eight numbers, by part
abbrev pub lane_names : Eight ℕ → List ℕ
lane_names l = l.zero ∷ l.one ∷ l.two ∷ l.three ∷ l.four ∷ l.five ∷ l.six ∷ l.seven ∷ []
