-- What is kept of a line.
use Rattle.std.specs.Prelude.{◌≡◌, ◌<◌, ◌≤◌, ℕ, Bool, true, false, List, length}
use Rattle.debugger.specs.declared.kept.Kept.{Kept}

-- the whole line; or it has more bytes than the longest command
abbrev pub KeepsBy : Bool → List ℕ → List ℕ → Type 0
KeepsBy false text bytes = (bytes ≡ text) × (length text ≤ 1024)
KeepsBy true text bytes = (1024 < length text) × (length bytes ≡ 1024)

abbrev pub IsKept : List ℕ → Kept → Type 0
IsKept text k = KeepsBy k.is_long text k.bytes.items
