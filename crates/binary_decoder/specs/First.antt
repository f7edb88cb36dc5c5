-- Which fault a module's bytes have first, read from left to right.
use Rattle.std.specs.Prelude.{◌≡◌, ◌<◌, ◌≤◌, ◌⊎◌, ℕ, true, List, length, Err}
use Rattle.binary_decoder.specs.Fault.{Malformed, Oversized}
use Rattle.binary_decoder.specs.declared.fault.DecodeFault.{DecodeFault}
use Rattle.binary_decoder.specs.declared.fault.DecodeFault.TheVariants.{Refused, TooLarge, NoMemory}
use Rattle.binary_decoder.specs.Reader.{parts_at}

-- more than 1,048,576 bytes are too large, whatever they are; of others the first fault counts, be it of the grammar or
-- of a limit
abbrev pub IsFirst : List ℕ → DecodeFault → Type 0
IsFirst bytes (Refused offset place cause) = (length bytes ≤ 1048576) × (parts_at true bytes ≡ Err Malformed)
IsFirst bytes (TooLarge limit count place) = (1048576 < length bytes) ⊎ (parts_at true bytes ≡ Err Oversized)
IsFirst bytes NoMemory = Unit {0}
