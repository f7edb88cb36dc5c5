-- Faults that are passed over: what stands before them counts.
use Rattle.binary_decoder.specs.declared.fault.DecodeFault.{DecodeFault}
use Rattle.binary_decoder.specs.declared.fault.DecodeFault.TheVariants.{Refused, TooLarge, NoMemory}

-- of the bytes or a limit, and no want of memory
abbrev pub IsOfBytes : DecodeFault → Type 0
IsOfBytes (Refused offset place cause) = Unit {0}
IsOfBytes (TooLarge limit count place) = Unit {0}
IsOfBytes NoMemory = ⊥
