-- What a call of the code answered is what reading gives, unless memory ran out. Places and causes count for nothing here.
use Rattle.std.specs.Prelude.{◌≡◌, ℕ, List, Result, Ok, Err, nat_lt, if◌then◌else◌}
use Rattle.binary_decoder.specs.Fault.{Fault, Malformed, Oversized, Reading}
use Rattle.binary_decoder.specs.declared.fault.DecodeFault.{DecodeFault}
use Rattle.binary_decoder.specs.declared.fault.DecodeFault.TheVariants.{Refused, TooLarge, NoMemory}

-- a fault without its place and its cause
pub data Kind : Type 0 where
  RefusedAt : ℕ → Kind
  PastLimit : Kind
  MemoryRanOut : Kind

abbrev pub kind_of : DecodeFault → Kind
kind_of (Refused offset place cause) = RefusedAt offset
kind_of (TooLarge limit count place) = PastLimit
kind_of NoMemory = MemoryRanOut

-- a number in 32 bits, or the greatest of these
abbrev pub clamped : ℕ → ℕ
clamped n = if nat_lt n 0xFFFFFFFF then n else 0xFFFFFFFF

-- refused at this offset, which counts as 2 ^ 32 - 1 where it is greater
abbrev pub IsRefusedAt : ℕ → DecodeFault → Type 0
IsRefusedAt offset e = kind_of e ≡ RefusedAt (clamped offset)

abbrev pub FailsAs : {Y : Type 0} → Kind → Result Y Fault → Type 0
FailsAs MemoryRanOut read = Unit {0}
FailsAs PastLimit read = read ≡ Err Oversized
FailsAs (RefusedAt offset) read = read ≡ Err Malformed

abbrev pub Fails : {Y : Type 0} → DecodeFault → Result Y Fault → Type 0
Fails e read = FailsAs (kind_of e) read

-- the answer, seen in this way, is what reading gives
abbrev pub Gives : {X Y : Type 0} → (X → Y) → Result X DecodeFault → Result Y Fault → Type 0
Gives view (Ok x) read = read ≡ Ok (view x)
Gives view (Err e) read = Fails e read

-- the answer is what reading gives, and the cursor stands behind it
abbrev pub Moves : {X : Type 0} → Result X DecodeFault → List ℕ → Reading X → Type 0
Moves (Ok x) after read = read ≡ Ok (x, after)
Moves (Err e) after read = Fails e read

-- the same, where the answer is seen in this way
abbrev pub MovesBy : {X Y : Type 0} → (X → Y) → Result X DecodeFault → List ℕ → Reading Y → Type 0
MovesBy view (Ok x) after read = read ≡ Ok (view x, after)
MovesBy view (Err e) after read = Fails e read

abbrev pub IsRefused : {X : Type 0} → Result X DecodeFault → Type 0
IsRefused (Err (Refused offset place cause)) = Unit {0}
IsRefused (Err (TooLarge limit count place)) = ⊥
IsRefused (Err NoMemory) = ⊥
IsRefused (Ok x) = ⊥

abbrev pub IsTooLarge : {X : Type 0} → Result X DecodeFault → Type 0
IsTooLarge (Err (TooLarge limit count place)) = Unit {0}
IsTooLarge (Err (Refused offset place cause)) = ⊥
IsTooLarge (Err NoMemory) = ⊥
IsTooLarge (Ok x) = ⊥

abbrev pub IsRefusal : DecodeFault → Type 0
IsRefusal (Refused offset place cause) = Unit {0}
IsRefusal (TooLarge limit count place) = ⊥
IsRefusal NoMemory = ⊥
