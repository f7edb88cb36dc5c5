-- How a piece is read, field by field, from the front of bytes.
use Rattle.std.specs.Prelude.{◌≡◌, ℕ, zero, suc, List, [], ◌∷◌, length, take, drop, find, codes, Option, Some, None, is_none, Result, Ok, Err, nat_lt, ◌==◌, ◌||◌, ◌&&◌, if◌then◌else◌}
use Rattle.std.specs.Option.{option_and_then}
use Rattle.std.specs.Borrow.{Bor}
use Rattle.std.specs.Str.{bytes_eq}
use Rattle.std.specs.Int.{Width, w16, w32, w64, byte_len, from_le_bytes}
use Rattle.wasm_types.specs.declared.key.RunKey.{RunKey}
use Rattle.wasm_types.specs.declared.key.Profile.{Profile}
use Rattle.wasm_types.specs.declared.key.Profile.TheVariants.{One, Two}
use Rattle.wasm_types.specs.declared.value.Value.TheVariants.{I32, I64}
use Rattle.wasm_types.specs.declared.trap.Trap.{Trap}
use Rattle.wasm_types.specs.declared.trap.Trap.TheVariants.{Unreachable, DivideByZero, IntegerOverflow, OutOfBounds, TypeMismatch, UndefinedElement, UninitializedElement, StackExhausted, UnalignedAtomic, MemoryNotShared}
use Rattle.wasm_types.specs.Trap.{trap_number}
use Rattle.wasm_types.specs.declared.outcome.Outcome.{Outcome}
use Rattle.wasm_types.specs.declared.outcome.Outcome.TheVariants.{Running, Waiting, Done, Trapped}
use Rattle.rw_objects.specs.declared.touch.Found.{Found}
use Rattle.rw_objects.specs.declared.touch.Found.TheVariants.{Read, Write}
use Rattle.rw_objects.specs.declared.entry.Kind.{Kind}
use Rattle.rw_objects.specs.declared.entry.Kind.TheVariants.{Access, Woken, TimedOut}
use Rattle.rw_objects.specs.declared.entry.Entry.{Entry}
use Rattle.log_pieces.specs.declared.end.End.{End}
use Rattle.log_pieces.specs.declared.fault.DecodeFault.{DecodeFault}
use Rattle.log_pieces.specs.declared.fault.DecodeFault.TheVariants.{NotAPiece, NoMemory}
use Rattle.log_pieces.specs.Piece.{PieceValue, piece_fault}
use Rattle.log_pieces.specs.Spelling.{kind_byte}

-- a reader takes a value from the front of bytes, and leaves the rest
abbrev pub Reader : Type 0 → Type 0
Reader A = List ℕ → Option (A × List ℕ)

-- one reader after another
infixl 10 ◌>>=◌
abbrev pub ◌>>=◌ : {A B : Type 0} → Reader A → (A → Reader B) → Reader B
(read >>= next) bytes = option_and_then (λ x. next x.0 x.1) (read bytes)

-- a value that takes no bytes
abbrev pub gives : {A : Type 0} → A → Reader A
gives x bytes = Some (x, bytes)

abbrev pub refuses : {A : Type 0} → Reader A
refuses bytes = None

-- the fault of a reader that refuses; want of memory says nothing of the bytes
abbrev pub Refuses : {Y : Type 0} → DecodeFault → Option Y → Type 0
Refuses (NotAPiece fault) read = read ≡ None
Refuses NoMemory read = Unit {0}

-- a function answers as a reader does, unless memory runs out; view is what contracts see of what it returns
abbrev pub ReadsAs : {X Y : Type 0} → (X → Y) → Result X DecodeFault → Option Y → Type 0
ReadsAs view (Ok x) read = read ≡ Some (view x)
ReadsAs view (Err fault) read = Refuses fault read

-- a value, and the bytes behind it
abbrev pub with_rest : {A : Type 0} → A × Bor (List ℕ) → A × List ℕ
with_rest x = (x.0, x.1.now)

abbrev pub read_u8 : Reader ℕ
read_u8 [] = None
read_u8 (byte ∷ rest) = Some (byte, rest)

-- so many bytes
abbrev pub read_bytes : ℕ → Reader (List ℕ)
read_bytes count bytes = if nat_lt (length bytes) count then None else Some (take count bytes, drop count bytes)

abbrev pub read_number : Width → Reader ℕ
read_number w = do
  bytes ← read_bytes (byte_len w)
  gives (from_le_bytes w bytes)

-- so many values
unfoldable pub read_times : {A : Type 0} → ℕ → Reader A → Reader (List A)
read_times zero read = gives []
read_times (suc count) read = do
  x ← read
  xs ← read_times count read
  gives (x ∷ xs)

unfoldable pub read_touch : Reader Found
read_touch = do
  object ← read_number w32
  mode ← read_u8
  version ← read_number w64
  if mode == 0 then gives (Read object version)
      else if mode == 1 then (read_number w64 >>= λ reads. gives (Write object version reads))
      else refuses

abbrev pub kinds : List Kind
kinds = Access ∷ Woken ∷ TimedOut ∷ []

abbrev pub kind_at : ℕ → Option Kind
kind_at byte = find (λ kind. kind_byte kind == byte) kinds

abbrev pub traps : List Trap
traps =
    Unreachable ∷ DivideByZero ∷ IntegerOverflow ∷ OutOfBounds ∷ TypeMismatch ∷ UndefinedElement ∷ UninitializedElement
    ∷ StackExhausted ∷ UnalignedAtomic ∷ MemoryNotShared ∷ []

abbrev pub trap_at : ℕ → Option Trap
trap_at byte = find (λ trap. trap_number trap == byte) traps

abbrev pub or_refuses : {A : Type 0} → Option A → Reader A
or_refuses None = refuses
or_refuses (Some x) = gives x

unfoldable pub read_entry : Reader Entry
read_entry = do
  kind ← read_u8
  kind ← or_refuses (kind_at kind)
  count ← read_u8
  if nat_lt 3 count then refuses
      else (read_times count read_touch >>= λ found. gives (record { kind = kind; found = found }))

-- what stands before the touches of an entry: its kind, and how many touches there are
unfoldable pub read_head : Reader (Kind × ℕ)
read_head = do
  kind ← read_u8
  kind ← or_refuses (kind_at kind)
  count ← read_u8
  if nat_lt 3 count then refuses else gives (kind, count)

unfoldable pub read_outcome : Reader Outcome
read_outcome = do
  tag ← read_u8
  if tag == 0 then gives Running
      else if tag == 1 then gives Waiting
      else if tag == 2 then gives (Done None)
      else if tag == 3 then (read_number w32 >>= λ bits. gives (Done (Some (I32 bits))))
      else if tag == 4 then (read_number w64 >>= λ bits. gives (Done (Some (I64 bits))))
      else if tag == 5 then (read_u8 >>= λ number. or_refuses (trap_at number) >>= λ trap. gives (Trapped trap))
      else refuses

-- the flag was read before the entries
unfoldable pub read_end : ℕ → Reader (Option End)
read_end flag =
    if flag == 0 then gives None
    else if flag == 1 then (do
      steps ← read_number w32
      places ← read_number w32
      outcome ← read_outcome
      gives (Some (record { steps = steps; places = places; outcome = outcome })))
    else refuses

-- the format was read before the digest
unfoldable pub read_profile : ℕ → Reader Profile
read_profile format =
    if format == 1 then gives One
    else if format == 2 then (read_u8 >>= λ power. if nat_lt power 6 || nat_lt 12 power then refuses else gives (Two power))
    else refuses

unfoldable pub read_key : Reader RunKey
read_key = do
  mark ← read_bytes 3
  if bytes_eq mark (codes "IRP") then (do
    format ← read_u8
    digest ← read_bytes 32
    run ← read_number w64
    profile ← read_profile format
    gives (record { digest = digest; run = run; profile = profile }))
      else refuses

unfoldable pub read_parts : Reader PieceValue
read_parts = do
  key ← read_key
  thread ← read_u8
  first ← read_number w32
  count ← read_number w16
  flag ← read_u8
  if nat_lt 4096 count then refuses else (do
    entries ← read_times count read_entry
    end ← read_end flag
    gives (record { key = key; thread = thread; first = first; entries = entries; end = end }))

-- the piece that all of the bytes spell, if it keeps the rules
unfoldable pub piece_at : List ℕ → Option PieceValue
piece_at bytes = option_and_then (λ x. if length x.1 == 0 && is_none (piece_fault x.0) then Some x.0 else None) (read_parts bytes)
