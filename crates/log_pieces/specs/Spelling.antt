-- The bytes of a piece, field by field. Numbers are unsigned, with their low byte first.
use Rattle.std.specs.Prelude.{◌≡◌, ℕ, List, [], ◌∷◌, ◌++◌, length, Option, Some, None}
use Rattle.std.specs.List.{flat_map}
use Rattle.std.specs.Int.{w16, w32, w64, to_le_bytes}
use Rattle.wasm_types.specs.declared.key.RunKey.{RunKey}
use Rattle.wasm_types.specs.declared.key.Profile.{Profile}
use Rattle.wasm_types.specs.declared.key.Profile.TheVariants.{One, Two}
use Rattle.wasm_types.specs.declared.value.Value.TheVariants.{I32, I64}
use Rattle.wasm_types.specs.declared.outcome.Outcome.{Outcome}
use Rattle.wasm_types.specs.declared.outcome.Outcome.TheVariants.{Running, Waiting, Done, Trapped}
use Rattle.wasm_types.specs.Trap.{trap_number}
use Rattle.rw_objects.specs.declared.touch.Found.{Found}
use Rattle.rw_objects.specs.declared.touch.Found.TheVariants.{Read, Write}
use Rattle.rw_objects.specs.declared.entry.Kind.{Kind}
use Rattle.rw_objects.specs.declared.entry.Kind.TheVariants.{Access, Woken, TimedOut}
use Rattle.rw_objects.specs.declared.entry.Entry.{Entry}
use Rattle.log_pieces.specs.declared.end.End.{End}
use Rattle.log_pieces.specs.Piece.{PieceValue, IsPiece}
use Rattle.log_pieces.specs.Widths.{Fits}

abbrev pub u8 : ℕ → List ℕ
u8 n = n ∷ []

abbrev pub u16 : ℕ → List ℕ
u16 = to_le_bytes w16

abbrev pub u32 : ℕ → List ℕ
u32 = to_le_bytes w32

abbrev pub u64 : ℕ → List ℕ
u64 = to_le_bytes w64

-- the object, 0 for a read or 1 for a write, the version, and for a write the reads since the last one
abbrev pub touch_bytes : Found → List ℕ
touch_bytes (Read object version) = u32 object ++ u8 0 ++ u64 version
touch_bytes (Write object version reads) = u32 object ++ u8 1 ++ u64 version ++ u64 reads

abbrev pub kind_byte : Kind → ℕ
kind_byte Access = 0
kind_byte Woken = 1
kind_byte TimedOut = 2

-- the kind, the count of touches, the touches
abbrev pub entry_bytes : Entry → List ℕ
entry_bytes e = u8 (kind_byte e.kind) ++ u8 (length e.found) ++ flat_map touch_bytes e.found

abbrev pub outcome_bytes : Outcome → List ℕ
outcome_bytes Running = u8 0
outcome_bytes Waiting = u8 1
outcome_bytes (Done None) = u8 2
outcome_bytes (Done (Some (I32 bits))) = u8 3 ++ u32 bits
outcome_bytes (Done (Some (I64 bits))) = u8 4 ++ u64 bits
outcome_bytes (Trapped trap) = u8 5 ++ u8 (trap_number trap)

abbrev pub end_flag : Option End → ℕ
end_flag None = 0
end_flag (Some e) = 1

abbrev pub end_bytes : Option End → List ℕ
end_bytes None = []
end_bytes (Some e) = u32 e.steps ++ u32 e.places ++ outcome_bytes e.outcome

abbrev pub format_byte : Profile → ℕ
format_byte One = 1
format_byte (Two power) = 2

-- of profile 2 alone, the power of two that the block's size is
abbrev pub block_bytes : Profile → List ℕ
block_bytes One = []
block_bytes (Two power) = u8 power

-- `IRP` and the format, the digest, the run
abbrev pub key_bytes : RunKey → List ℕ
key_bytes k = (0x49 ∷ 0x52 ∷ 0x50 ∷ format_byte k.profile ∷ []) ++ k.digest ++ u64 k.run ++ block_bytes k.profile

abbrev pub spelling : PieceValue → List ℕ
spelling p =
    key_bytes p.key
    ++ u8 p.thread
    ++ u32 p.first
    ++ u16 (length p.entries)
    ++ u8 (end_flag p.end)
    ++ flat_map entry_bytes p.entries
    ++ end_bytes p.end

-- the bytes are those of p, which keeps the rules
pub record Spells (bytes : List ℕ) (p : PieceValue) : Type 0 where
  pub rules : IsPiece p
  pub fits : Fits p
  pub spelled : bytes ≡ spelling p
