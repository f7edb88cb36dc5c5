-- Which values have a spelling: those whose numbers have the widths of their fields, as all values of a program do.
use Rattle.std.specs.Prelude.{◌≡◌, ◌<◌, ◌≤◌, ◌^◌, length, Option, Some, None}
use Rattle.std.specs.List.{All}
use Rattle.hex.specs.Hex.{IsBytes}
use Rattle.wasm_types.specs.declared.key.RunKey.{RunKey}
use Rattle.wasm_types.specs.declared.key.Profile.{Profile}
use Rattle.wasm_types.specs.declared.key.Profile.TheVariants.{One, Two}
use Rattle.wasm_types.specs.declared.value.Value.TheVariants.{I32, I64}
use Rattle.wasm_types.specs.declared.outcome.Outcome.{Outcome}
use Rattle.wasm_types.specs.declared.outcome.Outcome.TheVariants.{Running, Waiting, Done, Trapped}
use Rattle.rw_objects.specs.declared.touch.Found.{Found}
use Rattle.rw_objects.specs.declared.touch.Found.TheVariants.{Read, Write}
use Rattle.rw_objects.specs.declared.entry.Entry.{Entry}
use Rattle.log_pieces.specs.declared.end.End.{End}
use Rattle.log_pieces.specs.Piece.{PieceValue}

abbrev pub FitsTouch : Found → Type 0
FitsTouch (Read object version) = (object < 2 ^ 32) × (version < 2 ^ 64)
FitsTouch (Write object version reads) = (object < 2 ^ 32) × (version < 2 ^ 64) × (reads < 2 ^ 64)

abbrev pub FitsEntry : Entry → Type 0
FitsEntry e = (length e.found ≤ 3) × All FitsTouch e.found

abbrev pub FitsOutcome : Outcome → Type 0
FitsOutcome Running = Unit {0}
FitsOutcome Waiting = Unit {0}
FitsOutcome (Done None) = Unit {0}
FitsOutcome (Done (Some (I32 bits))) = bits < 2 ^ 32
FitsOutcome (Done (Some (I64 bits))) = bits < 2 ^ 64
FitsOutcome (Trapped trap) = Unit {0}

abbrev pub FitsEnd : Option End → Type 0
FitsEnd None = Unit {0}
FitsEnd (Some e) = (e.steps < 2 ^ 32) × (e.places < 2 ^ 32) × FitsOutcome e.outcome

abbrev pub FitsProfile : Profile → Type 0
FitsProfile One = Unit {0}
FitsProfile (Two power) = (6 ≤ power) × (power ≤ 12)

abbrev pub FitsKey : RunKey → Type 0
FitsKey k = (length k.digest ≡ 32) × IsBytes k.digest × (k.run < 2 ^ 64) × FitsProfile k.profile

pub record Fits (p : PieceValue) : Type 0 where
  pub key : FitsKey p.key
  pub thread : p.thread < 2 ^ 8
  pub first : p.first < 2 ^ 32
  pub count : length p.entries < 2 ^ 16
  pub entries : All FitsEntry p.entries
  pub end : FitsEnd p.end
