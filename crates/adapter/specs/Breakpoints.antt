-- Breakpoints that clients set: Debug Adapter Protocol, "Requests", "SetFunctionBreakpoints" and those beside it. Each
-- request sets those of its kind anew, and those of other kinds stay.
use Rattle.std.specs.Prelude.{◌≡◌, ℕ, true, false, List, [], ◌∷◌, ◌++◌, Option, Some, None, codes, drop, length, replicate, take}
use Rattle.std.specs.List.{flat_map}
use Rattle.std.specs.Option.{option_to_list}
use Rattle.adapter_messages.specs.declared.body.Body.TheVariants.{Breakpoints, DataBreakpoint}
use Rattle.adapter_messages.specs.declared.parts.Breakpoint.{Breakpoint}
use Rattle.adapter_messages.specs.declared.request.InstructionBreakpoint.{InstructionBreakpoint}
use Rattle.adapter_messages.specs.declared.reply.Reply.{Reply}
use Rattle.wasm_types.specs.declared.range.ByteRange.{ByteRange}
use Rattle.wasm_world.specs.CodePlace.{CodePlace}
use Rattle.replay_gate.specs.declared.breaks.Break.{Break}
use Rattle.debug_views.specs.Writes.{IsWriteOfRange}
use Rattle.debugger.specs.Functions.{IsEntry}
use Rattle.debugger.specs.Lines.{line_of}
use Rattle.debugger.specs.Replies.{with_breaks, with_instructions}
use Rattle.debugger.specs.declared.command.Command.{Command}
use Rattle.debugger.specs.declared.command.Command.TheVariants as command
use Rattle.debugger.specs.declared.command.Line.{Line}
use Rattle.debugger.specs.declared.command.Line.TheVariants as line
use Rattle.adapter.specs.InstructionBreaks.{IsPlaceOf}
use Rattle.adapter.specs.Numbered.{numbered}
use Rattle.adapter.specs.Replies.{success}
use Rattle.adapter.specs.State.{AdapterAt}

-- each of one list has its counterpart in the other
abbrev pub Pairs : {X Y : Type 0} → (X → Y → Type 0) → List X → List Y → Type 0
Pairs P [] ys = ys ≡ []
Pairs {X} {Y} P (x ∷ xs) ys = (y : Y) × (behind : List Y) × P x y × Pairs P xs behind × (ys ≡ y ∷ behind)

-- those of a list that there are
abbrev pub those : {X : Type 0} → List (Option X) → List X
those found = flat_map option_to_list found

-- ---- what is said of breakpoints: those for which something was found are verified, and are numbered from 0 on

abbrev pub breakpoint_at : {X : Type 0} → (message : List ℕ) → (number : ℕ) → Option X → Breakpoint
breakpoint_at message number None = record { id = number; is_verified = false; message = message }
breakpoint_at message number (Some x) = record { id = number; is_verified = true; message = [] }

abbrev pub breakpoints_of : {X : Type 0} → (message : List ℕ) → List (Option X) → List Breakpoint
breakpoints_of message found = numbered (breakpoint_at message) 0 found

-- none of so many is found
abbrev pub none_of : ℕ → List (Option ℕ)
none_of n = replicate n None

abbrev pub breakpoints_reply : {X : Type 0} → (message : List ℕ) → List (Option X) → Reply
breakpoints_reply message found = success (Breakpoints (breakpoints_of message found)) []

abbrev pub no_sources : List ℕ
no_sources = codes "error: no sources are known, set breakpoints at functions or instructions"

abbrev pub no_function : List ℕ
no_function = codes "error: no such function"

abbrev pub no_instruction : List ℕ
no_instruction = codes "error: no such instruction"

abbrev pub no_range : List ℕ
no_range = codes "error: no such bytes, try write FROM LEN"

-- ---- which breaks they become

-- at the first instruction of the functions that are called so
pub record SetsFunctions (names : List (List ℕ)) (s : AdapterAt) (r : Reply) (u : AdapterAt) : Type 0 where
  pub found : List (Option CodePlace)
  pub entries : Pairs (IsEntry s.debugger.code) names found
  pub set : u ≡ record { debugger = with_instructions s.debugger (those found ++ drop s.functions s.debugger.instructions); functions = length (those found) }
  pub reply : r ≡ breakpoints_reply no_function found

-- at instructions, by their offsets in the module
pub record SetsInstructions (asked : List InstructionBreakpoint) (s : AdapterAt) (r : Reply) (u : AdapterAt) : Type 0 where
  pub found : List (Option CodePlace)
  pub places : Pairs (IsPlaceOf s.debugger.code) asked found
  pub set : u ≡ record { debugger = with_instructions s.debugger (take s.functions s.debugger.instructions ++ those found); functions = s.functions }
  pub reply : r ≡ breakpoints_reply no_instruction found

-- the range of bytes that a debugger's command `write` names
abbrev pub range_by : Command → Option ByteRange
range_by (command.Write r) = Some r
range_by _ = None

abbrev pub range_in : Line → Option ByteRange
range_in line.Empty = None
range_in (line.Command c) = range_by c
range_in line.Unknown = None

abbrev pub range_of : List ℕ → Option ByteRange
range_of text = range_in (line_of text)

-- whether there may be a breakpoint at the bytes that a text names: it is then their id
abbrev pub info_by : (name : List ℕ) → Option ByteRange → Reply
info_by name None = success (DataBreakpoint None no_range) []
info_by name (Some r) = success (DataBreakpoint (Some name) name) []

abbrev pub info_reply : (name : List ℕ) → Reply
info_reply name = info_by name (range_of name)

-- the break at the writes of these bytes, in blocks of 2 ^ power bytes
abbrev pub IsWriteBy : (power : ℕ) → Option ByteRange → Option Break → Type 0
IsWriteBy power None b = b ≡ None
IsWriteBy power (Some r) None = ⊥
IsWriteBy power (Some r) (Some b) = IsWriteOfRange power r.from r.len b

-- at the writes of bytes
pub record SetsData (ids : List (List ℕ)) (s : AdapterAt) (r : Reply) (u : AdapterAt) : Type 0 where
  pub found : List (Option Break)
  pub writes : Pairs (λ id. IsWriteBy s.debugger.power (range_of id)) ids found
  pub set : u ≡ record { debugger = with_breaks s.debugger (those found); functions = s.functions }
  pub reply : r ≡ breakpoints_reply no_range found
