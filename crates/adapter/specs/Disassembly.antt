-- Instructions around one that is meant: Debug Adapter Protocol, "Requests", "Disassemble".
use Rattle.std.specs.Prelude.{◌≡◌, ℕ, ◌+◌, ℤ, pos, negsuc, ◌+ℤ◌, ◌^◌, nat_lt, nat_le, List, [], Option, Some, None, codes, map, slice_get, if◌then◌else◌}
use Rattle.std.specs.List.{range_with_len}
use Rattle.wasm_types.specs.declared.instruction.Instr.{Instr}
use Rattle.wasm_types.specs.declared.modules.Body.{Body}
use Rattle.wasm_types.specs.declared.modules.Module.{Module}
use Rattle.wasm_world.specs.CodePlace.{CodePlace}
use Rattle.adapter_messages.specs.declared.body.Body.TheVariants.{Instructions}
use Rattle.adapter_messages.specs.declared.parts.Instruction.{Instruction}
use Rattle.adapter_messages.specs.declared.reply.Reply.{Reply}
use Rattle.adapter_messages.specs.declared.request.InstructionBreakpoint.{InstructionBreakpoint}
use Rattle.adapter.specs.Code.{offset_at, reference_of}
use Rattle.adapter.specs.InstructionBreaks.{IsPlaceOf}
use Rattle.adapter.specs.InstructionText.{instruction_text}
use Rattle.adapter.specs.Replies.{failure, success}

-- what is told where there is no instruction: 0 is the offset of the module's magic number
abbrev pub no_instruction : Instruction
no_instruction = record { address = codes "0x0"; text = codes "(no instruction)" }

-- of a function that has this body in the module of these bytes
module _ (source : List ℕ) (b : Body) (function : ℕ) where
  abbrev pub told_if : (n : ℕ) → Option Instr → Instruction
  told_if n None = no_instruction
  told_if n (Some i) = record { address = reference_of (offset_at source (record { function = function; instruction = n })); text = instruction_text b.labels i }

  -- instruction n: their numbers are below 2 ^ 32
  abbrev pub told_at : ℕ → Instruction
  told_at n = told_if n (if nat_lt n (2 ^ 32) then slice_get b.code n else None)

  abbrev pub told : ℤ → Instruction
  told (pos n) = told_at n
  told (negsuc below) = no_instruction

  -- so many, from instruction `at` moved by `offset` on
  abbrev pub told_from : (at : ℕ) → (offset : ℤ) → (n : ℕ) → List Instruction
  told_from at offset n = map (λ i. told (pos (at + i) +ℤ offset)) (range_with_len 0 n)

-- around a place of a function that has this body; a place that is meant has one
abbrev pub around : (source : List ℕ) → Option Body → CodePlace → (offset : ℤ) → (count : ℕ) → List Instruction
around source None p offset count = []
around source (Some b) p offset count = told_from source b p.function p.instruction offset count

abbrev pub around_reply : Module → (offset : ℤ) → (count : ℕ) → Option CodePlace → Reply
around_reply m offset count None = failure (codes "error: no such instruction")
around_reply m offset count (Some p) = success (Instructions (around m.source (slice_get m.bodies p.function) p offset count)) []

-- around the place that is meant, if there is one; 65,536 instructions at most
abbrev pub disassembly_reply : Module → (offset : ℤ) → (count : ℕ) → Option CodePlace → Reply
disassembly_reply m offset count found =
    if nat_le count 65536 then around_reply m offset count found else failure (codes "error: more than 65536 instructions")

-- around the instruction that a reference names, so many bytes further
abbrev pub Disassembles : Module → InstructionBreakpoint → (offset : ℤ) → (count : ℕ) → Reply → Type 0
Disassembles m meant offset count r = (found : Option CodePlace) × IsPlaceOf m meant found × (r ≡ disassembly_reply m offset count found)
