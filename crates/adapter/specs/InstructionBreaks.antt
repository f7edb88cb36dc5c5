-- Instructions that breakpoints refer to.
use Rattle.std.specs.Prelude.{◌≡◌, ℕ, pos, ◌+ℤ◌, unsigned_abs, ◌^◌, ◌<◌, true, List, ◌∷◌, Option, Some, None, length, slice_get}
use Rattle.std.specs.Int.{w64, FitsUnsigned}
use Rattle.std.specs.Str.Parse.{IsNumeral, digits_value, without_leading_plus}
use Rattle.wasm_types.specs.declared.modules.Body.{Body}
use Rattle.wasm_types.specs.declared.modules.Module.{Module}
use Rattle.wasm_world.specs.CodePlace.{CodePlace}
use Rattle.adapter_messages.specs.declared.request.InstructionBreakpoint.{InstructionBreakpoint}
use Rattle.debugger.specs.Functions.{has_instruction}
use Rattle.adapter.specs.Code.{offset_at}

-- the offset that a reference names: hexadecimal digits behind `0x`
pub record IsNamed (text : List ℕ) (offset : ℕ) : Type 0 where
  pub digits : List ℕ
  pub is : text ≡ 48 ∷ 120 ∷ digits
  pub numeral : IsNumeral 16 (without_leading_plus digits)
  pub value : digits_value 16 (without_leading_plus digits) ≡ offset
  pub fits : offset < 2 ^ 64

-- it names that offset, or none
abbrev pub NamesSo : List ℕ → Option ℕ → Type 0
NamesSo text None = (offset : ℕ) → IsNamed text offset → ⊥
NamesSo text (Some offset) = IsNamed text offset

-- an instruction of the module that stands at an offset
pub record StandsAt (m : Module) (offset : ℕ) (p : CodePlace) : Type 0 where
  pub function : p.function < length m.functions
  pub few : p.instruction < 2 ^ 32
  pub there : has_instruction m p ≡ true
  pub is : offset_at m.source p ≡ Some offset

-- how many instructions a function has
abbrev pub count_of_body : Option Body → ℕ
count_of_body None = 0
count_of_body (Some b) = length b.code

abbrev pub instruction_count : Module → (function : ℕ) → ℕ
instruction_count m function = count_of_body (slice_get m.bodies function)

-- of the first instructions of a function, so many, that which stands at an offset
abbrev pub FindsIn : (source : List ℕ) → (function count offset : ℕ) → Option CodePlace → Type 0
FindsIn source function count offset None = (n : ℕ) → n < count → n < 2 ^ 32 → offset_at source (record { function = function; instruction = n }) ≡ Some offset → ⊥
FindsIn source function count offset (Some p) = (p.function ≡ function) × (p.instruction < count) × (p.instruction < 2 ^ 32) × (offset_at source p ≡ Some offset)

-- it is that one, or there is none
abbrev pub FindsAt : Module → (offset : ℕ) → Option CodePlace → Type 0
FindsAt m offset None = (p : CodePlace) → StandsAt m offset p → ⊥
FindsAt m offset (Some p) = StandsAt m offset p

-- the instruction at the offset that a breakpoint names, so many bytes further
pub record IsMeant (m : Module) (b : InstructionBreakpoint) (p : CodePlace) : Type 0 where
  pub named : ℕ
  pub is_named : IsNamed b.reference named
  pub fits : FitsUnsigned w64 (pos named +ℤ b.offset)
  pub stands : StandsAt m (unsigned_abs (pos named +ℤ b.offset)) p

abbrev pub IsPlaceOf : Module → InstructionBreakpoint → Option CodePlace → Type 0
IsPlaceOf m b None = (p : CodePlace) → IsMeant m b p → ⊥
IsPlaceOf m b (Some p) = IsMeant m b p
