-- What a shared space comes to.
use Rattle.std.specs.Prelude.{ℕ, List, Box}
use Rattle.rw_objects.specs.Space.{Space}
use Rattle.rw_objects.specs.Memory.{Memory}
use Rattle.shared_parts.specs.declared.eight.Eight.{Eight}
use Rattle.shared_parts.specs.Parts.{AreParts}
use Rattle.shared_parts.specs.declared.call.Call.{Call}
use Rattle.shared_parts.specs.Calls.{memory_after_calls}

-- the parts are those of the space to which the calls lead
abbrev pub AreLedTo : {Op Reply Value Fixed Part A : Type 0} → (Part → ℕ) → (Part → Fixed) → (Part → ℕ → Value) → Space Op Reply Value Fixed → Memory Value Fixed → List (Call Op Reply) → Eight (Box Part A) → Type 0
AreLedTo lane part_fixed held space m calls parts = AreParts lane part_fixed held m.fixed (memory_after_calls space m calls).values parts
