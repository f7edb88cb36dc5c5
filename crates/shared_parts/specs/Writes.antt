-- How often calls write each part.
use Rattle.std.specs.Prelude.{ℕ, ◌+◌, List, [], ◌∷◌}
use Rattle.rw_objects.specs.declared.touch.Touch.{Touch}
use Rattle.shared_parts.specs.Parts.{lane_writes}
use Rattle.shared_parts.specs.declared.call.Call.{Call}

-- how many objects of part i these calls write
abbrev pub writes : {Op Reply : Type 0} → (Op → List Touch) → ℕ → List (Call Op Reply) → ℕ
writes touches i [] = 0
writes touches i (c ∷ cs) = lane_writes i (touches c.op) + writes touches i cs
