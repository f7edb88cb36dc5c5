-- A call that the journal has just got.
use Rattle.std.specs.Prelude.{◌≡◌, List, [], ◌∷◌, ◌++◌}
use Rattle.rw_objects.specs.declared.touch.Touch.{Touch}
use Rattle.rw_objects.specs.Space.{Space, Fits}
use Rattle.rw_objects.specs.Memory.{Memory}
use Rattle.shared_parts.specs.Cut.{Cut, AllSound, decision_at}
use Rattle.shared_parts.specs.declared.call.Call.{Call}
use Rattle.shared_parts.specs.Calls.{memory_after_calls}

module _ {Op Reply Value Fixed Seen Decision : Type 0} (space : Space Op Reply Value Fixed) (cut : Cut Op Reply Value Fixed Seen Decision) (m : Memory Value Fixed) where
  -- all calls are those before it and one call of this operation, which touches these objects, and decides so by their
  -- values
  pub record IsStep (before all : List (Call Op Reply)) (ts : List Touch) (op : Op) (decision : Decision) : Type 0 where
    pub fits : Fits space m.fixed op
    pub touches : ts ≡ space.touches op
    pub grown : (c : Call Op Reply) × (all ≡ before ++ c ∷ []) × (c.op ≡ op)
    pub decided : decision ≡ decision_at space cut m.fixed (memory_after_calls space m before).values op
    pub sound : AllSound cut m.fixed (memory_after_calls space m before).values
