-- What an event waits for, by the count of the object that it touches.
use Rattle.std.proofs.Common.{◌≡◌, ℕ, ap, ◌∙◌, Option}
use Rattle.rw_objects.specs.declared.count.Count.{Count}
use Rattle.rw_objects.specs.declared.touch.Found.{Found}
use Rattle.rw_objects.specs.Touch.{object_of}
use Rattle.debugger.specs.declared.touched.Sought.{Sought}
use Rattle.debugger.specs.Waits.{awaited}

pub awaited_is : (f : Found) (object : ℕ) (here : Count) (counts : ℕ → Count) (s : Option Sought) → s ≡ awaited f here → here ≡ counts object → object ≡ object_of f → s ≡ awaited f (counts (object_of f))
awaited_is f object here counts s is there same = is ∙ ap (λ c. awaited f c) (there ∙ ap counts same)
