-- Elements by rising number, and touches by rising object and version.
use Rattle.std.specs.Prelude.{◌≡◌, ℕ, ◌≤◌, ◌==◌, ◌&&◌, Bool, List, [], ◌∷◌}
use Rattle.std.specs.List.{AllByRecursion, filter, list_any}
use Rattle.replica.specs.declared.touch.ObjectTouch.{ObjectTouch}
use Rattle.replica.specs.Touched.{object_of, version_of}

-- no number is below one in front of it
abbrev pub Rises : {X : Type 0} → (X → ℕ) → List X → Type 0
Rises number [] = Unit {0}
Rises number (x ∷ xs) = AllByRecursion (λ y. number x ≤ number y) xs × Rises number xs

-- the second touch may stand behind the first
abbrev pub IsBehind : ObjectTouch → ObjectTouch → Type 0
IsBehind t u = (object_of t ≤ object_of u) × (object_of t ≡ object_of u → version_of t ≤ version_of u)

-- by rising object, and those of an object by rising version
abbrev pub IsOrdered : List ObjectTouch → Type 0
IsOrdered [] = Unit {0}
IsOrdered (t ∷ ts) = AllByRecursion (IsBehind t) ts × IsOrdered ts

-- the touches of a version of an object
abbrev pub is_of : ℕ → ℕ → ObjectTouch → Bool
is_of object version t = object_of t == object && version_of t == version

-- the same touches, of which those of each version stand in the same order
pub record AreSame (ts us : List ObjectTouch) : Type 0 where
  pub any : (p : ObjectTouch → Bool) → list_any p ts ≡ list_any p us
  pub at : (object version : ℕ) → filter (is_of object version) ts ≡ filter (is_of object version) us
