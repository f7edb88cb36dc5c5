-- What a space of objects means: an operation's effect is one function of the values of the objects that it touches.
use Rattle.std.specs.Prelude.{◌≡◌, ℕ, ◌+◌, ◌<◌, ◌≤◌, Bool, true, false, cond, ◌==◌, List, [], ◌∷◌, length, map, Option, Some, None}
use Rattle.rw_objects.specs.declared.touch.Mode.{Mode}
use Rattle.rw_objects.specs.declared.touch.Mode.TheVariants.{Read, Write}
use Rattle.rw_objects.specs.declared.touch.Touch.{Touch}
use Rattle.rw_objects.specs.declared.entry.Kind.{Kind}
use Rattle.rw_objects.specs.declared.entry.Kind.TheVariants.{Access}

-- whether an operation can be made, what it answers, and the new value of each object that it writes
pub record Effect (Reply Value : Type 0) : Type 0 where
  pub ready : Bool
  pub reply : Reply
  pub written : ℕ → Value

-- how many objects there are; of an operation its kind, its touches and whether the numbers that it carries are the
-- space's; its effect, by the values of the touched objects in rising order; and the bytes that stand for the space
pub record Space (Op Reply Value Fixed : Type 0) : Type 1 where
  pub objects : Fixed → ℕ
  pub kind : Op → Kind
  pub touches : Op → List Touch
  pub carries : Fixed → Op → Type 0
  pub effect : Fixed → Op → List Value → Effect Reply Value
  pub image : Fixed → (ℕ → Value) → List ℕ

-- how an object is touched, if it is
abbrev pub mode_at : List Touch → ℕ → Option Mode
mode_at [] o = None
mode_at (t ∷ ts) o = cond (t.object == o) (Some t.mode) (mode_at ts o)

abbrev pub is_written : Option Mode → Bool
is_written None = false
is_written (Some Read) = false
is_written (Some Write) = true

-- the touches are of objects in rising order, from n on
abbrev pub RisesFrom : ℕ → List Touch → Type 0
RisesFrom n [] = Unit {0}
RisesFrom n (t ∷ ts) = (n ≤ t.object) × RisesFrom (t.object + 1) ts

-- the touches are of the first n objects
abbrev pub AllBelow : ℕ → List Touch → Type 0
AllBelow n [] = Unit {0}
AllBelow n (t ∷ ts) = (t.object < n) × AllBelow n ts

-- the values of the touched objects
abbrev pub touched_values : {Value : Type 0} → List Touch → (ℕ → Value) → List Value
touched_values ts values = map (λ t. values t.object) ts

module _ {Op Reply Value Fixed : Type 0} (space : Space Op Reply Value Fixed) where
  -- an operation is one of this space
  pub record Fits (fixed : Fixed) (op : Op) : Type 0 where
    pub carries : space.carries fixed op
    pub below : AllBelow (space.objects fixed) (space.touches op)

  abbrev pub effect_at : Fixed → (ℕ → Value) → Op → Effect Reply Value
  effect_at fixed values op = space.effect fixed op (touched_values (space.touches op) values)

  abbrev pub is_ready : Fixed → (ℕ → Value) → Op → Bool
  is_ready fixed values op = (effect_at fixed values op).ready

  abbrev pub reply_of : Fixed → (ℕ → Value) → Op → Reply
  reply_of fixed values op = (effect_at fixed values op).reply

  -- an object that is not touched for writing stays
  abbrev pub values_after : Fixed → (ℕ → Value) → Op → ℕ → Value
  values_after fixed values op o = cond (is_written (mode_at (space.touches op) o)) ((effect_at fixed values op).written o) (values o)

  -- an operation touches 1 to 3 objects in rising order, and an access is always ready
  pub record SpaceLaws : Type 0 where
    pub rising : (fixed : Fixed) (op : Op) → Fits fixed op → RisesFrom 0 (space.touches op)
    pub at_most : (fixed : Fixed) (op : Op) → Fits fixed op → length (space.touches op) ≤ 3
    pub some_touch : (fixed : Fixed) (op : Op) → Fits fixed op → 0 < length (space.touches op)
    pub access_ready : (fixed : Fixed) (op : Op) (values : ℕ → Value) → Fits fixed op → space.kind op ≡ Access → is_ready fixed values op ≡ true
