-- Eight parts of a space: object 8 j + i is item j of part i.
use Rattle.std.specs.Prelude.{◌≡◌, ℕ, ◌+◌, ◌*◌, ◌%◌, ◌==◌, Bool, true, false, cond, List, [], ◌∷◌}
use Rattle.std.specs.Prelude.{Box, box_value}
use Rattle.rw_objects.specs.declared.touch.Touch.{Touch}
use Rattle.rw_objects.specs.Space.{is_written}
use Rattle.std.specs.Prelude.{Some}
use Rattle.shared_parts.specs.declared.eight.Eight.{Eight}
use Rattle.shared_parts.specs.Cut.{Cut, AllSound}

-- the values of the objects of part i
abbrev pub part_values : {Value : Type 0} → ℕ → (ℕ → Value) → ℕ → Value
part_values i values j = values (8 * j + i)

abbrev pub set_at : {Value : Type 0} → (ℕ → Value) → ℕ → Value → ℕ → Value
set_at values k value j = cond (j == k) value (values j)

-- some touch is of an object of part i
abbrev pub has_lane : ℕ → List Touch → Bool
has_lane i [] = false
has_lane i (t ∷ ts) = cond (t.object % 8 == i) true (has_lane i ts)

-- how many objects of part i are written
abbrev pub lane_writes : ℕ → List Touch → ℕ
lane_writes i [] = 0
lane_writes i (t ∷ ts) = cond (t.object % 8 == i) (cond (is_written (Some t.mode)) 1 0) 0 + lane_writes i ts

module _ {V : Type 0} (change : ℕ → V → V) where
  -- an object's value after a touch, and after touches
  abbrev pub after_touch : Touch → ℕ → V → V
  after_touch t o v = cond (t.object == o) (cond (is_written (Some t.mode)) (change o v) v) v

  abbrev pub after_touches : List Touch → ℕ → V → V
  after_touches [] o v = v
  after_touches (t ∷ ts) o v = after_touches ts o (after_touch t o v)

module _ {Part Value Fixed : Type 0} (lane : Part → ℕ) (part_fixed : Part → Fixed) (held : Part → ℕ → Value) where
  -- this is part i of a space with these fixed numbers and values
  pub record IsPart (i : ℕ) (fixed : Fixed) (values : ℕ → Value) (part : Part) : Type 0 where
    pub is_lane : lane part ≡ i
    pub is_fixed : part_fixed part ≡ fixed
    pub is_held : held part ≡ part_values i values

  -- these are the eight parts of such a space
  pub record AreParts {A : Type 0} (fixed : Fixed) (values : ℕ → Value) (parts : Eight (Box Part A)) : Type 0 where
    pub zero : IsPart 0 fixed values (box_value parts.zero)
    pub one : IsPart 1 fixed values (box_value parts.one)
    pub two : IsPart 2 fixed values (box_value parts.two)
    pub three : IsPart 3 fixed values (box_value parts.three)
    pub four : IsPart 4 fixed values (box_value parts.four)
    pub five : IsPart 5 fixed values (box_value parts.five)
    pub six : IsPart 6 fixed values (box_value parts.six)
    pub seven : IsPart 7 fixed values (box_value parts.seven)

module _ {Op Reply Value Fixed Seen Decision Part : Type 0} (cut : Cut Op Reply Value Fixed Seen Decision) (lane : Part → ℕ) (part_fixed : Part → Fixed) (held : Part → ℕ → Value) where
  -- there is such a space, whose objects have values that they can have
  abbrev pub AreOfOne : {A : Type 0} → Eight (Box Part A) → Type 0
  AreOfOne parts = (fixed : Fixed) × (values : ℕ → Value) × AllSound cut fixed values × AreParts lane part_fixed held fixed values parts
