-- Which objects an access writes.
use Rattle.std.proofs.Common.{◌≡◌, ℕ, Bool, true, false, cond, ◌==◌, List, [], ◌∷◌, ◌++◌, Some, None, refl}
use Rattle.rw_objects.specs.declared.touch.Mode.TheVariants.{Read, Write}
use Rattle.rw_objects.specs.declared.touch.Touch.{Touch}
use Rattle.rw_objects.specs.Space.{mode_at, is_written}
use Rattle.block_objects.specs.Objects.{block_object}
use Rattle.block_objects.specs.Touches.{touch_of}
use Rattle.rw_objects.specs.declared.touch.Mode.{Mode}

-- the touches of an access, by whether it ends within the initial length and whether it lies in one block
abbrev pub ranged : Bool → Bool → Mode → ℕ → ℕ → List Touch
ranged within same mode first last =
    cond within [] (touch_of Read 0 ∷ []) ++ cond same (touch_of mode (block_object first) ∷ []) (touch_of mode (block_object first) ∷ touch_of mode (block_object last) ∷ [])

pub read_or_none : (b : Bool) → is_written (cond b (Some Read) None) ≡ false
read_or_none true = refl
read_or_none false = refl

two_reads : (a b : Bool) → is_written (cond a (Some Read) (cond b (Some Read) None)) ≡ false
two_reads true b = refl
two_reads false b = read_or_none b

three_reads : (a b c : Bool) → is_written (cond a (Some Read) (cond b (Some Read) (cond c (Some Read) None))) ≡ false
three_reads true b c = refl
three_reads false b c = two_reads b c

-- a load writes nothing
pub load_writes_none : (within same : Bool) (first last o : ℕ) → is_written (mode_at (ranged within same Read first last) o) ≡ false
load_writes_none true true first last o = read_or_none (block_object first == o)
load_writes_none true false first last o = two_reads (block_object first == o) (block_object last == o)
load_writes_none false true first last o = two_reads (0 == o) (block_object first == o)
load_writes_none false false first last o = three_reads (0 == o) (block_object first == o) (block_object last == o)

-- a store writes its first block
pub first_written : (within same : Bool) (first last o : ℕ) → (0 == o) ≡ false → (block_object first == o) ≡ true → is_written (mode_at (ranged within same Write first last) o) ≡ true
first_written true true first last o zero one = rw one refl
first_written true false first last o zero one = rw one refl
first_written false true first last o zero one = rw (zero, one) refl
first_written false false first last o zero one = rw (zero, one) refl

-- and its last, where that is another
pub last_written : (within : Bool) (first last o : ℕ) → (0 == o) ≡ false → (block_object first == o) ≡ false → (block_object last == o) ≡ true → is_written (mode_at (ranged within false Write first last) o) ≡ true
last_written true first last o zero one two = rw (one, two) refl
last_written false first last o zero one two = rw (zero, one, two) refl

-- and no other
pub others_stay : (within same : Bool) (first last o : ℕ) → (block_object first == o) ≡ false → (block_object last == o) ≡ false → is_written (mode_at (ranged within same Write first last) o) ≡ false
others_stay true true first last o one two = rw one refl
others_stay true false first last o one two = rw (one, two) refl
others_stay false true first last o one two = rw one (read_or_none (0 == o))
others_stay false false first last o one two = rw (one, two) (read_or_none (0 == o))
