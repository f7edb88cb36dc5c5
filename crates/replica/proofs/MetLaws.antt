-- What is kept of versions, when one touch more is.
use Rattle.std.proofs.Common.{◌≡◌, ℕ, ◌+◌, Bool, true, false, cond, ◌&&◌, ◌||◌, List, ◌∷◌, refl, ap, ◌∙◌, arith}
use Rattle.std.specs.Prelude.{◌==◌, Option, Some, map}
use Rattle.std.specs.BTreeMap.{is_at}
use Rattle.std.specs.Ordering.{nat_cmp, ordering_then}
use Rattle.std.proofs.lemmas.Bool.{eqb-true}
use Rattle.std.proofs.lemmas.Bool.Decides.{nat_tests}
use Rattle.replica.specs.declared.touch.ObjectTouch.{ObjectTouch}
use Rattle.replica.specs.declared.versions_met.LineAt.{LineAt}
use Rattle.replica.specs.declared.versions_met.VersionMet.{VersionMet}
use Rattle.replica.specs.declared.versions_met.VersionsMet.{VersionsMet}
use Rattle.replica.specs.Members.{has_thread}
use Rattle.replica.specs.Rising.{having}
use Rattle.replica.specs.Touched.{object_of, version_of}
use Rattle.replica.specs.Versions.{knew}
use Rattle.replica.specs.ObjectLines.{Seen, touch_in, line_at, maker_of, knows}
use Rattle.replica.specs.Met.{met_in, maker_if, is_known_if, maker_in, is_known_in, HasMet}

pub is_same_pair : (a b x y : ℕ) → is_at (λ (n : ℕ). ordering_then (nat_cmp a x) (nat_cmp b n)) y ≡ (a == x && b == y)
is_same_pair a b x y = grind (arith, nat_tests)

one_more_each : (n m : ℕ) → (n + 1 == m + 1) ≡ (n == m)
one_more_each n m = grind (arith, nat_tests)

-- the two numbers of a version are those of the touch
same_numbers : (a b x y : ℕ) → (a == x && b == y) ≡ true → (a ≡ x) × (b ≡ y)
same_numbers a b x y h = (grind (arith, nat_tests), grind (arith, nat_tests))

module _ (old new : VersionsMet) (touch : ObjectTouch) (line : Option ℕ) (value : VersionMet) (seen : List Seen) (has : HasMet old seen)
    (maker : value.maker ≡ cond (touch.is_write) (line_at touch line) (maker_in old touch.object (version_of touch)))
    (threads : (thread : ℕ) → has_thread value.threads thread ≡ (touch.thread == thread || is_known_in old touch.object (version_of touch) thread))
    (updates : (o v : ℕ) → met_in new o v ≡ cond (touch.object == o && version_of touch == v) (Some value) (met_in old o v)) where
  abbrev more : List Seen
  more = record { touch = touch; line = line } ∷ seen

  makers_more : (o v : ℕ) → maker_in new o v ≡ maker_of o v more
  makers_more o v = ap maker_if (updates o v) ∙ go (touch.object == o && version_of touch == v) refl
    where
      go : (b : Bool) → (touch.object == o && version_of touch == v) ≡ b → maker_if (cond b (Some value) (met_in old o v)) ≡ cond (touch.is_write && b) (line_at touch line) (maker_of o v seen)
      go true is =
          let same = same_numbers touch.object (version_of touch) o v is in
          maker ∙ ap (λ (n : ℕ). cond (touch.is_write) (line_at touch line) (maker_in old n (version_of touch))) same.0
          ∙ ap (λ (n : ℕ). cond (touch.is_write) (line_at touch line) (maker_in old o n)) same.1
          ∙ ap (λ (m : Option LineAt). cond (touch.is_write) (line_at touch line) m) (has.makers o v) ∙ and_true (touch.is_write)
        where
          and_true : (w : Bool) → cond w (line_at touch line) (maker_of o v seen) ≡ cond (w && true) (line_at touch line) (maker_of o v seen)
          and_true true = refl
          and_true false = refl
      go false is = has.makers o v ∙ and_false (touch.is_write)
        where
          and_false : (w : Bool) → maker_of o v seen ≡ cond (w && false) (line_at touch line) (maker_of o v seen)
          and_false true = refl
          and_false false = refl

  threads_more : (o v thread : ℕ) → is_known_in new o v thread ≡ knows o v more thread
  threads_more o v thread =
      ap (λ (m : Option VersionMet). is_known_if m thread) (updates o v) ∙ go (touch.object == o) (version_of touch == v) refl refl
    where
      go : (a b : Bool) → (touch.object == o) ≡ a → (version_of touch == v) ≡ b
          → is_known_if (cond (a && b) (Some value) (met_in old o v)) thread ≡ knew (cond a (touch ∷ having object_of o (map touch_in seen)) (having object_of o (map touch_in seen))) (v + 1) thread
      go true true first second =
          let same : touch.object ≡ o = eqb-true touch.object o first in
          let version : version_of touch ≡ v = eqb-true (version_of touch) v second in
          threads thread ∙ ap (λ (n : ℕ). touch.thread == thread || is_known_in old n (version_of touch) thread) same
          ∙ ap (λ (n : ℕ). touch.thread == thread || is_known_in old o n thread) version
          ∙ ap (λ (b : Bool). touch.thread == thread || b) (has.threads o v thread)
          ∙ and_so (touch.thread == thread) (version_of touch + 1 == v + 1) (one_more_each (version_of touch) v ∙ second)
        where
          and_so : (w e : Bool) → e ≡ true → (w || knows o v seen thread) ≡ ((w && e) || knows o v seen thread)
          and_so true true is = refl
          and_so false true is = refl
          and_so w false is = absurd cc
      go true false first second = has.threads o v thread ∙ none_so (touch.thread == thread) (version_of touch + 1 == v + 1) (one_more_each (version_of touch) v ∙ second)
        where
          none_so : (w e : Bool) → e ≡ false → knows o v seen thread ≡ ((w && e) || knows o v seen thread)
          none_so true false is = refl
          none_so false false is = refl
          none_so w true is = absurd cc
      go false b first second = has.threads o v thread

  pub met_more : HasMet new more
  met_more = record { makers = makers_more; threads = threads_more }
