-- One version, and one object, more in a loop that puts lines.
use Rattle.std.proofs.Common.{◌≡◌, ℕ, Bool, List, [], ◌∷◌, ◌++◌, take, drop, refl, sym, ap, subst, ◌∙◌, append_assoc}
use Rattle.std.specs.Prelude.{◌==◌, Some, slice_get}
use Rattle.std.specs.List.{prefix_len}
use Rattle.replica.specs.declared.touch.ObjectTouch.{ObjectTouch}
use Rattle.replica.specs.Rising.{by_number}
use Rattle.replica.specs.Touched.{object_of, version_of}
use Rattle.replica.specs.Versions.{knew, version_line}
use Rattle.replica.specs.Order.{Rises, IsOrdered}
use Rattle.replica.specs.Chosen.{ObjectsAsked, object_lines, lines}
use Rattle.replica.proofs.Agree.{version_line_agree}
use Rattle.replica.proofs.Fronts.{IsFront, first_front, by_number_front}
use Rattle.replica.proofs.Known.{Seen, seen_knew, seen_more}
use Rattle.replica.proofs.Sorted.{objects_rise, front_rises, back_ordered}

module _ (number : ObjectTouch → ℕ) where
  front_of : (y : ObjectTouch) (ys group others : List ObjectTouch) (n k : ℕ) → Rises number (y ∷ ys) → n ≡ number y → k ≡ prefix_len (λ t. number t == n) (y ∷ ys)
      → group ≡ take k (y ∷ ys) → others ≡ drop k (y ∷ ys) → IsFront number (number y) (y ∷ ys) group others
  front_of y ys group others n k up is count front back =
      let long : ℕ = prefix_len (λ t. number t == number y) (y ∷ ys) in
      let counted : k ≡ long = count ∙ ap (λ (m : ℕ). prefix_len (λ t. number t == m) (y ∷ ys)) is in
      let group_is : take long (y ∷ ys) ≡ group = sym (front ∙ ap (λ (m : ℕ). take m (y ∷ ys)) counted) in
      let others_is : drop long (y ∷ ys) ≡ others = sym (back ∙ ap (λ (m : ℕ). drop m (y ∷ ys)) counted) in
      subst (λ (l : List ObjectTouch). IsFront number (number y) (y ∷ ys) group l) others_is
      (subst (λ (l : List ObjectTouch). IsFront number (number y) (y ∷ ys) l (drop long (y ∷ ys))) group_is (first_front number y ys up))

-- what was put, and what is left
put_more : (old line now left rest all : List ℕ) → now ≡ old ++ line → rest ≡ line ++ left → old ++ rest ≡ all → now ++ left ≡ all
put_more old line now left rest all is parts h = ap (λ (l : List ℕ). l ++ left) is ∙ append_assoc old line left ∙ ap (λ (l : List ℕ). old ++ l) (sym parts) ∙ h

pub versions_step : (object : ℕ) (touches before rest group others : List ObjectTouch) (x : ObjectTouch) (v k : ℕ) (known : ℕ → Bool) (old now all : List ℕ)
    → Some x ≡ slice_get rest 0 → v ≡ version_of x → k ≡ prefix_len (λ t. version_of t == v) rest → group ≡ take k rest → others ≡ drop k rest
    → ((thread : ℕ) → known thread ≡ knew before v thread) → now ≡ old ++ version_line object v known group
    → Seen touches before rest → old ++ by_number version_of (λ n. version_line object n (knew touches n)) rest ≡ all
    → (now ++ by_number version_of (λ n. version_line object n (knew touches n)) others ≡ all) × Seen touches group others
versions_step object touches before [] group others x v k known old now all some is count front back knows put seen h = absurd cc
versions_step object touches before (y ∷ ys) group others x v k known old now all some is count front back knows put seen h =
    let head : x ≡ y = cc in
    let n = version_of y in
    let part : ℕ → List ObjectTouch → List ℕ = λ (m : ℕ). version_line object m (knew touches m) in
    let same : v ≡ n = is ∙ ap version_of head in
    let parts = front_of version_of y ys group others v k seen.rises same count front back in
    let line : version_line object v known group ≡ part n group =
    ap (λ (m : ℕ). version_line object m known group) same
    ∙ version_line_agree object n known (knew touches n) (λ thread. knows thread ∙ ap (λ (m : ℕ). knew before m thread) same ∙ seen_knew touches before y ys seen thread) group in (
      put_more old (part n group) now (by_number version_of part others) (by_number version_of part (y ∷ ys)) all
          (put ∙ ap (λ (l : List ℕ). old ++ l) line) (by_number_front version_of part n y ys group others refl parts) h,
      seen_more touches before y ys group others seen parts,
    )

module _ (rest group others : List ObjectTouch) (x : ObjectTouch) (n k : ℕ) where
  -- the touches of one object
  abbrev pub IsNext : Type 0
  IsNext = (Some x ≡ slice_get rest 0) × (n ≡ object_of x) × (k ≡ prefix_len (λ t. object_of t == n) rest) × (group ≡ take k rest) × (others ≡ drop k rest) × IsOrdered rest

pub group_rises : (rest group others : List ObjectTouch) (x : ObjectTouch) (n k : ℕ) → IsNext rest group others x n k → Rises version_of group
group_rises [] group others x n k next = absurd (let some = next.0 in cc)
group_rises (y ∷ ys) group others x n k next =
    let some = next.0 in
    let head : x ≡ y = cc in
    let same : n ≡ object_of y = next.1 ∙ ap object_of head in
    front_rises (object_of y) (y ∷ ys) group others next.5 (front_of object_of y ys group others n k (objects_rise (y ∷ ys) next.5) same next.2 next.3 next.4)

pub objects_step : (choice : ObjectsAsked) (text : ℕ → List ℕ) (rest group others : List ObjectTouch) (x : ObjectTouch) (n k : ℕ) (old now all : List ℕ) → IsNext rest group others x n k
    → now ≡ old ++ object_lines choice text n group → old ++ lines choice text rest ≡ all → (now ++ lines choice text others ≡ all) × IsOrdered others
objects_step choice text [] group others x n k old now all next put h = absurd (let some = next.0 in cc)
objects_step choice text (y ∷ ys) group others x n k old now all next put h =
    let some = next.0 in
    let head : x ≡ y = cc in
    let same : n ≡ object_of y = next.1 ∙ ap object_of head in
    let parts = front_of object_of y ys group others n k (objects_rise (y ∷ ys) next.5) same next.2 next.3 next.4 in (
      put_more old (object_lines choice text (object_of y) group) now (lines choice text others) (lines choice text (y ∷ ys)) all
          (put ∙ ap (λ (m : ℕ). old ++ object_lines choice text m group) same) (by_number_front object_of (object_lines choice text) (object_of y) y ys group others refl parts) h,
      back_ordered (object_of y) (y ∷ ys) group others next.5 parts,
    )
