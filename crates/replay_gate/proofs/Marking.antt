-- One touch more is marked.
use Rattle.std.proofs.Common.{◌≡◌, ℕ, zero, suc, ◌<◌, List, [], ◌∷◌, ◌++◌, length, map, take, get_or, refl, ap, ◌∙◌, arith}
use Rattle.rw_objects.specs.declared.count.Count.{Count}
use Rattle.rw_objects.specs.declared.touch.Found.{Found}
use Rattle.rw_objects.specs.declared.touch.Mode.{Mode}
use Rattle.rw_objects.specs.declared.touch.Mode.TheVariants.{Read, Write}
use Rattle.rw_objects.specs.declared.touch.Touch.{Touch}
use Rattle.rw_objects.specs.Counts.{all_found, found_as}
use Rattle.replay_gate.specs.declared.marks.Mark.{Mark}
use Rattle.replay_gate.specs.Marks.{mark_of, mark_of_found}

pub mark_next : (counts : ℕ → Count) (ts : List Touch) (i : ℕ) (d : Touch) → i < length ts → map (mark_of counts) (take i ts) ++ mark_of counts (get_or ts i d) ∷ [] ≡ map (mark_of counts) (take (suc i) ts)
mark_next counts [] i d l = absurd (omega (arith, l))
mark_next counts (t ∷ ts) zero d l = refl
mark_next counts (t ∷ ts) (suc i) d l = ap (λ (ms : List Mark). mark_of counts t ∷ ms) (mark_next counts ts i d (omega (arith, l)))

pub mark_is : (counts : ℕ → Count) (t : Touch) (c : Count) → c ≡ counts t.object → (let m : Mark = record { object = t.object; version = c.version } in m ≡ mark_of counts t)
mark_is counts t c is = ap (λ (x : Count). let m : Mark = record { object = t.object; version = x.version } in m) is

pub found_next : (all : List Found) (i : ℕ) (d : Found) → i < length all → map mark_of_found (take i all) ++ mark_of_found (get_or all i d) ∷ [] ≡ map mark_of_found (take (suc i) all)
found_next [] i d l = absurd (omega (arith, l))
found_next (f ∷ fs) zero d l = refl
found_next (f ∷ fs) (suc i) d l = ap (λ (ms : List Mark). mark_of_found f ∷ ms) (found_next fs i d (omega (arith, l)))

found_as_mark : (m : Mode) (o : ℕ) (c : Count) → (let k : Mark = record { object = o; version = c.version } in mark_of_found (found_as m o c) ≡ k)
found_as_mark Read o c = refl
found_as_mark Write o c = refl

-- what an entry found of touches are their marks
pub found_marks : (ts : List Touch) (counts : ℕ → Count) → map mark_of_found (all_found ts counts) ≡ map (mark_of counts) ts
found_marks [] counts = refl
found_marks (t ∷ ts) counts =
    ap (λ (m : Mark). m ∷ map mark_of_found (all_found ts counts)) (found_as_mark t.mode t.object (counts t.object)) ∙ ap (λ (ms : List Mark). mark_of counts t ∷ ms) (found_marks ts counts)
