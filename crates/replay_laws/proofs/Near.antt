-- What an operation does depends on the objects that it touches alone.
use Rattle.std.proofs.Common.{◌≡◌, ◌≢◌, ℕ, List, [], ◌∷◌, map, ◌==◌, refl, ap, inl, inr, true}
use Rattle.std.proofs.lemmas.Bool.Decides.{eqb_tells}
use Rattle.rw_objects.specs.declared.touch.Mode.{Mode}
use Rattle.rw_objects.specs.declared.touch.Mode.TheVariants.{Read, Write}
use Rattle.rw_objects.specs.declared.touch.Touch.{Touch as Touched}
use Rattle.rw_objects.specs.Space.{Space, touched_values}
use Rattle.rw_objects.specs.Code.{Code}
use Rattle.replay_laws.proofs.System.{Touch, ReadOf, WriteOf, Absent, Reading, Writing, stronger, mode, IsNear}
use Rattle.replay_laws.proofs.Views.{met_by, met_as, system_of}

reading_stays : (m : Rattle.replay_laws.proofs.System.Mode) → stronger Reading m ≢ Absent
reading_stays Absent p = cc
reading_stays Reading p = cc
reading_stays Writing p = cc

absent_of : (m n : Rattle.replay_laws.proofs.System.Mode) → stronger m n ≡ Absent → n ≡ Absent
absent_of Absent n p = p
absent_of Reading Absent p = absurd (cc)
absent_of Reading Reading p = absurd (cc)
absent_of Reading Writing p = absurd (cc)
absent_of Writing n p = absurd (cc)

same_number : (o : ℕ) → (o == o) ≡ true
same_number o = elim (eqb_tells o o) [ inl e ↦ e.0 | inr e ↦ absurd (e.1 refl) ]

head_met : (m : Mode) (o : ℕ) (ts : List Touch) → mode (met_as m o ∷ ts) o ≢ Absent
head_met Read o ts p = reading_stays (mode ts o) (rw (same_number o) at p)
head_met Write o ts p = let q : Writing ≡ Absent = rw (same_number o) at p in cc

rest_met : (m : Mode) (o : ℕ) (ts : List Touch) (x : ℕ) → mode ts x ≢ Absent → mode (met_as m o ∷ ts) x ≢ Absent
rest_met Read o ts x h p = h (absent_of _ _ p)
rest_met Write o ts x h p = h (absent_of _ _ p)

seen_same : {V : Type 0} (ts : List Touched) (m u : ℕ → V) → ((x : ℕ) → mode (map met_by ts) x ≢ Absent → m x ≡ u x) → touched_values ts m ≡ touched_values ts u
seen_same [] m u h = refl
seen_same (t ∷ ts) m u h =
    let here : m t.object ≡ u t.object = h t.object (head_met t.mode t.object (map met_by ts)) in
    let rest : touched_values ts m ≡ touched_values ts u = seen_same ts m u (λ x d. h x (rest_met t.mode t.object (map met_by ts) x d)) in
    rw (here, rest) refl

module _ {State Op Reply Value Fixed : Type 0} (space : Space Op Reply Value Fixed) (code : Code State Op Reply Fixed) where
  pub near : (fixed : Fixed) (threads : ℕ) → IsNear (system_of space code fixed threads)
  near fixed threads =
      record {
        near_ready = λ op m u h. ap (λ l. (space.effect fixed op l).ready) (seen_same (space.touches op) m u h);
        near_reply = λ op m u h. ap (λ l. (space.effect fixed op l).reply) (seen_same (space.touches op) m u h);
        near_change = λ op m u h x w. ap (λ l. (space.effect fixed op l).written x) (seen_same (space.touches op) m u h);
      }
