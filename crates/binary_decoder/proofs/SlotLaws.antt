-- A section at its place, with custom sections before it, and what stands behind it.
use Rattle.std.proofs.Common.{◌≡◌, ℕ, ◌<◌, Bool, true, false, cond, eqb, List, [], ◌∷◌, ◌++◌, Option, Some, None, Result, Ok, Err, refl, sym, ap, subst, ◌∙◌, arith, inl, inr}
use Rattle.std.proofs.lemmas.Bool.{eqb-true, eqb-false}
use Rattle.binary_decoder.specs.Language.{Language, ◌⨾◌, sized}
use Rattle.binary_decoder.specs.Fault.{Fault, Malformed, Oversized, Reading, ◌>>=◌}
use Rattle.binary_decoder.specs.Reading.{byte_vector_at, all_of, sized_at}
use Rattle.binary_decoder.proofs.ReadAnswers.{Told, Answers, Exact, AnswersAll, ExactAll}
use Rattle.binary_decoder.proofs.ReadLaws.{sized_exact}
use Rattle.binary_decoder.specs.Grammar.{section, customs}
use Rattle.binary_decoder.specs.Reader.{skipped, content_at, opening_at, in_content, section_at, slot_at}
use Rattle.binary_decoder.proofs.CustomLaws.{Settled, skipped_settled, skipped_found, customs_skipped}

-- empty, or a first byte above an id
abbrev pub Above : ℕ → List ℕ → Type 0
Above id [] = Unit {0}
Above id (b ∷ bs) = id < b

above_more : (k id : ℕ) (text : List ℕ) → k < id → Above id text → Above k text
above_more k id [] lt h = tt
above_more k id (b ∷ bs) lt h = omega arith

above_settled : (id : ℕ) (text : List ℕ) → Above id text → Settled text
above_settled id [] h = tt
above_settled id (b ∷ bs) h = omega arith

-- behind the custom sections of a text is a text again, and its first byte is above the id
abbrev pub Settles : ℕ → Language → Type 0
Settles id T = (text : List ℕ) → T text → (b : List ℕ) × (skipped text ≡ Ok b) × T b × Above id b

pub record Tail {Y : Type 0} (id : ℕ) (T : Y → Language) (W : Y → Type 0) (whole : List ℕ → Result Y Fault) : Type 0 where
  pub exact : ExactAll T W whole
  pub settles : (y : Y) → Settles id (T y)

ok_same : (a b : List ℕ) → ◌≡◌ {A = Result (List ℕ) Fault} (Ok a) (Ok b) → a ≡ b
ok_same a b e = cc

module _ {X Y : Type 0} (id : ℕ) (positive : 0 < id) (none : X) (A : X → Language) (W : X → Type 0) (read : List ℕ → Reading X) (exact : Exact A W read) (none_fits : W none)
    (T : X → Y → Language) (WT : X → Y → Type 0) (others : X → List ℕ → Result Y Fault) (tail : (x : X) → Tail id (T x) (WT x) (others x)) where
  -- behind the custom sections
  abbrev At : X × Y → Language
  At p = section id none A p.0 ⨾ T p.0 p.1

  abbrev Slot : X × Y → Language
  Slot p = customs ⨾ At p

  abbrev SlotFits : X × Y → Type 0
  SlotFits p = W p.0 × WT p.0 p.1

  -- ---- where the custom sections are behind us

  abbrev Matched : List ℕ → Reading X → X × Y → Type 0
  Matched bs r q = (behind : List ℕ) × Told W r q.0 behind × T q.0 q.1 behind

  matched_by : (b : ℕ) (bs : List ℕ) → b ≡ id → (r : Reading X) → Answers (λ (x : X). sized (A x)) W bs r → (q : X × Y) (front back : List ℕ) → b ∷ bs ≡ front ++ back → section id none A q.0 front → T q.0 q.1 back → Matched bs r q
  matched_by b bs is r f q front back e (inl l) t =
      let same : b ∷ bs ≡ back = e ∙ ap (λ (x : List ℕ). x ++ back) l.1 in
      let g = (tail q.0).settles q.1 back t in
      let settled : Settled (b ∷ bs) = omega arith in
      let k : b ∷ bs ≡ g.0 = ok_same (b ∷ bs) g.0 (sym (skipped_settled (b ∷ bs) settled) ∙ ap skipped same ∙ g.1) in
      let lt : Above id (b ∷ bs) = subst (Above id) (sym k) g.3 in
      absurd (omega (arith, lt, is))
  matched_by b bs is r f q front back e (inr s) t =
      let k : b ∷ bs ≡ id ∷ (s.back ++ back) = e ∙ ap (λ (x : List ℕ). x ++ back) (s.parts ∙ ap (λ (x : List ℕ). x ++ s.back) s.is_first) in
      let k2 : bs ≡ s.back ++ back = cc in
      (back, f.only q.0 s.back back s.is_second k2, t)

  matched : (b : ℕ) (bs : List ℕ) → b ≡ id → (r : Reading X) → Answers (λ (x : X). sized (A x)) W bs r → (q : X × Y) → At q (b ∷ bs) → Matched bs r q
  matched b bs is r f q l = matched_by b bs is r f q l.front l.back l.parts l.is_first l.is_second

  here : (p : X × List ℕ) (bs : List ℕ) (q : X × Y) → Matched bs (Ok p) q → (T p.0 q.1 p.1) × (WT q.0 q.1 → WT p.0 q.1) × (q.0 ≡ p.0)
  here p bs q m =
      (subst (λ (z : X × List ℕ). T z.0 q.1 z.1) (sym m.1) m.2, λ w. subst (λ (z : X × List ℕ). WT z.0 q.1) (sym m.1) w, sym (ap (λ (z : X × List ℕ). z.0) m.1))

  taken : (b : ℕ) (bs : List ℕ) → b ≡ id → (p : X × List ℕ) → Answers (λ (x : X). sized (A x)) W bs (Ok p) → (r : Result Y Fault) → AnswersAll (T p.0) (WT p.0) p.1 r → AnswersAll At SlotFits (b ∷ bs) (r >>= λ y. Ok (p.0, y))
  taken b bs is p f (Ok y) s =
      record {
        found = (record { front = b ∷ f.found.0; back = p.1; parts = ap (λ (t : List ℕ). b ∷ t) f.found.1; is_first = inr (record { front = b ∷ []; back = f.found.0; parts = refl; is_first = ap (λ (x : ℕ). x ∷ []) is; is_second = f.found.2 }); is_second = s.found.0 }, (f.found.3, s.found.1));
        only = λ q l.
            let h = here p bs q (matched b bs is (Ok p) f q l) in
            let y-is : y ≡ q.1 = s.only q.1 h.0 in
            ap (λ (x : X). (x, y)) (sym h.2) ∙ ap (λ (z : Y). (q.0, z)) y-is;
      }
  taken b bs is p f (Err Malformed) s = record { found = tt; only = λ q l. let h = here p bs q (matched b bs is (Ok p) f q l) in s.only q.1 h.0 }
  taken b bs is p f (Err Oversized) s = record { found = tt; only = λ q l. λ w. let h = here p bs q (matched b bs is (Ok p) f q l) in s.only q.1 h.0 (h.1 w.1) }

  section_here : (b : ℕ) (bs : List ℕ) → b ≡ id → (r : Reading X) → Answers (λ (x : X). sized (A x)) W bs r → AnswersAll At SlotFits (b ∷ bs) (r >>= λ x. others x.0 x.1 >>= λ y. Ok (x.0, y))
  section_here b bs is (Ok p) f = taken b bs is p f (others p.0 p.1) ((tail p.0).exact p.1)
  section_here b bs is (Err Malformed) f = record { found = tt; only = λ q l. (matched b bs is (Err Malformed) f q l).1 }
  section_here b bs is (Err Oversized) f = record { found = tt; only = λ q l. λ w. (matched b bs is (Err Oversized) f q l).1 w.0 }

  passed : (bytes : List ℕ) → ((q : X × Y) → At q bytes → (q.0 ≡ none) × T q.0 q.1 bytes) → (r : Result Y Fault) → AnswersAll (T none) (WT none) bytes r → AnswersAll At SlotFits bytes (r >>= λ y. Ok (none, y))
  passed bytes absent (Ok y) s =
      record {
        found = (record { front = []; back = bytes; parts = refl; is_first = inl (refl, refl); is_second = s.found.0 }, (none_fits, s.found.1));
        only = λ q l.
            let a = absent q l in
            let y-is : y ≡ q.1 = s.only q.1 (subst (λ (x : X). T x q.1 bytes) a.0 a.1) in
            ap (λ (x : X). (x, y)) (sym a.0) ∙ ap (λ (z : Y). (q.0, z)) y-is;
      }
  passed bytes absent (Err Malformed) s = record { found = tt; only = λ q l. let a = absent q l in s.only q.1 (subst (λ (x : X). T x q.1 bytes) a.0 a.1) }
  passed bytes absent (Err Oversized) s = record { found = tt; only = λ q l. λ w. let a = absent q l in s.only q.1 (subst (λ (x : X). T x q.1 bytes) a.0 a.1) (subst (λ (x : X). WT x q.1) a.0 w.1) }

  absent_by : (bytes : List ℕ) → ((bs : List ℕ) → bytes ≡ id ∷ bs → ⊥) → (q : X × Y) (front back : List ℕ) → bytes ≡ front ++ back → section id none A q.0 front → T q.0 q.1 back → (q.0 ≡ none) × T q.0 q.1 bytes
  absent_by bytes other q front back e (inl l) t = (l.0, subst (T q.0 q.1) (sym (e ∙ ap (λ (x : List ℕ). x ++ back) l.1)) t)
  absent_by bytes other q front back e (inr s) t = absurd (other (s.back ++ back) (e ∙ ap (λ (x : List ℕ). x ++ back) (s.parts ∙ ap (λ (x : List ℕ). x ++ s.back) s.is_first)))

  abbrev then_others : Reading X → Result (X × Y) Fault
  then_others r = r >>= λ x. others x.0 x.1 >>= λ y. Ok (x.0, y)

  abbrev into_content : Reading (Option (List ℕ)) → Reading X
  into_content r = r >>= λ o. in_content none read o.0 >>= λ x. Ok (x, o.1)

  abbrev found_content : List ℕ × List ℕ → Reading (Option (List ℕ))
  found_content p = Ok (Some p.0, p.1)

  sized_same : (r : Reading (List ℕ)) → into_content (r >>= found_content) ≡ (r >>= λ p. all_of (read p.0) >>= λ x. Ok (x, p.1))
  sized_same (Ok p) = refl
  sized_same (Err e) = refl

  slot_by : (b : ℕ) (bs : List ℕ) (t : Bool) → eqb b id ≡ t → AnswersAll At SlotFits (b ∷ bs) (then_others (into_content (cond t (byte_vector_at bs >>= found_content) (Ok (None, b ∷ bs)))))
  slot_by b bs true t = rw (sized_same (byte_vector_at bs)) (section_here b bs (eqb-true _ _ t) (sized_at read bs) (sized_exact A W read exact bs))
  slot_by b bs false t = passed (b ∷ bs) (λ q l. absent_by (b ∷ bs) (λ cs e. let k : b ≡ id = cc in eqb-false _ _ t k) q l.front l.back l.parts l.is_first l.is_second) (others none (b ∷ bs)) ((tail none).exact (b ∷ bs))

  slot_at_settled : (bytes : List ℕ) → AnswersAll At SlotFits bytes (then_others (into_content (content_at id bytes)))
  unfolding content_at
  slot_at_settled [] = passed [] (λ q l. absent_by [] (λ cs e. absurd cc) q l.front l.back l.parts l.is_first l.is_second) (others none []) ((tail none).exact [])
  slot_at_settled (b ∷ bs) = slot_by b bs (eqb b id) refl

  -- ---- with the custom sections

  abbrev Split : ℕ → X × Y → List ℕ → Type 0
  Split k q text = (b : List ℕ) × (skipped text ≡ Ok b) × At q b × Above k b

  split_by : (k : ℕ) → k < id → (q : X × Y) (text c rest front back : List ℕ) → text ≡ c ++ rest → customs c → rest ≡ front ++ back → section id none A q.0 front → T q.0 q.1 back → Split k q text
  split_by k lt q text c rest front back e cs e2 (inl l) t =
      let g = (tail q.0).settles q.1 back t in
      let same : rest ≡ back = e2 ∙ ap (λ (x : List ℕ). x ++ back) l.1 in
      (g.0, ap skipped e ∙ customs_skipped c rest cs ∙ ap skipped same ∙ g.1, record { front = []; back = g.0; parts = refl; is_first = inl (l.0, refl); is_second = g.2 }, above_more k id g.0 lt g.3)
  split_by k lt q text c rest front back e cs e2 (inr s) t =
      let same : rest ≡ id ∷ (s.back ++ back) = e2 ∙ ap (λ (x : List ℕ). x ++ back) (s.parts ∙ ap (λ (x : List ℕ). x ++ s.back) s.is_first) in
      let above : Above k rest = subst (Above k) (sym same) lt in
      (rest, ap skipped e ∙ customs_skipped c rest cs ∙ skipped_settled rest (above_settled k rest above), record { front = front; back = back; parts = e2; is_first = inr s; is_second = t }, above)

  split : (k : ℕ) → k < id → (q : X × Y) (text : List ℕ) → Slot q text → Split k q text
  split k lt q text l = split_by k lt q text l.front l.back l.is_second.front l.is_second.back l.parts l.is_first l.is_second.parts l.is_second.is_first l.is_second.is_second

  slot_settles : (k : ℕ) → k < id → (q : X × Y) → Settles k (Slot q)
  slot_settles k lt q text l =
      let g = split k lt q text l in
      (g.0, g.1, record { front = []; back = g.0; parts = refl; is_first = ([], refl); is_second = g.2 }, g.3)

  behind_customs : (bytes b : List ℕ) → skipped bytes ≡ Ok b → (r : Result (X × Y) Fault) → AnswersAll At SlotFits b r → AnswersAll Slot SlotFits bytes r
  behind_customs bytes b e (Ok p) f =
      let g = skipped_found bytes b e in
      record { found = (record { front = g.0; back = b; parts = g.2; is_first = g.1; is_second = f.found.0 }, f.found.1); only = λ q l. f.only q (let s = split 0 positive q bytes l in subst (At q) (ok_same s.0 b (sym s.1 ∙ e)) s.2) }
  behind_customs bytes b e (Err Malformed) f = record { found = tt; only = λ q l. f.only q (let s = split 0 positive q bytes l in subst (At q) (ok_same s.0 b (sym s.1 ∙ e)) s.2) }
  behind_customs bytes b e (Err Oversized) f = record { found = tt; only = λ q l. f.only q (let s = split 0 positive q bytes l in subst (At q) (ok_same s.0 b (sym s.1 ∙ e)) s.2) }

  slot_from : (bytes : List ℕ) (r : Result (List ℕ) Fault) → skipped bytes ≡ r → AnswersAll Slot SlotFits bytes (then_others (into_content (r >>= λ rest. content_at id rest)))
  slot_from bytes (Ok b) e = behind_customs bytes b e (then_others (into_content (content_at id b))) (slot_at_settled b)
  slot_from bytes (Err Malformed) e = record { found = tt; only = λ q l. let s = split 0 positive q bytes l in let k = sym s.1 ∙ e in absurd cc }
  slot_from bytes (Err Oversized) e = record { found = tt; only = λ q l. let s = split 0 positive q bytes l in let k = sym s.1 ∙ e in absurd cc }

  pub slot : (k : ℕ) → k < id → Tail k (λ (p : X × Y). customs ⨾ (section id none A p.0 ⨾ T p.0 p.1)) (λ (p : X × Y). W p.0 × WT p.0 p.1) (slot_at id none read others)
  unfolding section_at opening_at
  slot k lt = record { exact = λ bytes. slot_from bytes (skipped bytes) refl; settles = slot_settles k lt }
