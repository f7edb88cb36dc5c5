-- Where the seats have as many calls as the history, each has all of its thread.
use Rattle.std.proofs.Common.{◌≡◌, ℕ, ◌+◌, ◌<◌, ◌≤◌, ◌==◌, List, [], ◌∷◌, length, Bool, true, false, cond, refl, sym, arith}
use Rattle.std.proofs.lemmas.Bool.Decides.{nat_tests}
use Rattle.shared_parts.specs.declared.call.Call.{Call}
use Rattle.shared_parts.specs.Calls.{Part, part_of, IsNumbered, AreParts, AreWithin, calls_of}
use Rattle.shared_parts.proofs.Grows.{within_length, within_whole}

module _ {O R : Type 0} where
  -- how many of the seats have this number
  abbrev hits : List (Part O R) → ℕ → ℕ
  hits [] t = 0
  hits (s ∷ ss) t = cond (t == s.thread) 1 0 + hits ss t

  -- how many calls the history has for these seats
  abbrev theirs : List (Part O R) → List (Call O R) → ℕ
  theirs [] all = 0
  theirs (s ∷ ss) all = length (part_of s.thread all) + theirs ss all

  theirs-nil : (ss : List (Part O R)) → theirs ss [] ≡ 0
  theirs-nil [] = refl
  theirs-nil (s ∷ ss) = let h = theirs-nil ss in omega arith

  length_cond : (b : Bool) (c : Call O R) (cs : List (Call O R)) → length (cond b (c ∷ cs) cs) ≡ cond b 1 0 + length cs
  length_cond true c cs = omega arith
  length_cond false c cs = omega arith

  theirs-cons : (ss : List (Part O R)) (c : Call O R) (all : List (Call O R)) → theirs ss (c ∷ all) ≡ hits ss c.thread + theirs ss all
  theirs-cons [] c all = refl
  theirs-cons (s ∷ ss) c all =
      let rest = theirs-cons ss c all in
      let here = length_cond (c.thread == s.thread) c (part_of s.thread all) in omega (arith, here, rest)

  hits_none : (b t : ℕ) (ss : List (Part O R)) → IsNumbered b ss → t < b → hits ss t ≡ 0
  hits_none b t [] n low = refl
  hits_none b t (s ∷ ss) n low =
      let rest = hits_none (b + 1) t ss n.1 (omega arith) in
      let other : (t == s.thread) ≡ false = grind (arith, nat_tests, n.0) in
      rw other (omega (arith, rest))

  hits_at : (b t : ℕ) (s : Part O R) (ss : List (Part O R)) → IsNumbered b (s ∷ ss) → hits ss t ≤ 1 → (e : Bool) → (t == s.thread) ≡ e → hits (s ∷ ss) t ≤ 1
  hits_at b t s ss n low true is =
      let same : t ≡ s.thread = grind (arith, nat_tests, is) in
      let rest = hits_none (b + 1) t ss n.1 (omega (arith, same, n.0)) in
      rw is (omega (arith, rest))
  hits_at b t s ss n low false is = rw is (omega (arith, low))

  hits_once : (b t : ℕ) (ss : List (Part O R)) → IsNumbered b ss → hits ss t ≤ 1
  hits_once b t [] n = omega arith
  hits_once b t (s ∷ ss) n = hits_at b t s ss n (hits_once (b + 1) t ss n.1) (t == s.thread) refl

  theirs_below : (b : ℕ) (ss : List (Part O R)) (all : List (Call O R)) → IsNumbered b ss → theirs ss all ≤ length all
  theirs_below b ss [] n = omega (arith, theirs-nil ss)
  theirs_below b ss (c ∷ all) n =
      omega (arith, theirs-cons ss c all, hits_once b c.thread ss n, theirs_below b ss all n)

  calls_below : (ss : List (Part O R)) (all : List (Call O R)) → AreWithin all ss → calls_of ss ≤ theirs ss all
  calls_below [] all w = omega arith
  calls_below (s ∷ ss) all w = omega (arith, within_length w.0, calls_below ss all w.1)

  all_whole : (ss : List (Part O R)) (all : List (Call O R)) → AreWithin all ss → theirs ss all ≤ calls_of ss → AreParts all ss
  all_whole [] all w le = tt
  all_whole (s ∷ ss) all w le =
      let own = within_length w.0 in
      let rest = calls_below ss all w.1 in
      (sym (within_whole w.0 (omega (arith, own, rest, le))), all_whole ss all w.1 (omega (arith, own, rest, le)))

  pub parts_whole : (ss : List (Part O R)) (all : List (Call O R)) → IsNumbered 0 ss → AreWithin all ss → length all ≤ calls_of ss → AreParts all ss
  parts_whole ss all n w le = all_whole ss all w (omega (arith, theirs_below 0 ss all n, le))

  -- a seat past these is none of them
  hits_past : (b t : ℕ) (ss : List (Part O R)) → IsNumbered b ss → b + length ss ≤ t → hits ss t ≡ 0
  hits_past b t [] n high = refl
  hits_past b t (s ∷ ss) n high =
      let rest = hits_past (b + 1) t ss n.1 (omega (arith, high)) in
      let other : (t == s.thread) ≡ false = grind (arith, nat_tests, n.0) in
      rw other (omega (arith, rest))

  hit_or_other : (b t x : ℕ) (ss : List (Part O R)) → IsNumbered b ss → b + length ss ≤ t → (e : Bool) → (x == t) ≡ e → hits ss x + cond e 1 0 ≤ 1
  hit_or_other b t x ss n high true is =
      let same : x ≡ t = grind (arith, nat_tests, is) in
      let none = hits_past b x ss n (omega (arith, same, high)) in
      omega (arith, none)
  hit_or_other b t x ss n high false is = let once = hits_once b x ss n in omega (arith, once)

  others_below : (b t : ℕ) (ss : List (Part O R)) (all : List (Call O R)) → IsNumbered b ss → b + length ss ≤ t → theirs ss all + length (part_of t all) ≤ length all
  others_below b t ss [] n high = omega (arith, theirs-nil ss)
  others_below b t ss (c ∷ all) n high =
      let here = length_cond (c.thread == t) c (part_of t all) in
      let one = hit_or_other b t c.thread ss n high (c.thread == t) refl in
      omega (arith, theirs-cons ss c all, here, one, others_below b t ss all n high)

  no_calls : (cs : List (Call O R)) → length cs ≡ 0 → cs ≡ []
  no_calls [] e = refl
  no_calls (c ∷ cs) e = absurd (omega (arith, e))

  -- and no other thread has a call
  pub no_others : (ss : List (Part O R)) (all : List (Call O R)) → IsNumbered 0 ss → AreWithin all ss → length all ≤ calls_of ss → (t : ℕ) → length ss ≤ t → part_of t all ≡ []
  no_others ss all n w le t high =
      let most = others_below 0 t ss all n (omega (arith, high)) in
      let least = calls_below ss all w in
      no_calls (part_of t all) (omega (arith, most, least, le))
