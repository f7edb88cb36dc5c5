-- Pairs and their bytes, one after the other.
use Rattle.std.proofs.Common.{◌≡◌, ℕ, suc, ◌+◌, ◌-◌, ◌<◌, ◌≤◌, true, false, List, [], ◌∷◌, ◌++◌, length, Option, Some, None, refl, sym, ap, subst, ◌∙◌, append_assoc, arith}
use Rattle.std.proofs.lemmas.Bool.Decides.{nat_tests}
use Rattle.std.specs.Prelude.{nat_lt}
use Rattle.std.specs.List.{flat_map}
use Rattle.std.proofs.lemmas.List.{append-nil}
use Rattle.std.proofs.lemmas.List.Concat.{flat_map-cons}
use Rattle.std.proofs.lemmas.Grind.{flat_map-append}
use Rattle.log_pieces.specs.declared.flat.Flat.{Flat}
use Rattle.log_pieces.specs.declared.flat.Flat.TheVariants.{Known, Clash}
use Rattle.log_pieces.specs.PackedClaim.{Reads, ReadsBack, claim_bytes, pair_bytes, read_pair, pairs_from, read_pairs, place_and_rest, item_of, Rising, FitsFlat, FitPairs, Spelled, IsSpot}

-- a value that was read, with the bytes behind it
abbrev pub got : {A : Type 0} → A → List ℕ → Option (A × List ℕ)
got x rest = Some (x, rest)

some_is : {A : Type 0} (x y : A) → Some x ≡ Some y → x ≡ y
some_is x y e = cc

-- one reading has one value
pub got_both : {A : Type 0} {o : Option (A × List ℕ)} {x y : A} {r s : List ℕ} → o ≡ got x r → o ≡ got y s → (x ≡ y) × (r ≡ s)
got_both {A} {o} {x} {y} {r} {s} e f = subst (λ (z : A × List ℕ). (x ≡ z.0) × (r ≡ z.1)) (some_is (x, r) (y, s) (sym e ∙ f)) (refl, refl)

got_none : {A : Type 0} {o : Option (A × List ℕ)} {x : A} {r : List ℕ} → o ≡ got x r → o ≡ None → ⊥
got_none e f = let bad = sym e ∙ f in cc

-- ---- rising keys
module _ {X : Type 0} where
  pub rising_wider : (low high more : ℕ) (es : List (ℕ × X)) → high ≤ more → Rising low es high → Rising low es more
  rising_wider low high more [] le h = omega (arith, h)
  rising_wider low high more (e ∷ es) le h = (h.0, rising_wider (suc e.0) high more es le h.1)

  pub rising_lower : (less low high : ℕ) (es : List (ℕ × X)) → less ≤ low → Rising low es high → Rising less es high
  rising_lower less low high [] le h = omega (arith, h)
  rising_lower less low high (e ∷ es) le h = (omega (arith, h.0), h.1)

  pub rising_within : (low high : ℕ) (es : List (ℕ × X)) → Rising low es high → low ≤ high
  rising_within low high [] h = h
  rising_within low high (e ∷ es) h = let r = rising_within (suc e.0) high es h.1 in omega (arith, h.0)

  pub rising-append : (low mid high : ℕ) (es fs : List (ℕ × X)) → Rising low es mid → Rising mid fs high → Rising low (es ++ fs) high
  rising-append low mid high [] fs h g = rising_lower low mid high fs h g
  rising-append low mid high (e ∷ es) fs h g = (h.0, rising-append (suc e.0) mid high es fs h.1 g)

  pub rising_one : (low high : ℕ) (e : ℕ × X) → low ≤ e.0 → e.0 < high → Rising low (e ∷ []) high
  rising_one low high e le lt = (le, lt)

-- ---- fitting pairs
module _ {T : Type 0} (Fits : T → Type 0) where
  pub fit-append : (es fs : List (ℕ × Flat T)) → FitPairs Fits es → FitPairs Fits fs → FitPairs Fits (es ++ fs)
  fit-append [] fs h g = g
  fit-append (e ∷ es) fs h g = (h.0, fit-append es fs h.1 g)

-- ---- what is spelled is read
module _ {T : Type 0} {spelled : T → List ℕ} {read : Reads T} {Fits : T → Type 0} (back : ReadsBack spelled read Fits) where
  pub claim_again : (place : ℕ) (item : Flat T) (rest : List ℕ) → place < 128 → FitsFlat Fits item
      → read_pair read (claim_bytes spelled place item ++ rest) ≡ Some ((place, item), rest)
  claim_again place (Known x) rest lt fit =
      let below : nat_lt place 128 ≡ true = grind (arith, nat_tests) in
      rw (below, back.again x rest fit) refl
  claim_again place Clash rest lt fit =
      let above : nat_lt (place + 128) 128 ≡ false = grind (arith, nat_tests) in
      let same : place + 128 - 128 ≡ place = omega arith in
      rw (above, same) refl

  pub pairs_again : (low : ℕ) (ps : List (ℕ × Flat T)) (rest : List ℕ) → Rising low ps 128 → FitPairs Fits ps
      → read_pairs read (length ps) (flat_map (pair_bytes spelled) ps ++ rest) ≡ ps
  pairs_again low [] rest h fit = refl
  pairs_again low (e ∷ ps) rest h fit =
      let later : List ℕ = flat_map (pair_bytes spelled) ps ++ rest in
      let regrouped : flat_map (pair_bytes spelled) (e ∷ ps) ++ rest ≡ pair_bytes spelled e ++ later =
      ap (λ (l : List ℕ). l ++ rest) (flat_map-cons (pair_bytes spelled) e ps) ∙ append_assoc (pair_bytes spelled e) (flat_map (pair_bytes spelled) ps) rest in
      let within = rising_within (suc e.0) 128 ps h.1 in
      ap (read_pairs read (suc (length ps))) regrouped
      ∙ ap (pairs_from (read_pairs read (length ps))) (claim_again e.0 e.1 later (omega arith) fit.0)
      ∙ ap (λ (l : List (ℕ × Flat T)). e ∷ l) (pairs_again (suc e.0) ps rest h.1 fit.1)

  -- what a page's bytes spell is what is read of them
  pub read_spelled : {count : ℕ} {bytes : List ℕ} {ps : List (ℕ × Flat T)} → Spelled spelled Fits count bytes ps → read_pairs read count bytes ≡ ps
  read_spelled {count} {bytes} {ps} s =
      let all : bytes ≡ flat_map (pair_bytes spelled) ps ++ [] = s.parts ∙ sym (append-nil (flat_map (pair_bytes spelled) ps)) in
      rw (← s.many, all) (pairs_again 0 ps [] s.rising s.fits)

-- ---- a search for a place
-- the pairs before are passed, and so many are left
pub record Scan {T : Type 0} (spelled : T → List ℕ) (Fits : T → Type 0) (ps : List (ℕ × Flat T)) (bytes : List ℕ) (place : ℕ) (rest : List ℕ) (left : ℕ) : Type 0 where
  pub before : List (ℕ × Flat T)
  pub after : List (ℕ × Flat T)
  pub next : ℕ
  pub parts : ps ≡ before ++ after
  pub front : bytes ≡ flat_map (pair_bytes spelled) before ++ rest
  pub back : rest ≡ flat_map (pair_bytes spelled) after
  pub many : length after ≡ left
  pub not_past : next ≤ place
  pub low : Rising 0 before next
  pub high : Rising next after 128
  pub fit_before : FitPairs Fits before
  pub fit_after : FitPairs Fits after

-- the pair that is read next
pub record Head {T : Type 0} (spelled : T → List ℕ) (read : Reads T) (Fits : T → Type 0) (ps : List (ℕ × Flat T)) (bytes : List ℕ) (place : ℕ) (rest : List ℕ) (left : ℕ) : Type 0 where
  pub scan : Scan spelled Fits ps bytes place rest left
  pub pair : ℕ × Flat T
  pub later : List (ℕ × Flat T)
  pub is : scan.after ≡ pair ∷ later
  pub reads : read_pair read rest ≡ Some (pair, flat_map (pair_bytes spelled) later)

module _ {T : Type 0} {spelled : T → List ℕ} {Fits : T → Type 0} where
  pub scan_start : {count : ℕ} {bytes : List ℕ} {ps : List (ℕ × Flat T)} (place : ℕ) → Spelled spelled Fits count bytes ps → Scan spelled Fits ps bytes place bytes count
  scan_start {count} {bytes} {ps} place s = record {
    before = [];
    after = ps;
    next = 0;
    parts = refl;
    front = refl;
    back = s.parts;
    many = s.many;
    not_past = omega arith;
    low = omega arith;
    high = s.rising;
    fit_before = tt;
    fit_after = s.fits;
  }

  -- all pairs are passed
  pub scan_end : {ps : List (ℕ × Flat T)} {bytes : List ℕ} {place : ℕ} {rest : List ℕ} {left : ℕ} → place < 128 → left ≡ 0 → Scan spelled Fits ps bytes place rest left → IsSpot spelled Fits ps bytes place rest None rest
  scan_end {ps} {bytes} {place} {rest} {left} within none s = at s.after refl where
    at : (after : List (ℕ × Flat T)) → s.after ≡ after → IsSpot spelled Fits ps bytes place rest None rest
    at [] e = record {
      before = s.before;
      after = [];
      parts = s.parts ∙ ap (λ (l : List (ℕ × Flat T)). s.before ++ l) e;
      front = s.front;
      back = s.back ∙ ap (flat_map (pair_bytes spelled)) e;
      rest = s.back ∙ ap (flat_map (pair_bytes spelled)) e;
      low = rising_wider 0 s.next place s.before s.not_past s.low;
      high = omega arith;
      fit_before = s.fit_before;
      fit_after = tt;
    }
    at (x ∷ after) e = let bad : suc (length after) ≡ 0 = sym (ap length e) ∙ s.many ∙ none in absurd (omega (arith, bad))

module _ {T : Type 0} {spelled : T → List ℕ} {read : Reads T} {Fits : T → Type 0} (back : ReadsBack spelled read Fits) where
  pub scan_head : {ps : List (ℕ × Flat T)} {bytes : List ℕ} {place : ℕ} {rest : List ℕ} {left : ℕ} → 0 < left → Scan spelled Fits ps bytes place rest left → Head spelled read Fits ps bytes place rest left
  scan_head {ps} {bytes} {place} {rest} {left} some s = at s.after refl where
    at : (after : List (ℕ × Flat T)) → s.after ≡ after → Head spelled read Fits ps bytes place rest left
    at [] e = let bad : 0 ≡ left = sym (ap length e) ∙ s.many in absurd (omega (arith, bad))
    at (x ∷ after) e =
        let high : Rising s.next (x ∷ after) 128 = subst (λ (l : List (ℕ × Flat T)). Rising s.next l 128) e s.high in
        let fit : FitPairs Fits (x ∷ after) = subst (λ (l : List (ℕ × Flat T)). FitPairs Fits l) e s.fit_after in
        let within = rising_within (suc x.0) 128 after high.1 in
        let spelling : rest ≡ pair_bytes spelled x ++ flat_map (pair_bytes spelled) after = s.back ∙ ap (flat_map (pair_bytes spelled)) e ∙ flat_map-cons (pair_bytes spelled) x after in
        record {
          scan = s;
          pair = x;
          later = after;
          is = e;
          reads = ap (read_pair read) spelling ∙ claim_again back x.0 x.1 (flat_map (pair_bytes spelled) after) (omega arith) fit.0;
        }

  -- some pair is read while one is left
  pub scan_reads : {ps : List (ℕ × Flat T)} {bytes : List ℕ} {place : ℕ} {rest : List ℕ} {left : ℕ} → 0 < left → Scan spelled Fits ps bytes place rest left → read_pair read rest ≡ None → ⊥
  scan_reads some s none = let h = scan_head some s in got_none h.reads none

  -- the pair that is read next stands past the place, at it, or before it
  pub scan_past : {ps : List (ℕ × Flat T)} {bytes : List ℕ} {place : ℕ} {rest : List ℕ} {left : ℕ} → 0 < left → Scan spelled Fits ps bytes place rest left
      → (at : ℕ) (item : Flat T) (behind : List ℕ) → read_pair read rest ≡ Some ((at, item), behind) → place < at → IsSpot spelled Fits ps bytes place rest None rest
  scan_past {ps} {bytes} {place} {rest} {left} some s at item behind e lt =
      let h = scan_head some s in
      let pair : h.pair ≡ (at, item) = (got_both h.reads e).0 in
      let high : Rising h.scan.next (h.pair ∷ h.later) 128 = subst (λ (l : List (ℕ × Flat T)). Rising h.scan.next l 128) h.is h.scan.high in
      let here : h.pair.0 ≡ at = ap (λ (p : ℕ × Flat T). p.0) pair in
      record {
        before = h.scan.before;
        after = h.pair ∷ h.later;
        parts = h.scan.parts ∙ ap (λ (l : List (ℕ × Flat T)). h.scan.before ++ l) h.is;
        front = h.scan.front;
        back = h.scan.back ∙ ap (flat_map (pair_bytes spelled)) h.is;
        rest = h.scan.back ∙ ap (flat_map (pair_bytes spelled)) h.is;
        low = rising_wider 0 h.scan.next place h.scan.before h.scan.not_past h.scan.low;
        high = (omega arith, high.1);
        fit_before = h.scan.fit_before;
        fit_after = subst (λ (l : List (ℕ × Flat T)). FitPairs Fits l) h.is h.scan.fit_after;
      }

  pub scan_here : {ps : List (ℕ × Flat T)} {bytes : List ℕ} {place : ℕ} {rest : List ℕ} {left : ℕ} → 0 < left → Scan spelled Fits ps bytes place rest left
      → (at : ℕ) (item : Flat T) (behind : List ℕ) → read_pair read rest ≡ Some ((at, item), behind) → at ≡ place → IsSpot spelled Fits ps bytes place rest (Some item) behind
  scan_here {ps} {bytes} {place} {rest} {left} some s at item behind e same =
      let h = scan_head some s in
      let both = got_both h.reads e in
      let pair : h.pair ≡ (place, item) = both.0 ∙ ap (λ (n : ℕ). (n, item)) same in
      let back_is : behind ≡ flat_map (pair_bytes spelled) h.later = sym both.1 in
      let high : Rising h.scan.next (h.pair ∷ h.later) 128 = subst (λ (l : List (ℕ × Flat T)). Rising h.scan.next l 128) h.is h.scan.high in
      let fit : FitPairs Fits (h.pair ∷ h.later) = subst (λ (l : List (ℕ × Flat T)). FitPairs Fits l) h.is h.scan.fit_after in
      let all : h.scan.after ≡ (place, item) ∷ h.later = h.is ∙ ap (λ (p : ℕ × Flat T). p ∷ h.later) pair in
      record {
        before = h.scan.before;
        after = h.later;
        parts = h.scan.parts ∙ ap (λ (l : List (ℕ × Flat T)). h.scan.before ++ l) all;
        front = h.scan.front;
        back = back_is;
        rest = h.scan.back ∙ ap (flat_map (pair_bytes spelled)) all;
        low = rising_wider 0 h.scan.next place h.scan.before h.scan.not_past h.scan.low;
        high = subst (λ (n : ℕ). Rising (suc n) h.later 128) (ap (λ (p : ℕ × Flat T). p.0) pair) high.1;
        fit_before = h.scan.fit_before;
        fit_after = fit.1;
      }

  pub scan_next : {ps : List (ℕ × Flat T)} {bytes : List ℕ} {place : ℕ} {rest : List ℕ} {left : ℕ} → 0 < left → Scan spelled Fits ps bytes place rest left
      → (at : ℕ) (item : Flat T) (behind : List ℕ) → read_pair read rest ≡ Some ((at, item), behind) → at < place → Scan spelled Fits ps bytes place behind (left - 1)
  scan_next {ps} {bytes} {place} {rest} {left} some s at item behind e lt =
      let h = scan_head some s in
      let both = got_both h.reads e in
      let pair : h.pair ≡ (at, item) = both.0 in
      let here : h.pair.0 ≡ at = ap (λ (p : ℕ × Flat T). p.0) pair in
      let back_is : behind ≡ flat_map (pair_bytes spelled) h.later = sym both.1 in
      let high : Rising h.scan.next (h.pair ∷ h.later) 128 = subst (λ (l : List (ℕ × Flat T)). Rising h.scan.next l 128) h.is h.scan.high in
      let fit : FitPairs Fits (h.pair ∷ h.later) = subst (λ (l : List (ℕ × Flat T)). FitPairs Fits l) h.is h.scan.fit_after in
      let many : suc (length h.later) ≡ left = sym (ap length h.is) ∙ h.scan.many in
      record {
        before = h.scan.before ++ h.pair ∷ [];
        after = h.later;
        next = suc h.pair.0;
        parts = h.scan.parts ∙ ap (λ (l : List (ℕ × Flat T)). h.scan.before ++ l) h.is ∙ sym (append_assoc h.scan.before (h.pair ∷ []) h.later);
        front = h.scan.front ∙ ap (λ (l : List ℕ). flat_map (pair_bytes spelled) h.scan.before ++ l) (h.scan.back ∙ ap (flat_map (pair_bytes spelled)) h.is ∙ flat_map-cons (pair_bytes spelled) h.pair h.later ∙ ap (λ (l : List ℕ). pair_bytes spelled h.pair ++ l) (sym back_is))
            ∙ sym (append_assoc (flat_map (pair_bytes spelled) h.scan.before) (pair_bytes spelled h.pair) behind) ∙ ap (λ (l : List ℕ). l ++ behind) (sym (flat_map_push h.scan.before h.pair));
        back = back_is;
        many = omega (arith, many);
        not_past = omega (arith, here);
        low = rising-append 0 h.scan.next (suc h.pair.0) h.scan.before (h.pair ∷ []) h.scan.low (high.0, omega arith);
        high = high.1;
        fit_before = fit-append Fits h.scan.before (h.pair ∷ []) h.scan.fit_before (fit.0, tt);
        fit_after = fit.1;
      }
    where
      flat_map_push : (es : List (ℕ × Flat T)) (e : ℕ × Flat T) → flat_map (pair_bytes spelled) (es ++ e ∷ []) ≡ flat_map (pair_bytes spelled) es ++ pair_bytes spelled e
      flat_map_push es e = flat_map-append (pair_bytes spelled) es (e ∷ []) ∙ ap (λ (l : List ℕ). flat_map (pair_bytes spelled) es ++ l) (flat_map-cons (pair_bytes spelled) e [] ∙ append-nil (pair_bytes spelled e))

  -- the same by the place that was read and the rest
  skipped_none : {o : Option ((ℕ × Flat T) × List ℕ)} {pair : ℕ × Flat T} {later : List ℕ} → o ≡ got pair later → place_and_rest o ≡ None → ⊥
  skipped_none {o} {pair} {later} e none = let bad : got pair.0 later ≡ None = sym (ap place_and_rest e) ∙ none in cc

  pub skip_reads : {ps : List (ℕ × Flat T)} {bytes : List ℕ} {place : ℕ} {rest : List ℕ} {left : ℕ} → 0 < left → Scan spelled Fits ps bytes place rest left → place_and_rest (read_pair read rest) ≡ None → ⊥
  skip_reads some s none = skipped_none (scan_head some s).reads none

  module _ {ps : List (ℕ × Flat T)} {bytes : List ℕ} {place : ℕ} {rest : List ℕ} {left : ℕ} (some : 0 < left) (s : Scan spelled Fits ps bytes place rest left)
      (at : ℕ) (behind : List ℕ) (e : place_and_rest (read_pair read rest) ≡ Some (at, behind)) where
    both : (let h = scan_head some s in (h.pair.0 ≡ at) × (flat_map (pair_bytes spelled) h.later ≡ behind))
    both = let h = scan_head some s in got_both (ap place_and_rest h.reads) e

    pub skip_past : place < at → IsSpot spelled Fits ps bytes place rest None rest
    skip_past lt = let h = scan_head some s in scan_past some s h.pair.0 h.pair.1 (flat_map (pair_bytes spelled) h.later) h.reads (omega (arith, both.0))

    pub skip_next : at < place → Scan spelled Fits ps bytes place behind (left - 1)
    skip_next lt =
        let h = scan_head some s in
        subst (λ (l : List ℕ). Scan spelled Fits ps bytes place l (left - 1)) both.1 (scan_next some s h.pair.0 h.pair.1 (flat_map (pair_bytes spelled) h.later) h.reads (omega (arith, both.0)))

    pub skip_here : at ≡ place → (from : List ℕ) (found : Option (Flat T)) (after : List ℕ) → from ≡ rest → found ≡ item_of (read_pair read rest)
        → ((pair : ℕ × Flat T) (behind : List ℕ) → read_pair read rest ≡ Some (pair, behind) → after ≡ behind) → IsSpot spelled Fits ps bytes place from found after
    skip_here same from found after f i b =
        let h = scan_head some s in
        let item : found ≡ Some h.pair.1 = i ∙ ap item_of h.reads in
        let end : after ≡ flat_map (pair_bytes spelled) h.later = b h.pair (flat_map (pair_bytes spelled) h.later) h.reads in
        rw (f, item, end) (scan_here some s h.pair.0 h.pair.1 (flat_map (pair_bytes spelled) h.later) h.reads (both.0 ∙ same))
