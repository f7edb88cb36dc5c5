-- One more claim among pairs whose places rise.
use Rattle.std.proofs.Common.{◌≡◌, ℕ, suc, ◌+◌, ◌-◌, ◌<◌, ◌≤◌, Bool, true, false, cond, List, [], ◌∷◌, ◌++◌, length, take, Option, Some, None, refl, sym, ap, ◌∙◌, append_assoc, arith}
use Rattle.std.specs.BTreeMap.{is_at}
use Rattle.std.specs.Ordering.{nat_cmp}
use Rattle.std.specs.List.{flat_map}
use Rattle.std.proofs.lemmas.Grind.{flat_map-append}
use Rattle.std.proofs.lemmas.List.Concat.{flat_map-cons}
use Rattle.log_pieces.specs.declared.flat.Flat.{Flat}
use Rattle.log_pieces.specs.Flat.{flat_joined}
use Rattle.log_pieces.specs.Keyed.{value_at, option_joined}
use Rattle.log_pieces.specs.PackedClaim.{Reads, ReadsBack, claim_bytes, pair_bytes, read_pairs, Rising, FitsFlat, Spelled, found_at, IsSpot}
use Rattle.log_pieces.specs.Pages.{AreJoined}
use Rattle.log_pieces.proofs.Pages.{rising_within, rising-append, fit-append, read_spelled}

pub at_key : (x y : ℕ) → is_at (nat_cmp x) y ≡ true → x ≡ y
at_key x y h = grind arith

pub same_key : (x : ℕ) → is_at (nat_cmp x) x ≡ true
same_key x = grind arith

pub below_key : (x y : ℕ) → x < y → is_at (nat_cmp x) y ≡ false
below_key x y l = grind arith

pub above_key : (x y : ℕ) → y < x → is_at (nat_cmp x) y ≡ false
above_key x y l = grind arith

module _ {X : Type 0} where
  -- nothing stands below the first key, or at the end
  pub none_below : (low high : ℕ) (es : List (ℕ × X)) (q : ℕ) → Rising low es high → q < low → value_at nat_cmp es q ≡ None
  none_below low high [] q h lt = refl
  none_below low high (e ∷ es) q h lt = rw (below_key q e.0 (omega (arith, h.0)), none_below (suc e.0) high es q h.1 (omega (arith, h.0))) refl

  pub none_above : (low high : ℕ) (es : List (ℕ × X)) (q : ℕ) → Rising low es high → high ≤ q → value_at nat_cmp es q ≡ None
  none_above low high [] q h le = refl
  none_above low high (e ∷ es) q h le =
      let r = rising_within (suc e.0) high es h.1 in
      rw (above_key q e.0 (omega arith), none_above (suc e.0) high es q h.1 le) refl

  -- behind what has nothing at a key
  pub behind_none : (es fs : List (ℕ × X)) (q : ℕ) → value_at nat_cmp es q ≡ None → value_at nat_cmp (es ++ fs) q ≡ value_at nat_cmp fs q
  behind_none [] fs q h = refl
  behind_none (e ∷ es) fs q h = at (behind_none es fs q) (is_at (nat_cmp q) e.0) h where
    at : (value_at nat_cmp es q ≡ None → value_at nat_cmp (es ++ fs) q ≡ value_at nat_cmp fs q) → (t : Bool)
        → cond t (Some e.1) (value_at nat_cmp es q) ≡ None → cond t (Some e.1) (value_at nat_cmp (es ++ fs) q) ≡ value_at nat_cmp fs q
    at ih true h = absurd cc
    at ih false h = ih h

  -- a pair makes no difference at another key
  pub passed_over : (es fs : List (ℕ × X)) (k : ℕ) (x : X) (q : ℕ) → is_at (nat_cmp q) k ≡ false → value_at nat_cmp (es ++ (k, x) ∷ fs) q ≡ value_at nat_cmp (es ++ fs) q
  passed_over [] fs k x q h = rw h refl
  passed_over (e ∷ es) fs k x q h = ap (λ (o : Option X). cond (is_at (nat_cmp q) e.0) (Some e.1) o) (passed_over es fs k x q h)

  pub rising_length : (low high : ℕ) (es : List (ℕ × X)) → Rising low es high → low + length es ≤ high
  rising_length low high [] h = omega (arith, h)
  rising_length low high (e ∷ es) h = let r = rising_length (suc e.0) high es h.1 in omega (arith, h.0)

-- what is claimed at a place, between pairs before and behind
module _ {T : Type 0} (eq : T → T → Bool) where
  joined_nothing : (a : Option (Flat T)) → option_joined (flat_joined eq) a None ≡ a
  joined_nothing None = refl
  joined_nothing (Some x) = refl

  pub at_place : (before after : List (ℕ × Flat T)) (place high : ℕ) (found : Option (Flat T)) → Rising 0 before place → Rising (suc place) after high
      → value_at nat_cmp (before ++ found_at place found after) place ≡ found
  at_place before after place high None low above =
      behind_none before after place (none_above 0 place before place low (omega arith)) ∙ none_below (suc place) high after place above (omega arith)
  at_place before after place high (Some x) low above =
      behind_none before ((place, x) ∷ after) place (none_above 0 place before place low (omega arith)) ∙ rw (same_key place) refl

  elsewhere : (before after : List (ℕ × Flat T)) (place : ℕ) (found : Option (Flat T)) (y : Flat T) (q : ℕ) → is_at (nat_cmp q) place ≡ false
      → value_at nat_cmp (before ++ (place, y) ∷ after) q ≡ value_at nat_cmp (before ++ found_at place found after) q
  elsewhere before after place None y q h = passed_over before after place y q h
  elsewhere before after place (Some x) y q h = passed_over before after place y q h ∙ sym (passed_over before after place x q h)

  pub one_joined : (before after : List (ℕ × Flat T)) (place high : ℕ) (found : Option (Flat T)) (y claim : Flat T) → Rising 0 before place → Rising (suc place) after high
      → Some y ≡ option_joined (flat_joined eq) found (Some claim)
      → AreJoined eq (before ++ found_at place found after) ((place, claim) ∷ []) (before ++ (place, y) ∷ after)
  one_joined before after place high found y claim low above join q = at (is_at (nat_cmp q) place) refl where
    at : (t : Bool) → is_at (nat_cmp q) place ≡ t
        → value_at nat_cmp (before ++ (place, y) ∷ after) q ≡ option_joined (flat_joined eq) (value_at nat_cmp (before ++ found_at place found after) q) (cond (is_at (nat_cmp q) place) (Some claim) None)
    at true h =
        let here : q ≡ place = at_key q place h in
        let old : value_at nat_cmp (before ++ found_at place found after) q ≡ found = ap (value_at nat_cmp (before ++ found_at place found after)) here ∙ at_place before after place high found low above in
        let new : value_at nat_cmp (before ++ (place, y) ∷ after) q ≡ Some y = ap (value_at nat_cmp (before ++ (place, y) ∷ after)) here ∙ at_place before after place high (Some y) low above in
        rw (h, old, new) join
    at false h = rw (h, joined_nothing) (elsewhere before after place found y q h)

-- the bytes with a claim put in, or changed
take_front : (xs ys : List ℕ) → take (length xs) (xs ++ ys) ≡ xs
take_front [] ys = refl
take_front (x ∷ xs) ys = ap (λ (l : List ℕ). x ∷ l) (take_front xs ys)

length-append_cons : {X : Type 0} (es fs : List X) (e : X) → length (es ++ e ∷ fs) ≡ length es + 1 + length fs
length-append_cons [] fs e = omega arith
length-append_cons (x ∷ es) fs e = let r = length-append_cons es fs e in omega arith

pub length-append_is : {X : Type 0} (es fs : List X) → length (es ++ fs) ≡ length es + length fs
length-append_is [] fs = omega arith
length-append_is (x ∷ es) fs = let r = length-append_is es fs in omega arith

-- what is spelled once a claim was put at a place
pub record Changed {T : Type 0} (spelled : T → List ℕ) (read : Reads T) (Fits : T → Type 0) (before after : List (ℕ × Flat T)) (place : ℕ) (y : Flat T) (count : ℕ) (new : List ℕ) : Type 0 where
  pub pairs : read_pairs read count new ≡ before ++ (place, y) ∷ after
  pub page : Spelled spelled Fits count new (read_pairs read count new)

module _ {T : Type 0} {spelled : T → List ℕ} {read : Reads T} {Fits : T → Type 0} (back : ReadsBack spelled read Fits) {ps : List (ℕ × Flat T)} {bytes from behind : List ℕ} {found : Option (Flat T)} {place : ℕ}
    (s : IsSpot spelled Fits ps bytes place from found behind) (within : place < 128) where
  pub changed : (y : Flat T) → FitsFlat Fits y → (count : ℕ) (front new : List ℕ) → front ≡ take (length bytes - length from) bytes
      → new ≡ front ++ claim_bytes spelled place y ++ behind → length s.before + 1 + length s.after ≡ count
      → Changed spelled read Fits s.before s.after place y count new
  changed y fit count front new cut parts many = record { pairs = read_spelled back all; page = rw (read_spelled back all) all } where
    so_long : length bytes - length from ≡ length (flat_map (pair_bytes spelled) s.before)
    so_long = let l = ap length s.front ∙ length-append_is (flat_map (pair_bytes spelled) s.before) from in omega arith

    front_is : front ≡ flat_map (pair_bytes spelled) s.before
    front_is = cut ∙ ap (λ (n : ℕ). take n bytes) so_long ∙ ap (take (length (flat_map (pair_bytes spelled) s.before))) s.front ∙ take_front (flat_map (pair_bytes spelled) s.before) from

    all : Spelled spelled Fits count new (s.before ++ (place, y) ∷ s.after)
    all = record {
      parts = parts ∙ ap (λ (l : List ℕ). l ++ claim_bytes spelled place y ++ behind) front_is
          ∙ append_assoc (flat_map (pair_bytes spelled) s.before) (claim_bytes spelled place y) behind
          ∙ ap (λ (l : List ℕ). flat_map (pair_bytes spelled) s.before ++ l) (ap (λ (l : List ℕ). claim_bytes spelled place y ++ l) s.back ∙ sym (flat_map-cons (pair_bytes spelled) (place, y) s.after))
          ∙ sym (flat_map-append (pair_bytes spelled) s.before ((place, y) ∷ s.after));
      many = length-append_cons s.before s.after (place, y) ∙ many;
      rising = rising-append 0 place 128 s.before ((place, y) ∷ s.after) s.low (omega arith, s.high);
      fits = fit-append Fits s.before ((place, y) ∷ s.after) s.fit_before (fit, s.fit_after);
    }

-- a page has at most 128 pairs
pub few_pairs : {T : Type 0} {spelled : T → List ℕ} {Fits : T → Type 0} {count : ℕ} {bytes : List ℕ} {ps : List (ℕ × Flat T)} → Spelled spelled Fits count bytes ps → count ≤ 128
few_pairs {ps = ps} s = let r = rising_length 0 128 ps s.rising in omega (arith, s.many)

module _ {T : Type 0} {spelled : T → List ℕ} {Fits : T → Type 0} {ps : List (ℕ × Flat T)} {bytes from behind : List ℕ} {found : Option (Flat T)} {place : ℕ} (s : IsSpot spelled Fits ps bytes place from found behind) where
  parts_with : (o : Option (Flat T)) → found ≡ o → ps ≡ s.before ++ found_at place o s.after
  parts_with o e = s.parts ∙ ap (λ (f : Option (Flat T)). s.before ++ found_at place f s.after) e

  -- how many pairs there are where nothing was found, and where something was
  pub more_pairs : found ≡ None → (count : ℕ) → length ps ≡ count → length s.before + 1 + length s.after ≡ count + 1
  more_pairs e count many = let l = ap length (parts_with None e) ∙ length-append_is s.before s.after in omega arith

  pub same_pairs : (x : Flat T) → found ≡ Some x → (count : ℕ) → length ps ≡ count → length s.before + 1 + length s.after ≡ count
  same_pairs x e count many = let l = ap length (parts_with (Some x) e) ∙ length-append_cons s.before s.after (place, x) in omega arith

  -- the claims are joined with one more
  pub changed_joined : (eq : T → T → Bool) {read : Reads T} {y : Flat T} {count : ℕ} {new : List ℕ} → Changed spelled read Fits s.before s.after place y count new → (claim : Flat T)
      → Some y ≡ option_joined (flat_joined eq) found (Some claim) → AreJoined eq ps ((place, claim) ∷ []) (read_pairs read count new)
  changed_joined eq c claim join = rw (s.parts, c.pairs) (one_joined eq s.before s.after place 128 found _ claim s.low s.high join)

  -- a claim that is there already changes nothing
  pub unchanged_joined : (eq : T → T → Bool) (x : Flat T) → found ≡ Some x → (claim : Flat T) → x ≡ flat_joined eq x claim → AreJoined eq ps ((place, claim) ∷ []) ps
  unchanged_joined eq x e claim join = rw (parts_with (Some x) e) (one_joined eq s.before s.after place 128 (Some x) x claim s.low s.high (ap (λ (z : Flat T). Some z) join))
