-- What stands at a place, page by page.
use Rattle.std.proofs.Common.{◌≡◌, ℕ, suc, ◌+◌, ◌*◌, ◌/◌, ◌%◌, ◌^◌, ◌<◌, ◌≤◌, Bool, true, false, cond, List, [], ◌∷◌, ◌++◌, length, Option, Some, None, refl, sym, ap, subst, ◌∙◌, arith, inl, inr}
use Rattle.std.specs.BTreeMap.{is_at}
use Rattle.std.specs.Ordering.{nat_cmp, MatchOrdering}
use Rattle.std.specs.List.{AllByRecursion}
use Rattle.std.specs.List.Sorted.{IsStrictlySortedBy}
use Rattle.std.specs.Map.{keys_of}
use Rattle.std.specs.declared.cmp.Ordering.TheVariants.{Less}
use Rattle.std.proofs.lemmas.Cmp.{ranked}
use Rattle.std.proofs.lemmas.Bool.{cases_lt}
use Rattle.std.proofs.lemmas.Map.Keys.{sorted_head, sorted_tail}
use Rattle.std.proofs.Math.Nat.{div-add-mod}
use Rattle.log_pieces.specs.declared.flat.Flat.{Flat}
use Rattle.log_pieces.specs.declared.flat.Flat.TheVariants.{Known}
use Rattle.log_pieces.specs.declared.page.Page.{Page}
use Rattle.log_pieces.specs.Flat.{flat_joined}
use Rattle.log_pieces.specs.Keyed.{value_at, option_joined}
use Rattle.log_pieces.specs.KeyedLaws.{value_at-front, value_at-rest}
use Rattle.log_pieces.specs.PackedClaim.{Reads, Rising, placed}
use Rattle.log_pieces.specs.Pages.{pairs_of, IsPage, AreJoined, ClaimsJoined}
use Rattle.log_pieces.specs.Runs.{located, claims, ArePages, AreLow}
use Rattle.log_pieces.proofs.Pages.{rising_wider, rising_lower}
use Rattle.log_pieces.proofs.OneClaim.{none_below, none_above, below_key, above_key, same_key}
use Rattle.log_pieces.proofs.Joining.{rising_placed}

less : (x y : ℕ) → nat_cmp x y ≡ Less → x < y
less x y h = let r : MatchOrdering Less (x < y) (x ≡ y) (y < x) = ranked x y Less (sym h) in r

below_less : (x y : ℕ) → x < y → nat_cmp x y ≡ Less
below_less x y lt = grind arith

key_is : (x y : ℕ) → is_at (nat_cmp x) y ≡ true → x ≡ y
key_is x y h = grind arith

-- ---- keys that rise from one on
abbrev pub RisesFrom : {X : Type 0} → ℕ → List (ℕ × X) → Type 0
RisesFrom low [] = Unit {0}
RisesFrom low (e ∷ es) = (low ≤ e.0) × RisesFrom (suc e.0) es

module _ {X : Type 0} where
  above : (n : ℕ) (es : List (ℕ × X)) → AllByRecursion (λ y. nat_cmp n y ≡ Less) (keys_of es) → IsStrictlySortedBy nat_cmp (keys_of es) → RisesFrom (suc n) es
  above n [] h s = tt
  above n (e ∷ es) h s = (let lt = less n e.0 h.0 in omega arith, above e.0 es (sorted_head nat_cmp e.0 (keys_of es) s) (sorted_tail nat_cmp e.0 (keys_of es) s))

  pub rises : (es : List (ℕ × X)) → IsStrictlySortedBy nat_cmp (keys_of es) → RisesFrom 0 es
  rises [] s = tt
  rises (e ∷ es) s = (omega arith, above e.0 es (sorted_head nat_cmp e.0 (keys_of es) s) (sorted_tail nat_cmp e.0 (keys_of es) s))

  all_above : (n low : ℕ) (es : List (ℕ × X)) → n < low → RisesFrom low es → AllByRecursion (λ y. nat_cmp n y ≡ Less) (keys_of es)
  all_above n low [] lt h = tt
  all_above n low (e ∷ es) lt h = (below_less n e.0 (omega (arith, h.0)), all_above n (suc e.0) es (omega (arith, h.0)) h.1)

  pub sorted_from_rises : (low : ℕ) (es : List (ℕ × X)) → RisesFrom low es → IsStrictlySortedBy nat_cmp (keys_of es)
  unfolding IsStrictlySortedBy
  sorted_from_rises low [] h = tt
  sorted_from_rises low (e ∷ es) h = (all_above e.0 (suc e.0) es (omega arith) h.1, sorted_from_rises (suc e.0) es h.1)

  rises_lower : (less low : ℕ) (es : List (ℕ × X)) → less ≤ low → RisesFrom low es → RisesFrom less es
  rises_lower less low [] le h = tt
  rises_lower less low (e ∷ es) le h = (omega (arith, h.0), h.1)

  pub rises_behind : (low mid : ℕ) (es fs : List (ℕ × X)) → Rising low es mid → RisesFrom mid fs → RisesFrom low (es ++ fs)
  rises_behind low mid [] fs h g = rises_lower low mid fs h g
  rises_behind low mid (e ∷ es) fs h g = (h.0, rises_behind (suc e.0) mid es fs h.1 g)

  pub none_before : (low : ℕ) (es : List (ℕ × X)) (q : ℕ) → RisesFrom low es → q < low → value_at nat_cmp es q ≡ None
  none_before low [] q h lt = refl
  none_before low (e ∷ es) q h lt = rw (below_key q e.0 (omega (arith, h.0)), none_before (suc e.0) es q h.1 (omega (arith, h.0))) refl

shift : (n x y : ℕ) → is_at (nat_cmp (n + x)) (n + y) ≡ is_at (nat_cmp x) y
shift n x y = at (is_at (nat_cmp x) y) refl where
  at : (t : Bool) → is_at (nat_cmp x) y ≡ t → is_at (nat_cmp (n + x)) (n + y) ≡ t
  at true h = let e : x ≡ y = key_is x y h in rw e (same_key (n + y))
  at false h = elim (cases_lt x y) [
    | inl lt ↦ below_key (n + x) (n + y) (omega arith)
    | inr ge ↦ elim (cases_lt y x) [
      | inl gt ↦ above_key (n + x) (n + y) (omega arith)
      | inr le ↦ absurd (let e : x ≡ y = omega arith in let s = same_key y in let bad : is_at (nat_cmp y) y ≡ false = subst (λ (k : ℕ). is_at (nat_cmp k) y ≡ false) e h in cc)
    ]
  ]

-- ---- one page
module _ {T : Type 0} where
  pub rising_located : (number low high : ℕ) (ps : List (ℕ × Flat T)) → Rising low ps high → Rising (128 * number + low) (located number ps) (128 * number + high)
  rising_located number low high [] h = omega (arith, h)
  rising_located number low high (e ∷ ps) h =
      let next : 128 * number + suc e.0 ≡ suc (128 * number + e.0) = omega arith in
      (omega (arith, h.0), subst (λ (n : ℕ). Rising n (located number ps) (128 * number + high)) next (rising_located number (suc e.0) high ps h.1))

  pub located_at : (number r : ℕ) (ps : List (ℕ × Flat T)) → value_at nat_cmp (located number ps) (128 * number + r) ≡ value_at nat_cmp ps r
  located_at number r [] = refl
  located_at number r (e ∷ ps) = rw (shift (128 * number) r e.0, located_at number r ps) refl

  pub located-placed : (number at : ℕ) (xs : List T) → located number (placed at xs) ≡ placed (128 * number + at) xs
  located-placed number at [] = refl
  located-placed number at (x ∷ xs) =
      let next : 128 * number + suc at ≡ suc (128 * number + at) = omega arith in
      ap (λ (l : List (ℕ × Flat T)). (128 * number + at, Known x) ∷ l) (located-placed number (suc at) xs ∙ ap (λ (n : ℕ). placed n xs) next)

  pub located_none : (number q : ℕ) (ps : List (ℕ × Flat T)) → Rising 0 ps 128 → (q / 128 ≡ number → ⊥) → value_at nat_cmp (located number ps) q ≡ None
  located_none number q ps h apart = elim (cases_lt q (128 * number)) [
    | inl lt ↦ none_below (128 * number + 0) (128 * number + 128) (located number ps) q (rising_located number 0 128 ps h) (omega arith)
    | inr ge ↦ elim (cases_lt q (128 * number + 128)) [
      | inl lt ↦ absurd (apart (omega arith))
      | inr past ↦ none_above (128 * number + 0) (128 * number + 128) (located number ps) q (rising_located number 0 128 ps h) past
    ]
  ]

-- ---- all pages
-- what a page has at a place in it
abbrev pub in_page : {T : Type 0} → Reads T → Option Page → ℕ → Option (Flat T)
in_page read None r = None
in_page read (Some page) r = value_at nat_cmp (pairs_of read page) r

-- the pairs of each page rise below 128
abbrev AllRise : {T : Type 0} → Reads T → List (ℕ × Page) → Type 0
AllRise read [] = Unit {0}
AllRise read (e ∷ pages) = Rising 0 (pairs_of read e.1) 128 × AllRise read pages

module _ {T : Type 0} (spelled : T → List ℕ) (read : Reads T) (Fits : T → Type 0) where
  all_rise_from : (low : ℕ) (pages : List (ℕ × Page)) → RisesFrom low pages → ((number : ℕ) (page : Page) → value_at nat_cmp pages number ≡ Some page → IsPage spelled read Fits page) → AllRise read pages
  all_rise_from low [] h p = tt
  all_rise_from low (e ∷ pages) h p = (
    (p e.0 e.1 (rw (same_key e.0) refl)).rising,
    all_rise_from (suc e.0) pages h.1 (λ number page found. p number page (elim (cases_lt number (suc e.0)) [
      | inl lt ↦ absurd (let none = none_before (suc e.0) pages number h.1 lt in let bad : Some page ≡ None = sym found ∙ none in cc)
      | inr ge ↦ rw (above_key number e.0 (omega arith)) found
    ])),
  )

module _ {T : Type 0} {spelled : T → List ℕ} {read : Reads T} {Fits : T → Type 0} where
  pub all_rise : (pages : List (ℕ × Page)) → ArePages spelled read Fits pages → AllRise read pages
  all_rise pages a = all_rise_from spelled read Fits 0 pages (rises pages a.ordered) a.each

all_low_from : (low : ℕ) (pages : List (ℕ × Page)) → RisesFrom low pages → ((number : ℕ) (page : Page) → value_at nat_cmp pages number ≡ Some page → number < 2 ^ 25) → AreLow pages
all_low_from low [] h p = tt
all_low_from low (e ∷ pages) h p = (
  p e.0 e.1 (rw (same_key e.0) refl),
  all_low_from (suc e.0) pages h.1 (λ number page found. p number page (elim (cases_lt number (suc e.0)) [
    | inl lt ↦ absurd (let none = none_before (suc e.0) pages number h.1 lt in let bad : Some page ≡ None = sym found ∙ none in cc)
    | inr ge ↦ rw (above_key number e.0 (omega arith)) found
  ])),
)

-- the pages' places have 32 bits
pub all_low : {T : Type 0} {spelled : T → List ℕ} {read : Reads T} {Fits : T → Type 0} (pages : List (ℕ × Page)) → ArePages spelled read Fits pages → AreLow pages
all_low pages a = all_low_from 0 pages (rises pages a.ordered) a.low

module _ {T : Type 0} (read : Reads T) where
  pub claims_rise : (low : ℕ) (pages : List (ℕ × Page)) → RisesFrom low pages → AllRise read pages → RisesFrom (128 * low) (claims read pages)
  claims_rise low [] h a = tt
  claims_rise low (e ∷ pages) h a =
      let first = rising_located e.0 0 128 (pairs_of read e.1) a.0 in
      let end : 128 * e.0 + 128 ≡ 128 * suc e.0 = omega arith in
      rises_behind (128 * low) (128 * suc e.0) (located e.0 (pairs_of read e.1)) (claims read pages)
      (rising_lower (128 * low) (128 * e.0 + 0) (128 * suc e.0) (located e.0 (pairs_of read e.1)) (omega (arith, h.0)) (subst (λ (n : ℕ). Rising (128 * e.0 + 0) (located e.0 (pairs_of read e.1)) n) end first))
      (claims_rise (suc e.0) pages h.1 a.1)

  claims_at_from : (low : ℕ) (pages : List (ℕ × Page)) (q : ℕ) → RisesFrom low pages → AllRise read pages → value_at nat_cmp (claims read pages) q ≡ in_page read (value_at nat_cmp pages (q / 128)) (q % 128)
  claims_at_from low [] q h a = refl
  claims_at_from low (e ∷ pages) q h a = at (claims_at_from (suc e.0) pages q h.1 a.1) (is_at (nat_cmp (q / 128)) e.0) refl where
    ps : List (ℕ × Flat T)
    ps = pairs_of read e.1

    at : value_at nat_cmp (claims read pages) q ≡ in_page read (value_at nat_cmp pages (q / 128)) (q % 128) → (t : Bool) → is_at (nat_cmp (q / 128)) e.0 ≡ t
        → value_at nat_cmp (located e.0 ps ++ claims read pages) q ≡ in_page read (cond t (Some e.1) (value_at nat_cmp pages (q / 128))) (q % 128)
    at later true i =
        let here : q / 128 ≡ e.0 = key_is (q / 128) e.0 i in
        let whole : 128 * e.0 + q % 128 ≡ q = ap (λ (n : ℕ). 128 * n + q % 128) (sym here) ∙ div-add-mod q 128 in
        let found : value_at nat_cmp (located e.0 ps) q ≡ value_at nat_cmp ps (q % 128) = ap (value_at nat_cmp (located e.0 ps)) (sym whole) ∙ located_at e.0 (q % 128) ps in
        by (value_at nat_cmp ps (q % 128)) found (none_before (128 * suc e.0) (claims read pages) q (claims_rise (suc e.0) pages h.1 a.1) (omega (arith, whole)))
      where
        by : (o : Option (Flat T)) → value_at nat_cmp (located e.0 ps) q ≡ o → value_at nat_cmp (claims read pages) q ≡ None → value_at nat_cmp (located e.0 ps ++ claims read pages) q ≡ o
        by None f none = value_at-rest nat_cmp (located e.0 ps) (claims read pages) q f ∙ none
        by (Some x) f none = value_at-front nat_cmp (located e.0 ps) (claims read pages) q x f
    at later false i =
        let apart : q / 128 ≡ e.0 → ⊥ = λ same. let s = same_key e.0 in let bad : is_at (nat_cmp e.0) e.0 ≡ false = subst (λ (k : ℕ). is_at (nat_cmp k) e.0 ≡ false) same i in cc in
        value_at-rest nat_cmp (located e.0 ps) (claims read pages) q (located_none e.0 q ps a.0 apart) ∙ later

module _ {T : Type 0} {spelled : T → List ℕ} {read : Reads T} {Fits : T → Type 0} where
  -- what is claimed of a place is what its page has there
  pub claims_at : (pages : List (ℕ × Page)) → ArePages spelled read Fits pages → (q : ℕ) → value_at nat_cmp (claims read pages) q ≡ in_page read (value_at nat_cmp pages (q / 128)) (q % 128)
  claims_at pages a q = claims_at_from read 0 pages q (rises pages a.ordered) (all_rise pages a)

  pub claims_ordered : (pages : List (ℕ × Page)) → ArePages spelled read Fits pages → IsStrictlySortedBy nat_cmp (keys_of (claims read pages))
  claims_ordered pages a = sorted_from_rises 0 (claims read pages) (claims_rise read 0 pages (rises pages a.ordered) (all_rise pages a))

  -- claims joined to one page alone
  pub page_joined : (eq : T → T → Bool) (old new : List (ℕ × Page)) → ArePages spelled read Fits old → ArePages spelled read Fits new → (number : ℕ) (more : List (ℕ × Flat T)) → Rising 0 more 128
      → ((n : ℕ) → (n ≡ number → ⊥) → value_at nat_cmp new n ≡ value_at nat_cmp old n)
      → ((r : ℕ) → in_page read (value_at nat_cmp new number) r ≡ option_joined (flat_joined eq) (in_page read (value_at nat_cmp old number) r) (value_at nat_cmp more r))
      → AreJoined eq (claims read old) (located number more) (claims read new)
  page_joined eq old new a b number more rising others here q = rw (claims_at old a q, claims_at new b q) (by (is_at (nat_cmp (q / 128)) number) refl) where
    by : (t : Bool) → is_at (nat_cmp (q / 128)) number ≡ t
        → in_page read (value_at nat_cmp new (q / 128)) (q % 128) ≡ option_joined (flat_joined eq) (in_page read (value_at nat_cmp old (q / 128)) (q % 128)) (value_at nat_cmp (located number more) q)
    by true i =
        let same : q / 128 ≡ number = key_is (q / 128) number i in
        let whole : 128 * number + q % 128 ≡ q = ap (λ (n : ℕ). 128 * n + q % 128) (sym same) ∙ div-add-mod q 128 in
        let found : value_at nat_cmp (located number more) q ≡ value_at nat_cmp more (q % 128) = ap (value_at nat_cmp (located number more)) (sym whole) ∙ located_at number (q % 128) more in
        rw (same, found) (here (q % 128))
    by false i =
        let apart : q / 128 ≡ number → ⊥ = λ same. let s = same_key number in let bad : is_at (nat_cmp number) number ≡ false = subst (λ (k : ℕ). is_at (nat_cmp k) number ≡ false) same i in cc in
        rw (others (q / 128) apart, located_none number q more rising apart) (sym (nothing (in_page read (value_at nat_cmp old (q / 128)) (q % 128))))
      where
        nothing : (o : Option (Flat T)) → option_joined (flat_joined eq) o None ≡ o
        nothing None = refl
        nothing (Some x) = refl

  -- one page written
  module _ (old new : List (ℕ × Page)) (a : ArePages spelled read Fits old) (ordered : IsStrictlySortedBy nat_cmp (keys_of new)) (number : ℕ) (page : Page) (good : IsPage spelled read Fits page) (few : number < 2 ^ 25)
      (written : (n : ℕ) → value_at nat_cmp new n ≡ cond (is_at (nat_cmp number) n) (Some page) (value_at nat_cmp old n)) where
    pub pages_changed : ArePages spelled read Fits new
    pages_changed = record {
      ordered = ordered;
      each = λ n p found. by n p (is_at (nat_cmp number) n) (sym (written n) ∙ found);
      low = λ n p found. still n p (is_at (nat_cmp number) n) refl (sym (written n) ∙ found);
    } where
      by : (n : ℕ) (p : Page) (t : Bool) → cond t (Some page) (value_at nat_cmp old n) ≡ Some p → IsPage spelled read Fits p
      by n p true found = let same : page ≡ p = cc in subst (λ (x : Page). IsPage spelled read Fits x) same good
      by n p false found = a.each n p found

      still : (n : ℕ) (p : Page) (t : Bool) → is_at (nat_cmp number) n ≡ t → cond t (Some page) (value_at nat_cmp old n) ≡ Some p → n < 2 ^ 25
      still n p true i found = subst (λ (k : ℕ). k < 2 ^ 25) (key_is number n i) few
      still n p false i found = a.low n p found

    pub claims_joined : (eq : T → T → Bool) (more : List (ℕ × Flat T)) → Rising 0 more 128
        → ((r : ℕ) → value_at nat_cmp (pairs_of read page) r ≡ option_joined (flat_joined eq) (in_page read (value_at nat_cmp old number) r) (value_at nat_cmp more r))
        → AreJoined eq (claims read old) (located number more) (claims read new)
    claims_joined eq more rising joined =
        page_joined eq old new a pages_changed number more rising
        (λ n apart. written n ∙ rw (differ n apart) refl)
        (λ r. rw (written number, same_key number) (joined r))
      where
        differ : (n : ℕ) → (n ≡ number → ⊥) → is_at (nat_cmp number) n ≡ false
        differ n apart = elim (cases_lt number n) [
          | inl lt ↦ below_key number n lt
          | inr ge ↦ elim (cases_lt n number) [
            | inl lt ↦ above_key number n lt
            | inr le ↦ absurd (apart (omega arith))
          ]
        ]

    pub stretch_joined : (eq : T → T → Bool) (at : ℕ) (items : List T) → at + length items ≤ 128
        → ((r : ℕ) → value_at nat_cmp (pairs_of read page) r ≡ option_joined (flat_joined eq) (in_page read (value_at nat_cmp old number) r) (value_at nat_cmp (placed at items) r))
        → ClaimsJoined eq (claims read old) (128 * number + at) items (claims read new)
    stretch_joined eq at items le joined = rw (← located-placed number at items)
        (claims_joined eq (placed at items) (rising_lower 0 at 128 (placed at items) (omega arith) (rising_wider at (at + length items) 128 (placed at items) le (rising_placed at items))) joined)
