-- A page read from one place on.
use Rattle.std.proofs.Common.{◌≡◌, ℕ, zero, suc, ◌+◌, ◌-◌, ◌<◌, ◌≤◌, List, [], ◌∷◌, Some, None, refl, sym, ap, subst, ◌∙◌, arith}
use Rattle.std.specs.Ordering.{nat_cmp}
use Rattle.log_pieces.specs.declared.flat.Flat.{Flat}
use Rattle.log_pieces.specs.declared.page.Page.{Page}
use Rattle.log_pieces.specs.Keyed.{value_at}
use Rattle.log_pieces.specs.PackedClaim.{Reads, Rising, read_pair, read_pairs}
use Rattle.log_pieces.specs.Pages.{pairs_of}
use Rattle.log_pieces.specs.Runs.{claims, ArePages, IsAhead}
use Rattle.log_pieces.proofs.OneClaim.{none_below, above_key, same_key}
use Rattle.log_pieces.proofs.Locations.{claims_at}

-- the next pair is read, or none can be
pub read_next : {T : Type 0} (read : Reads T) (left : ℕ) (rest : List ℕ) (pair : ℕ × Flat T) (behind : List ℕ) → 0 < left → read_pair read rest ≡ Some (pair, behind) → read_pairs read left rest ≡ pair ∷ read_pairs read (left - 1) behind
read_next read zero rest pair behind some e = absurd (omega (arith, some))
read_next read (suc left) rest pair behind some e = let one : suc left - 1 ≡ left = omega arith in rw (e, one) refl

-- of `all` those from `low` on are left, and the place is not passed
pub record StillAhead {T : Type 0} (all now : List (ℕ × Flat T)) (first low at : ℕ) : Type 0 where
  pub rising : Rising low now 128
  pub later : first ≤ low
  pub not_past : low ≤ at
  pub same : (q : ℕ) → low ≤ q → value_at nat_cmp now q ≡ value_at nat_cmp all q

module _ {T : Type 0} {all now : List (ℕ × Flat T)} {first low at : ℕ} (s : StillAhead all now first low at) where
  pub nothing_left : now ≡ [] → None ≡ value_at nat_cmp all at
  nothing_left end = sym (ap (λ (l : List (ℕ × Flat T)). value_at nat_cmp l at) end) ∙ s.same at s.not_past

  module _ (pair : ℕ × Flat T) (more : List (ℕ × Flat T)) (is : now ≡ pair ∷ more) where
    rises_on : Rising low (pair ∷ more) 128
    rises_on = subst (λ (l : List (ℕ × Flat T)). Rising low l 128) is s.rising

    pub nothing_here : at < pair.0 → None ≡ value_at nat_cmp all at
    nothing_here lt =
        sym (ap (λ (l : List (ℕ × Flat T)). value_at nat_cmp l at) is ∙ none_below pair.0 128 (pair ∷ more) at (omega arith, rises_on.1) lt) ∙ s.same at s.not_past

    pub found_here : pair.0 ≡ at → Some pair.1 ≡ value_at nat_cmp all at
    found_here e =
        let here : value_at nat_cmp (pair ∷ more) at ≡ Some pair.1 = rw (← e, same_key pair.0) refl in
        sym (ap (λ (l : List (ℕ × Flat T)). value_at nat_cmp l at) is ∙ here) ∙ s.same at s.not_past

    pub rising_more : Rising (pair.0 + 1) more 128
    rising_more = let e : suc pair.0 ≡ pair.0 + 1 = omega arith in subst (λ (n : ℕ). Rising n more 128) e rises_on.1

    pub later_more : first ≤ pair.0 + 1
    later_more = let l = s.later in let r = rises_on.0 in omega arith

    pub same_more : (q : ℕ) → pair.0 + 1 ≤ q → value_at nat_cmp more q ≡ value_at nat_cmp all q
    same_more q le =
        let r = rises_on.0 in
        let past : value_at nat_cmp (pair ∷ more) q ≡ value_at nat_cmp more q = rw (above_key q pair.0 (omega arith)) refl in
        sym (ap (λ (l : List (ℕ × Flat T)). value_at nat_cmp l q) is ∙ past) ∙ s.same q (omega arith)

    pub still_ahead : pair.0 < at → StillAhead all more first (pair.0 + 1) at
    still_ahead lt = record { rising = rising_more; later = later_more; not_past = omega arith; same = same_more }

-- what a page has from its first place on
module _ {T : Type 0} {spelled : T → List ℕ} {read : Reads T} {Fits : T → Type 0} (pages : List (ℕ × Page)) (a : ArePages spelled read Fits pages) (number : ℕ) where
  pub page_from : (page : Page) → value_at nat_cmp pages number ≡ Some page → IsAhead (claims read pages) number 0 (pairs_of read page)
  page_from page found = record {
    rising = (a.each number page found).rising;
    ahead = λ place is le. claims_at pages a place ∙ rw (is, found) refl;
  }

  pub no_page_from : value_at nat_cmp pages number ≡ None → IsAhead (claims read pages) number 0 []
  no_page_from absent = record {
    rising = omega arith;
    ahead = λ place is le. claims_at pages a place ∙ rw (is, absent) refl;
  }
