-- The claims of one side joined to another, one by one.
use Rattle.std.proofs.Common.{◌≡◌, ℕ, List, [], ◌∷◌, ◌++◌, length, take, refl, ap, subst, ◌∙◌, sym, append_assoc, Bool}
use Rattle.std.specs.Ordering.{nat_cmp}
use Rattle.std.specs.List.Sorted.{IsStrictlySortedBy}
use Rattle.std.specs.Map.{keys_of}
use Rattle.std.proofs.Math.Seq.{take-append_seam}
use Rattle.std.proofs.lemmas.Cmp.{nat_cmp_total}
use Rattle.std.proofs.lemmas.List.{append-nil}
use Rattle.log_pieces.specs.declared.flat.Flat.{Flat}
use Rattle.log_pieces.specs.Pages.{AreJoined}
use Rattle.log_pieces.proofs.Joining.{none_joined, claim_more, claim_left}
use Rattle.log_pieces.proofs.Order.{absent_before}

-- of the claims `all` those before `rest` are joined
pub record ClaimsSoFar {T : Type 0} (eq : T → T → Bool) (old all rest cur : List (ℕ × Flat T)) : Type 0 where
  pub front : List (ℕ × Flat T)
  pub parts : all ≡ front ++ rest
  pub joined : AreJoined eq old front cur

pub claims_start : {T : Type 0} (eq : T → T → Bool) (old all : List (ℕ × Flat T)) → ClaimsSoFar eq old all all old
claims_start eq old all = record { front = []; parts = refl; joined = none_joined eq old }

module _ {T : Type 0} {eq : T → T → Bool} {old all rest cur : List (ℕ × Flat T)} (s : ClaimsSoFar eq old all rest cur) where
  pub claims_end : rest ≡ [] → AreJoined eq old all cur
  claims_end end = subst (λ (l : List (ℕ × Flat T)). AreJoined eq old l cur) (sym (s.parts ∙ ap (λ (l : List (ℕ × Flat T)). s.front ++ l) end ∙ append-nil s.front)) s.joined

  pub claims_next : IsStrictlySortedBy nat_cmp (keys_of all) → (e : ℕ × Flat T) (later : List (ℕ × Flat T)) → rest ≡ e ∷ later → (new : List (ℕ × Flat T)) → AreJoined eq cur (e ∷ []) new → ClaimsSoFar eq old all later new
  claims_next sorted e later next new one =
      let parts : all ≡ s.front ++ e ∷ later = s.parts ∙ ap (λ (l : List (ℕ × Flat T)). s.front ++ l) next in
      record {
        front = s.front ++ e ∷ [];
        parts = parts ∙ sym (append_assoc s.front (e ∷ []) later);
        joined = claim_more eq old s.front cur new e (absent_before nat_cmp nat_cmp_total s.front later e (subst (λ (l : List (ℕ × Flat T)). IsStrictlySortedBy nat_cmp (keys_of l)) parts sorted)) s.joined one;
      }

  pub claims_stop : (new : List (ℕ × Flat T)) → AreJoined eq cur [] new → (j : ℕ) × AreJoined eq old (take j all) new
  claims_stop new same =
      let first : take (length s.front) all ≡ s.front = ap (take (length s.front)) s.parts ∙ take-append_seam s.front rest in
      (length s.front, subst (λ (l : List (ℕ × Flat T)). AreJoined eq old l new) (sym first) (claim_left eq old s.front cur new s.joined same))
