-- Lists of replays that are kept.
use Rattle.std.proofs.Common.{◌≡◌, ℕ, ◌+◌, Bool, true, false, cond, List, [], ◌∷◌, ◌++◌, take, drop, Option, Some, sym, subst}
use Rattle.std.specs.List.{All}
use Rattle.std.specs.Option.{option_to_list}
use Rattle.std.proofs.lemmas.List.Elements.{All-push, All-pop, All-append, All-take, All-drop}
use Rattle.std.proofs.Math.Logic.{∥∥₁_map}

module _ {K : Type 0} (Of : K → Type 0) where
  pub all_pushed : (ks new : List K) (k : K) (b : Bool) → new ≡ cond b (ks ++ (k ∷ [])) ks → ∥ All Of ks ∥₁ → Of k → ∥ All Of new ∥₁
  all_pushed ks new k true is h of = ∥∥₁_map h (λ all. subst (All Of) (sym is) (All-push Of ks k all of))
  all_pushed ks new k false is h of = subst (λ xs. ∥ All Of xs ∥₁) (sym is) h

  pub all_without : (ks new : List K) (i : ℕ) → new ≡ take i ks ++ drop (i + 1) ks → ∥ All Of ks ∥₁ → ∥ All Of new ∥₁
  all_without ks new i is h = ∥∥₁_map h (λ all. subst (All Of) (sym is) (All-append Of (take i ks) (drop (i + 1) ks) (All-take Of i ks all) (All-drop Of (i + 1) ks all)))

  pub all_left : (ks new : List K) (r : Option K) → ks ≡ new ++ option_to_list r → ∥ All Of ks ∥₁ → ∥ All Of new ∥₁
  all_left ks new r is h = ∥∥₁_map h (λ all. (All-pop Of ks new r is all).0)

  pub of_last : (ks new : List K) (k : K) → ks ≡ new ++ (k ∷ []) → All Of ks → Of k
  of_last ks new k is all = (All-pop Of ks new (Some k) is all).1
