-- The ghost side of each step. Assumes `Logic`.
use Rattle.std.proofs.Common.{◌≡◌, ℕ, ◌+◌, List, [], ◌∷◌, ◌++◌, map, refl, sym, ap, arith}
use mathlib.Core.List.{IsPrefix, cons≢nil}
use seplogic.Ra.Ura.{Ura}
use base.Fraction.{full_share, left, right}
use base.Share.{halves}
use base.Stored.{Gv, Coded}
use base.Logic.{SProp, ent, sep, ex, guard, emp, wand, via, apply∗}
use base.Fml.{Lft, Share, Fml, fbor, fshr_bor}
use base.Growing.{numbers}
use ghost.Rules.{Halves}
use types.Logic.{Logic, sem, lfts}
use types.Owned.{basic}
use types.Growing.{latest_new, latest_grows, latest_shows, latest_bounds, latest_agrees, latest_cut, latest_glue, at_least_dup}
use types.Kit.{‵, raw, ◌⊛◌, some, given, later, ◌$◌, ◌∵◌, !, qed, by, move, keep, drop, split, join, learn, check, pick, show, frame, suffices, done, use0, use1, use2, updating, await, now}
use types.Tokens.{bor_fracture}
use denote.Sharing.{said, one}
use denote.Struct.Lending.{Lends}
use Rattle.shared_parts.specs.Owned.{lists, share_of_list, past_owns, share_of_number}

module _ {E : Type 0} (cv : Coded E) where
  abbrev head : Gv → List Gv → Gv
  head d [] = d
  head d (g ∷ gs) = g

  abbrev tail : List Gv → List Gv
  tail [] = []
  tail (g ∷ gs) = gs

  uncoded : (xs ys : List E) (t : List Gv) → map cv.code xs ++ t ≡ map cv.code ys → IsPrefix xs ys
  uncoded [] ys t e = (ys, refl)
  uncoded (x ∷ xs) [] t e = absurd (cons≢nil e)
  uncoded (x ∷ xs) (y ∷ ys) t e = let r = uncoded xs ys t (ap tail e) in (r.0, λ i. cv.inj x y (ap (head (cv.code x)) e) i ∷ r.1 i)

  prefix_out : (xs ys : List E) → IsPrefix (map cv.code xs) (map cv.code ys) → IsPrefix xs ys
  prefix_out xs ys p = uncoded xs ys p.0 p.1

  joined_codes : (xs t : List E) → map cv.code xs ++ map cv.code t ≡ map cv.code (xs ++ t)
  joined_codes [] t = refl
  joined_codes (x ∷ xs) t = ap (λ (gs : List Gv). cv.code x ∷ gs) (joined_codes xs t)

  prefix_in : (xs t : List E) → IsPrefix (map cv.code xs) (map cv.code (xs ++ t))
  prefix_in xs t = (map cv.code t, joined_codes xs t)

module _ {M : Type 1} {𝓤 : Ura M} (𝓛 : Logic 𝓤) where
  open 𝓛 use {H, A}

  abbrev Pr : Type 2
  Pr = SProp 𝓤

  abbrev ◌⊢◌ : Pr → Pr → Type 1
  P ⊢ Q = ent 𝓤 P Q

  abbrev ◌∗◌ : Pr → Pr → Pr
  P ∗ Q = sep 𝓤 P Q

  abbrev ⟦◌⟧ : Fml → Pr
  ⟦ P ⟧ = sem 𝓛 P

  infix 26 ◌⊢◌
  infixr 35 ◌∗◌
  -- a borrow of one share of a family becomes the family's shares
  pub lends_shares : (Φ : Share → Fml) (s : Share) (l : Lft) → Lends 𝓛 (Φ s) (one Φ) l
  lends_shares Φ s l κ ts inc sp = qed 𝓛 (‵ (fbor κ (Φ s)) ∷ raw (lfts 𝓛 ts) ∷ []) {P = H.⇛ (sep 𝓤 (sem 𝓛 (fshr_bor κ Φ)) (lfts 𝓛 ts))} (updating ! $ bor_fracture ! tt Φ s $ now ! $ done !)

  -- a borrow of what can be had twice gives it
  pub lends_twice : (P : Fml) → ⟦ P ⟧ ⊢ ⟦ P ⟧ ∗ ⟦ P ⟧ → (l : Lft) → Lends 𝓛 P (said P) l
  lends_twice P twice l κ ts inc sp = let Back = H.⇛ (sep 𝓤 (A.bor κ P) (lfts 𝓛 ts)) in
      qed 𝓛 (‵ (fbor κ P) ∷ raw (lfts 𝓛 ts) ∷ []) ∵ updating ! $ use2 𝓛 (later (‵ P ⊛ raw (wand 𝓤 (sem 𝓛 P) Back))) (𝓛.more.bor_acc_by κ ts P sp) $ await ! tt $ split ! $ use1 𝓛 (‵ P ⊛ ‵ P) twice $ split ! $ move ! (0 ∷ 2 ∷ []) $
      use2 𝓛 (later (‵ (fbor κ P) ⊛ raw (lfts 𝓛 ts))) (apply∗ 𝓤 (sem 𝓛 P) Back) $ await ! tt $ split ! $ drop ! $ move ! (1 ∷ 0 ∷ []) $ now ! $ done !

  module _ {E : Type 0} (cv : Coded E) where
    abbrev L : ℕ → List E → Share → Fml
    L γ xs = share_of_list cv.code γ xs

    abbrev P : ℕ → List E → Fml
    P γ xs = past_owns cv.code γ xs

    pub list_halves : (γ : ℕ) (xs : List E) → Halves 𝓤 H A (L γ xs)
    unfolding share_of_list
    list_halves γ xs = record {
      cut = λ q. latest_cut lists 𝓛 q (left q) (right q) γ (map cv.code xs) (halves q);
      join = λ q. latest_glue lists 𝓛 q (left q) (right q) γ (map cv.code xs) (halves q);
    }

    pub list_new : emp 𝓤 ⊢ H.⇛ (ex 𝓤 (λ (γ : ℕ). ⟦ L γ [] full_share ⟧))
    unfolding share_of_list
    list_new = via 𝓤 _ (latest_new lists 𝓛 []) (basic 𝓛 _)

    pub list_grows : (γ : ℕ) (xs ys : List E) → ⟦ L γ xs full_share ⟧ ⊢ H.⇛ ⟦ L γ (xs ++ ys) full_share ⟧
    unfolding share_of_list
    list_grows γ xs ys = via 𝓤 _ (latest_grows lists 𝓛 γ (map cv.code xs) (map cv.code (xs ++ ys)) (prefix_in cv xs ys)) (basic 𝓛 _)

    pub list_shows : (q : Share) (γ : ℕ) (xs : List E) → ⟦ L γ xs q ⟧ ⊢ ⟦ L γ xs q ⟧ ∗ ⟦ P γ xs ⟧
    unfolding share_of_list past_owns
    list_shows q γ xs = latest_shows lists 𝓛 q γ (map cv.code xs) (map cv.code xs) (lists.same (map cv.code xs))

    pub list_bounds : (q : Share) (γ : ℕ) (xs ys : List E) → ⟦ L γ xs q ⟧ ∗ ⟦ P γ ys ⟧ ⊢ guard 𝓤 (IsPrefix ys xs) (⟦ L γ xs q ⟧ ∗ ⟦ P γ ys ⟧)
    unfolding share_of_list past_owns
    list_bounds q γ xs ys = qed 𝓛 (‵ (L γ xs q) ∷ ‵ (P γ ys) ∷ []) ∵
        use2 𝓛 (given (IsPrefix (map cv.code ys) (map cv.code xs)) (‵ (L γ xs q) ⊛ ‵ (P γ ys))) (latest_bounds lists 𝓛 q γ (map cv.code xs) (map cv.code ys)) $ learn ! (λ p. split ! $ check ! (prefix_out cv ys xs p) $ done !)

    pub past_twice : (γ : ℕ) (xs : List E) → ⟦ P γ xs ⟧ ⊢ ⟦ P γ xs ⟧ ∗ ⟦ P γ xs ⟧
    unfolding past_owns
    past_twice γ xs = at_least_dup lists 𝓛 γ (map cv.code xs)

  abbrev N : ℕ → ℕ → Share → Fml
  N γ n = share_of_number γ n

  abbrev half : Share
  half = left full_share

  pub number_halves : (γ n : ℕ) → Halves 𝓤 H A (N γ n)
  unfolding share_of_number
  number_halves γ n = record {
    cut = λ q. latest_cut numbers 𝓛 q (left q) (right q) γ n (halves q);
    join = λ q. latest_glue numbers 𝓛 q (left q) (right q) γ n (halves q);
  }

  pub number_new : emp 𝓤 ⊢ H.⇛ (ex 𝓤 (λ (γ : ℕ). ⟦ N γ 0 half ⟧ ∗ ⟦ N γ 0 half ⟧))
  unfolding share_of_number
  number_new = let F : ℕ → Pr = λ γ. ⟦ N γ 0 half ⟧ ∗ ⟦ N γ 0 half ⟧ in qed 𝓛 [] ∵ updating ! $
      use0 𝓛 (later (some (λ (γ : ℕ). ‵ (N γ 0 full_share)))) (via 𝓤 _ (latest_new numbers 𝓛 0) (basic 𝓛 _)) $ await ! tt $ pick ! (λ γ.
      use1 𝓛 (‵ (N γ 0 half) ⊛ ‵ (N γ 0 half)) (latest_cut numbers 𝓛 full_share half half γ 0 (halves full_share)) $ split ! $ now ! $ show ! F γ $ done !)

  pub numbers_agree : (q r : Share) (γ m n : ℕ) → ⟦ N γ m q ⟧ ∗ ⟦ N γ n r ⟧ ⊢ guard 𝓤 (m ≡ n) (⟦ N γ m q ⟧ ∗ ⟦ N γ n r ⟧)
  unfolding share_of_number
  numbers_agree q r γ m n = latest_agrees numbers 𝓛 q r γ m n

  pub number_grows : (γ m n k : ℕ) → ⟦ N γ m half ⟧ ∗ ⟦ N γ n half ⟧ ⊢ H.⇛ (⟦ N γ (m + k) half ⟧ ∗ ⟦ N γ (n + k) half ⟧)
  unfolding share_of_number
  number_grows γ m n k = qed 𝓛 (‵ (N γ m half) ∷ ‵ (N γ n half) ∷ []) ∵ updating ! $
      use2 𝓛 (given (m ≡ n) (‵ (N γ m half) ⊛ ‵ (N γ n half))) (latest_agrees numbers 𝓛 half half γ m n) $ learn ! (λ e. split ! $
      types.Kit.rewrite ! 1 (λ (u : ℕ). ‵ (N γ u half)) (sym e) refl $
      use2 𝓛 (‵ (N γ m full_share)) (latest_glue numbers 𝓛 full_share half half γ m (halves full_share)) $
      use1 𝓛 (later (‵ (N γ (m + k) full_share))) (via 𝓤 _ (latest_grows numbers 𝓛 γ m (m + k) (omega arith)) (basic 𝓛 _)) $ await ! tt $
      use1 𝓛 (‵ (N γ (m + k) half) ⊛ ‵ (N γ (m + k) half)) (latest_cut numbers 𝓛 full_share half half γ (m + k) (halves full_share)) $ split ! $
      types.Kit.rewrite ! 1 (λ (u : ℕ). ‵ (N γ (u + k) half)) e refl $ now ! $ done !)
