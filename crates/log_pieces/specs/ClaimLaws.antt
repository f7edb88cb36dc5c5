-- Claims joined place by place are maps joined key by key.
use Rattle.std.proofs.Common.{◌≡◌, ℕ, zero, suc, Bool, true, false, cond, List, [], ◌∷◌, take, Option, Some, None, refl, sym, ap, subst, ◌∙◌, inl, inr, ◌⊎◌}
use Rattle.std.specs.Bool.{Decides}
use Rattle.std.specs.Cmp.{IsPartialEquivalence, IsEquivalence}
use Rattle.std.specs.BTreeMap.{is_at}
use Rattle.std.specs.Ordering.{nat_cmp}
use Rattle.std.proofs.lemmas.Map.Lookups.{exact_unsigned}
use Rattle.std.proofs.lemmas.Bool.Decides.{Decides-eqb}
use Rattle.std.specs.Prelude.{◌==◌}
use Rattle.log_pieces.specs.declared.flat.Flat.{Flat}
use Rattle.log_pieces.specs.Flat.{flat_joined}
use Rattle.log_pieces.specs.FlatLaws.{flat_laws}
use Rattle.log_pieces.specs.Join.{IsJoin}
use Rattle.log_pieces.specs.Keyed.{value_at, option_joined, option_same, keyed_same, keyed_joined, keyed_partly}
use Rattle.log_pieces.specs.KeyedLaws.{keyed_laws, value_at-keyed_joined}
use Rattle.log_pieces.specs.OptionLaws.{option_associative, option_idempotent}
use Rattle.log_pieces.specs.Pages.{AreJoined}
use Rattle.log_pieces.specs.ClaimDecides.{flat_decides, keyed_decides}
use Rattle.log_pieces.specs.Runs.{claims_partly}
use Rattle.log_pieces.specs.SameClaims.{flat_eq, claims_eq}

same_is : {V : Type 0} (a b : Option V) → option_same (λ x y. x ≡ y) a b → a ≡ b
same_is None None h = refl
same_is (Some x) (Some y) h = ap Some h
same_is None (Some y) h = absurd h
same_is (Some x) None h = absurd h

itself : {V : Type 0} (a : Option V) → option_same (λ x y. x ≡ y) a a
itself None = tt
itself (Some x) = refl

is_same : {V : Type 0} (a b : Option V) → a ≡ b → option_same (λ x y. x ≡ y) a b
is_same {V} a b e = subst (λ (o : Option V). option_same (λ x y. x ≡ y) a o) e (itself a)

-- nothing of it, or all of it
abbrev IsPart : {V : Type 0} → Option V → Option V → Type 0
IsPart part whole = (part ≡ None) ⊎ (part ≡ whole)

module _ {T : Type 0} (eq : T → T → Bool) (decides : (x y : T) → Decides (eq x y) (x ≡ y)) where
  pub claim_laws : IsJoin (keyed_same nat_cmp (λ (x y : Flat T). x ≡ y)) (keyed_joined nat_cmp (flat_joined eq)) (keyed_partly nat_cmp (λ (x y : Flat T). x ≡ y) (flat_joined eq) (λ (x y z : Flat T). ⊥))
  claim_laws = keyed_laws (flat_laws eq decides) nat_cmp exact_unsigned

  pub claims_same : (old more new : List (ℕ × Flat T)) → AreJoined eq old more new → keyed_same nat_cmp (λ (x y : Flat T). x ≡ y) new (keyed_joined nat_cmp (flat_joined eq) old more)
  claims_same old more new joined key = is_same _ _ (joined key ∙ sym (value_at-keyed_joined nat_cmp exact_unsigned (flat_joined eq) old more key))

  taken_part : (count q : ℕ) (es : List (ℕ × Flat T)) → IsPart (value_at nat_cmp (take count es) q) (value_at nat_cmp es q)
  taken_part zero q es = inl refl
  taken_part (suc count) q [] = inl refl
  taken_part (suc count) q (e ∷ es) = at (is_at (nat_cmp q) e.0) (taken_part count q es) where
    at : (t : Bool) → IsPart (value_at nat_cmp (take count es) q) (value_at nat_cmp es q) → IsPart (cond t (Some e.1) (value_at nat_cmp (take count es) q)) (cond t (Some e.1) (value_at nat_cmp es q))
    at true h = inr refl
    at false h = h

  joined_again : (old part whole : Option (Flat T)) → IsPart part whole → option_joined (flat_joined eq) (option_joined (flat_joined eq) old part) whole ≡ option_joined (flat_joined eq) old whole
  joined_again old part whole h = elim h [
    | inl none ↦ rw none (ap (λ (o : Option (Flat T)). option_joined (flat_joined eq) o whole) (nothing old))
    | inr all ↦ rw all (same_is _ _ (option_associative (flat_laws eq decides) old whole whole)
        ∙ ap (λ (o : Option (Flat T)). option_joined (flat_joined eq) old o) (same_is _ _ (option_idempotent (flat_laws eq decides) whole)))
  ]
    where
      nothing : (o : Option (Flat T)) → option_joined (flat_joined eq) o None ≡ o
      nothing None = refl
      nothing (Some x) = refl

  pub claims_again : (old more part new : List (ℕ × Flat T)) (j : ℕ) → AreJoined eq old (take j more) part → AreJoined eq part more new → AreJoined eq old more new
  claims_again old more part new j first second q =
      second q ∙ ap (λ (o : Option (Flat T)). option_joined (flat_joined eq) o (value_at nat_cmp more q)) (first q)
      ∙ joined_again (value_at nat_cmp old q) (value_at nat_cmp (take j more) q) (value_at nat_cmp more q) (taken_part j q more)

-- ---- `==`
both_ways : (a b : Bool) → (a ≡ true → b ≡ true) → (b ≡ true → a ≡ true) → a ≡ b
both_ways true b there back = sym (there refl)
both_ways false true there back = back refl
both_ways false false there back = refl

module _ {K : Type 0} (e : K → K → Bool) (d : (x y : K) → Decides (e x y) (x ≡ y)) where
  symmetric : (x y : K) → e x y ≡ e y x
  symmetric x y = both_ways (e x y) (e y x) (λ h. (d y x).1 (sym ((d x y).0 h))) (λ h. (d x y).1 (sym ((d y x).0 h)))

  pub decided_per : IsPartialEquivalence e
  decided_per = record { symm = symmetric; trans = λ x y z h k. (d x z).1 ((d x y).0 h ∙ (d y z).0 k) }

  pub decided_equiv : IsEquivalence e
  decided_equiv = record { refl = λ x. (d x x).1 refl; symm = symmetric; congr = λ x y z h. ap (λ (w : K). e w z) ((d x y).0 h) }

module _ {T : Type 0} (eq : T → T → Bool) (d : (x y : T) → Decides (eq x y) (x ≡ y)) where
  pub claims_decide : (a b : List (ℕ × Flat T)) → Decides (claims_eq eq a b) (a ≡ b)
  claims_decide = keyed_decides (λ (x y : ℕ). x == y) (flat_eq eq) (λ x y. Decides-eqb x y) (flat_decides eq d (flat_eq eq) (λ x y. refl) (λ x. refl) (λ x. refl) refl)

  pub claims_per : IsPartialEquivalence (claims_eq eq)
  claims_per = decided_per (claims_eq eq) claims_decide

  pub claims_equiv : IsEquivalence (claims_eq eq)
  claims_equiv = decided_equiv (claims_eq eq) claims_decide

  -- ---- the join
  pub runs_laws : IsJoin (keyed_same nat_cmp (λ (x y : Flat T). x ≡ y)) (keyed_joined nat_cmp (flat_joined eq)) (claims_partly eq)
  runs_laws = let laws = claim_laws eq d in record {
    reflexive = laws.reflexive;
    symmetric = laws.symmetric;
    transitive = laws.transitive;
    respects = laws.respects;
    associative = laws.associative;
    commutative = laws.commutative;
    idempotent = laws.idempotent;
    completes = completes;
  } where
    completes : (a b c : List (ℕ × Flat T)) → claims_partly eq a b c → keyed_same nat_cmp (λ (x y : Flat T). x ≡ y) (keyed_joined nat_cmp (flat_joined eq) c b) (keyed_joined nat_cmp (flat_joined eq) a b)
    completes a b c h =
        let whole : AreJoined eq c b (keyed_joined nat_cmp (flat_joined eq) c b) = λ key. value_at-keyed_joined nat_cmp exact_unsigned (flat_joined eq) c b key in
        claims_same eq d a b (keyed_joined nat_cmp (flat_joined eq) c b) (claims_again eq d a b c (keyed_joined nat_cmp (flat_joined eq) c b) h.0 h.1 whole)
