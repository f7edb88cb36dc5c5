-- Where the objects of a memory stand in its parts.
use Rattle.std.proofs.Common.{◌≡◌, ◌≢◌, ℕ, ◌+◌, ◌-◌, ◌*◌, ◌/◌, ◌%◌, ◌^◌, ◌<◌, ◌≤◌, Bool, true, false, cond, ◌==◌, List, [], ◌∷◌, Some, None, refl, sym, ap, subst, ◌∙◌, inl, inr, arith}
use Rattle.std.proofs.lemmas.Nat.{pow-add, shl-shr}
use Rattle.std.proofs.Math.Path.{fun_ext}
use Rattle.std.proofs.lemmas.Bool.Decides.{Decides-eqb}
use Rattle.std.proofs.lemmas.Bool.{cases_eq}
use Rattle.rw_objects.specs.declared.touch.Mode.{Mode}
use Rattle.rw_objects.specs.declared.touch.Touch.{Touch}
use Rattle.rw_objects.specs.Space.{AllBelow, mode_at}
use Rattle.rw_objects.specs.Counts.{is_touched}
use Rattle.block_objects.specs.Objects.{blocks_in, objects_in}
use Rattle.block_objects.proofs.Values.{differ_no, equal_yes}
use Rattle.shared_parts.specs.Parts.{set_at}
use Rattle.striped_memory.specs.Quarters.{quarter_of}

-- the blocks of a memory are in four equal quarters, which fill it
module _ (p c : ℕ) (high : p ≤ 12) where
  abbrev q : ℕ
  q = c * 2 ^ (14 - p)

  page : 65536 ≡ 4 * 2 ^ (14 - p) * 2 ^ p
  page =
      let sum : 14 - p + p ≡ 14 = omega arith in
      let power : 16384 ≡ 2 ^ (14 - p) * 2 ^ p = ap (λ k. 2 ^ k) (sym sum) ∙ pow-add 2 (14 - p) p in
      omega (arith, power)

  all : c * 65536 ≡ 4 * q * 2 ^ p
  all = ap (λ k. c * k) page ∙ omega arith

  blocks : blocks_in p c ≡ 4 * q
  blocks = ap (λ k. k / 2 ^ p) all ∙ shl-shr (4 * q) p

  quarter : quarter_of p c ≡ q
  quarter = let e = blocks in let d : 4 * q / 4 ≡ q = omega arith in ap (λ k. k / 4) e ∙ d

  pub four_quarters : blocks_in p c ≡ 4 * quarter_of p c
  four_quarters = blocks ∙ ap (λ k. 4 * k) (sym quarter)

  pub quarters_fill : 4 * quarter_of p c * 2 ^ p ≡ c * 65536
  quarters_fill = ap (λ k. 4 * k * 2 ^ p) quarter ∙ sym all

-- a touched object is one of the memory
by_test : (b : Bool) (t o n : ℕ) → (t == o) ≡ b → t < n → (b ≡ false → o < n) → o < n
by_test true t o n is low rest = subst (λ k. k < n) ((Decides-eqb t o).0 is) low
by_test false t o n is low rest = rest refl

pub touched_below : (ts : List Touch) (o n : ℕ) → is_touched ts o ≡ true → AllBelow n ts → o < n
touched_below [] o n h all = absurd (let bad : false ≡ true = h in cc)
touched_below (t ∷ ts) o n h all = by_test (t.object == o) t.object o n refl all.0 (λ no. touched_below ts o n (ap (λ b. cond b true (is_touched ts o)) (sym no) ∙ h) all.1)

pub written_below : (ts : List Touch) (o n : ℕ) (m : Mode) → mode_at ts o ≡ Some m → AllBelow n ts → o < n
written_below [] o n m h all = absurd (let bad : None ≡ Some m = h in cc)
written_below (t ∷ ts) o n m h all = by_test (t.object == o) t.object o n refl all.0 (λ no. written_below ts o n m (ap (λ b. cond b (Some t.mode) (mode_at ts o)) (sym no) ∙ h) all.1)

-- and its item is one of its part
module _ (p c o : ℕ) (high : p ≤ 12) (below : o < objects_in p c) where
  fours : blocks_in p c ≡ 4 * quarter_of p c
  fours = four_quarters p c high

  pub block_item : (row : ℕ) → 1 + 2 * row ≡ o % 8 → o / 8 < quarter_of p c
  block_item row is = let f = fours in omega (arith, f, is, below)

  pub queue_item : (row : ℕ) → 2 + 2 * row ≡ o % 8 → o / 8 < quarter_of p c
  queue_item row is = let f = fours in omega (arith, f, is, below)

  pub last_queue_item : 0 ≡ o % 8 → o / 8 ≢ 0 → o / 8 - 1 < quarter_of p c
  last_queue_item is some = let f = fours in omega (arith, f, is, some, below)

-- items that are as before but for one
pub set_is : {V : Type 0} (old new : ℕ → V) (k : ℕ) (v : V) → new k ≡ v → ((j : ℕ) → j ≢ k → new j ≡ old j) → new ≡ set_at old k v
set_is {V} old new k v here others = fun_ext one where
  one : (j : ℕ) → new j ≡ set_at old k v j
  one j = elim (cases_eq j k) [
    | inl is ↦ ap new is ∙ (here ∙ sym (ap (λ b. cond b v (old j)) (equal_yes j k is)))
    | inr ne ↦ others j ne ∙ sym (ap (λ b. cond b v (old j)) (differ_no j k ne))
  ]
