-- Logs whose items stand by rising place are the items' own: the same items make the same listing.
use Rattle.std.specs.Prelude.{IsTrue, true}
use Rattle.std.proofs.Math.Bool.{Bool-set}
use Rattle.replica.specs.Flats.{few_steps}
use Rattle.std.proofs.Common.{◌≡◌, ℕ, suc, ◌≤◌, List, [], ◌∷◌, length, Option, Some, refl, sym, ap, subst, ◌∙◌, arith, inl, inr}
use Rattle.std.specs.Prelude.{slice_get}
use Rattle.std.specs.Ordering.{nat_cmp}
use Rattle.std.specs.List.Sorted.{IsStrictlySortedBy}
use Rattle.std.specs.Map.{keys_of}
use Rattle.std.proofs.lemmas.Bool.{cases_lt, cases_order}
use Rattle.wasm_types.specs.declared.key.RunKey.{RunKey}
use Rattle.rw_objects.specs.declared.entry.Entry.{Entry}
use Rattle.log_pieces.specs.declared.end.End.{End}
use Rattle.log_pieces.specs.Piece.{PieceValue}
use Rattle.log_pieces.specs.declared.flat.Flat.{Flat}
use Rattle.log_pieces.specs.Keyed.{value_at}
use Rattle.replica.specs.declared.thread_log.ThreadLog.{ThreadLog}
use Rattle.replica.specs.declared.log.Log.{Log}
use Rattle.replica.specs.Log.{key_of, entry_of, end_of}
use Rattle.replica.specs.LogOf.{Among, IsOrdered, IsSameLog}
use Rattle.replica.specs.declared.form.ListingForm.{ListingForm}
use Rattle.replica.specs.Listing.{listing}
use Rattle.replica.specs.Gathered.{IsListing, AreOfRun}
use Rattle.replica.proofs.Counting.{Rises, rises, nothing_at}
use Rattle.replica.proofs.Filling.{here, later, unfilled}
use Rattle.replica.proofs.LawLemmas.{one_log}

abbrev SameItems : List (ℕ × Flat Entry) → List (ℕ × Flat Entry) → Type 0
SameItems xs ys = (q : ℕ) → value_at nat_cmp xs q ≡ value_at nat_cmp ys q

-- an item that only one of two lists has
only : {A : Type 0} (x : ℕ × Flat Entry) (xs ys : List (ℕ × Flat Entry)) → Rises (suc x.0) ys → SameItems (x ∷ xs) ys → A
only x xs ys r same = unfilled (value_at nat_cmp ys x.0) x.1 (sym (same x.0) ∙ here x xs) (nothing_at (suc x.0) x.0 ys r (omega arith))

rises_from : (n m : ℕ) (e : ℕ × Flat Entry) (es : List (ℕ × Flat Entry)) → Rises n (e ∷ es) → m ≤ e.0 → Rises m (e ∷ es)
rises_from n m e es r le = (le, r.1)

-- behind the same first item stand the same items
behind : (x y : ℕ × Flat Entry) (xs ys : List (ℕ × Flat Entry)) → x.0 ≡ y.0 → Rises (suc x.0) xs → Rises (suc x.0) ys → SameItems (x ∷ xs) (y ∷ ys) → SameItems xs ys
behind x y xs ys place rx ry same q = elim (cases_lt x.0 q) [
  | inl past ↦ sym (later x xs q past) ∙ same q ∙ later y ys q (omega arith)
  | inr before ↦ nothing_at (suc x.0) q xs rx (omega arith) ∙ sym (nothing_at (suc x.0) q ys ry (omega arith))
]

pub same_entries : (n : ℕ) (xs ys : List (ℕ × Flat Entry)) → Rises n xs → Rises n ys → SameItems xs ys → xs ≡ ys
same_entries n [] [] rx ry same = refl
same_entries n [] (y ∷ ys) rx ry same = only y ys [] tt (λ q. sym (same q))
same_entries n (x ∷ xs) [] rx ry same = only x xs [] tt same
same_entries n (x ∷ xs) (y ∷ ys) rx ry same = elim (cases_order x.0 y.0) [
  | inr other ↦ elim other [
    | inl before ↦ only x xs (y ∷ ys) (rises_from n (suc x.0) y ys ry (omega arith)) same
    | inr after ↦ only y ys (x ∷ xs) (rises_from n (suc y.0) x xs rx (omega arith)) (λ q. sym (same q))
  ]
  | inl place ↦
      let item : x.1 ≡ y.1 = (let both : Some x.1 ≡ Some y.1 = sym (here x xs) ∙ same x.0 ∙ subst (λ (q : ℕ). value_at nat_cmp (y ∷ ys) q ≡ Some y.1) (sym place) (here y ys) in cc) in
      let ry1 : Rises (suc x.0) ys = subst (λ (k : ℕ). Rises (suc k) ys) (sym place) ry.1 in
      let rest = same_entries (suc x.0) xs ys rx.1 ry1 (behind x y xs ys place rx.1 ry1 same) in
      let first : x ≡ y = ap (λ (p : ℕ). (p, x.1)) place ∙ ap (λ (i : Flat Entry). (y.0, i)) item in
      ap (λ (z : ℕ × Flat Entry). z ∷ xs) first ∙ ap (λ (l : List (ℕ × Flat Entry)). y ∷ l) rest
]

abbrev AllRising : List ThreadLog → Type 0
AllRising ts = (i : ℕ) (t : ThreadLog) → slice_get ts i ≡ Some t → IsStrictlySortedBy nat_cmp (keys_of t.entries)

abbrev of_parts : (es : List (ℕ × Flat Entry)) (end : Option (Flat End)) → IsTrue (few_steps end) → ThreadLog
of_parts es end few = record { entries = es; end = end; few = few }

same_end : (es : List (ℕ × Flat Entry)) (x y : Option (Flat End)) (p : IsTrue (few_steps x)) (q : IsTrue (few_steps y)) → x ≡ y → of_parts es x p ≡ of_parts es y q
same_end es x y p q is =
    subst (λ (e : Option (Flat End)). (few : IsTrue (few_steps e)) → of_parts es x p ≡ of_parts es e few) is
    (λ few. ap (λ (r : IsTrue (few_steps x)). of_parts es x r) (Bool-set (few_steps x) true p few)) q

same_thread : (a b : ThreadLog) → a.entries ≡ b.entries → a.end ≡ b.end → a ≡ b
same_thread a b entries end = ap (λ (es : List (ℕ × Flat Entry)). of_parts es a.end a.few) entries ∙ same_end b.entries a.end b.end a.few b.few end

same_threads : (ts us : List ThreadLog) → length ts ≡ length us → AllRising ts → AllRising us
    → ((i place : ℕ) → entry_of (slice_get ts i) place ≡ entry_of (slice_get us i) place) → ((i : ℕ) → end_of (slice_get ts i) ≡ end_of (slice_get us i)) → ts ≡ us
same_threads [] [] many ra rb entries ends = refl
same_threads [] (b ∷ us) many ra rb entries ends = absurd (omega arith)
same_threads (a ∷ ts) [] many ra rb entries ends = absurd (omega arith)
same_threads (a ∷ ts) (b ∷ us) many ra rb entries ends =
    let thread = same_thread a b (same_entries 0 a.entries b.entries (rises a.entries (ra 0 a refl)) (rises b.entries (rb 0 b refl)) (λ q. entries 0 q)) (ends 0) in
    let rest = same_threads ts us (omega arith) (λ i t is. ra (suc i) t is) (λ i t is. rb (suc i) t is) (λ i place. entries (suc i) place) (λ i. ends (suc i)) in
    ap (λ (t : ThreadLog). t ∷ ts) thread ∙ ap (λ (l : List ThreadLog). b ∷ l) rest

pub same_listing : (form : ListingForm) (a b : Log) → key_of a ≡ key_of b → IsOrdered a → IsOrdered b → IsSameLog a b → listing form a ≡ listing form b
same_listing form a b key oa ob same =
    let threads = same_threads a.threads b.threads (oa.sixteen ∙ sym ob.sixteen) oa.rising ob.rising same.entries same.ends in
    let log : a ≡ b = ap (λ (k : RunKey). record a { key = k }) key ∙ ap (λ (ts : List ThreadLog). record b { threads = ts }) threads in
    ap (listing form) log

-- the run of a piece of the set is the log's
run_among : (key : RunKey) (ps : List PieceValue) (piece : PieceValue) → AreOfRun key ps → Among ps piece → piece.key ≡ key
run_among key [] piece run among = absurd among
run_among key (p ∷ ps) piece run among = elim among [
  | inl is ↦ ap (λ (q : PieceValue). q.key) is ∙ run.0
  | inr later ↦ run_among key ps piece run.1 later
]

pub one_listing : (ps qs : List PieceValue) → ((piece : PieceValue) → Among ps piece → Among qs piece) → ((piece : PieceValue) → Among qs piece → Among ps piece)
    → (form : ListingForm) (text other : List ℕ) → IsListing form ps text → IsListing form qs other → text ≡ other
one_listing [] [] there back form text other lp lq = lp ∙ sym lq
one_listing [] (q ∷ qs) there back form text other lp lq = absurd (back q (inl refl))
one_listing (p ∷ ps) [] there back form text other lp lq = absurd (there p (inl refl))
one_listing (p ∷ ps) (q ∷ qs) there back form text other lp lq =
    let key : key_of lp.0 ≡ key_of lq.0 = sym (run_among (key_of lp.0) (p ∷ ps) p lp.1.run (inl refl)) ∙ run_among (key_of lq.0) (q ∷ qs) p lq.1.run (there p (inl refl)) in
    lp.3 ∙ same_listing form lp.0 lq.0 key lp.2 lq.2 (one_log (p ∷ ps) (q ∷ qs) there back lp.0 lq.0 lp.1.items lq.1.items) ∙ sym lq.3
