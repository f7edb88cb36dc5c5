-- Lists that stand one behind the other, and how many items stand before each of them.
use Rattle.std.proofs.Common.{◌≡◌, ℕ, zero, suc, ◌+◌, ◌<◌, List, [], ◌∷◌, ◌++◌, length, Bool, true, false, cond, ltb, Option, Some, None, refl, sym, ap, ◌∙◌, append_assoc, arith}
use Rattle.std.specs.Prelude.{option_and_then}
use Rattle.std.specs.List.{slice_get, concat}
use Rattle.std.proofs.lemmas.List.{append-nil, length-append}
use Rattle.std.proofs.lemmas.List.Folds.{concat-append}
use Rattle.std.proofs.lemmas.Option.{slice_get_past}
use Rattle.std.proofs.lemmas.Bool.{ltb-true, ltb-false}
use Rattle.binary_decoder.specs.Kept.{item_between, item_in, starts_of, Holds}
use Rattle.binary_decoder.specs.declared.offsets.InstructionOffsets.{InstructionOffsets}

-- ---- one list more

starts-append : (before : ℕ) (front : List (List ℕ)) (b : List ℕ) → starts_of before (front ++ b ∷ []) ≡ starts_of before front ++ (before + (length (concat front) + length b)) ∷ []
starts-append before [] b = ap (λ (n : ℕ). before ∷ n ∷ []) (omega arith)
starts-append before (x ∷ front) b =
    let same : (before + length x) + (length (concat front) + length b) ≡ before + (length (x ++ concat front) + length b) = omega (arith, length-append x (concat front)) in
    ap (λ (ns : List ℕ). before ∷ ns) (starts-append (before + length x) front b ∙ ap (λ (n : ℕ). starts_of (before + length x) front ++ n ∷ []) same)

joined : (front : List (List ℕ)) (b : List ℕ) → concat front ++ b ≡ concat (front ++ b ∷ [])
joined front b = ap (λ (items : List ℕ). concat front ++ items) (sym (append-nil b)) ∙ sym (concat-append front (b ∷ []))

pub holds_more : (old new : InstructionOffsets) (front : List (List ℕ)) (b : List ℕ) → Holds old front → new.offsets.items ≡ old.offsets.items ++ b → new.starts.items ≡ old.starts.items ++ length new.offsets.items ∷ [] → Holds new (front ++ b ∷ [])
holds_more old new front b holds items starts =
    let all : new.offsets.items ≡ concat front ++ b = items ∙ ap (λ (xs : List ℕ). xs ++ b) holds.0 in
    let count : length new.offsets.items ≡ 0 + (length (concat front) + length b) = omega (arith, ap length all, length-append (concat front) b) in (
      all ∙ joined front b,
      starts ∙ ap (λ (ns : List ℕ). ns ++ length new.offsets.items ∷ []) holds.1 ∙ ap (λ (n : ℕ). starts_of 0 front ++ n ∷ []) count ∙ sym (starts-append 0 front b),
    )

-- ---- an item of one list

get-behind : (front xs : List ℕ) (i : ℕ) → slice_get (front ++ xs) (length front + i) ≡ slice_get xs i
get-behind [] xs i = ap (slice_get xs) (omega arith)
get-behind (x ∷ front) xs i =
    let next : length (x ∷ front) + i ≡ suc (length front + i) = omega arith in
    ap (slice_get (x ∷ front ++ xs)) next ∙ get-behind front xs i

get-front : (xs behind : List ℕ) (i : ℕ) → i < length xs → slice_get (xs ++ behind) i ≡ slice_get xs i
get-front [] behind i below = absurd (omega arith)
get-front (x ∷ xs) behind zero below = refl
get-front (x ∷ xs) behind (suc i) below = get-front xs behind i (omega arith)

between_by : (front b behind : List ℕ) (i : ℕ) (t : Bool) → ltb (length front + i) (length front + length b) ≡ t → cond t (slice_get (front ++ b ++ behind) (length front + i)) None ≡ slice_get b i
between_by front b behind i true test =
    let below = ltb-true (length front + i) (length front + length b) test in
    ap (λ (xs : List ℕ). slice_get xs (length front + i)) (append_assoc front b behind) ∙ get-behind front (b ++ behind) i ∙ get-front b behind i (omega (arith, below))
between_by front b behind i false test =
    let past = ltb-false (length front + i) (length front + length b) test in
    sym (slice_get_past b i (omega (arith, past)))

first_start : (n : ℕ) (bs : List (List ℕ)) → slice_get (starts_of n bs) 0 ≡ Some n
first_start n [] = refl
first_start n (b ∷ bs) = refl

abbrev item_of : ℕ → Option (List ℕ) → Option ℕ
item_of i list = option_and_then (λ (xs : List ℕ). slice_get xs i) list

item_behind : (front : List ℕ) (lists : List (List ℕ)) (n i : ℕ) → item_in (front ++ concat lists) (starts_of (length front) lists) n i ≡ item_of i (slice_get lists n)
item_behind front [] zero i = refl
item_behind front [] (suc n) i = refl
item_behind front (b ∷ lists) zero i =
    ap (λ (o : Option ℕ). option_and_then (λ (end : ℕ). item_between (front ++ concat (b ∷ lists)) i (length front) end) o) (first_start (length front + length b) lists)
    ∙ ap (λ (xs : List ℕ). item_between xs i (length front) (length front + length b)) (sym (append_assoc front b (concat lists)))
    ∙ between_by front b (concat lists) i (ltb (length front + i) (length front + length b)) refl
item_behind front (b ∷ lists) (suc n) i =
    ap (λ (xs : List ℕ). item_in xs (starts_of (length front + length b) lists) n i) (sym (append_assoc front b (concat lists)))
    ∙ ap (λ (k : ℕ). item_in ((front ++ b) ++ concat lists) (starts_of k lists) n i) (sym (length-append front b))
    ∙ item_behind (front ++ b) lists n i

pub item_held : (kept : InstructionOffsets) (bodies : List (List ℕ)) (n i : ℕ) → Holds kept bodies → item_in kept.offsets.items kept.starts.items n i ≡ item_of i (slice_get bodies n)
item_held kept bodies n i holds =
    ap (λ (xs : List ℕ). item_in xs kept.starts.items n i) holds.0
    ∙ ap (λ (starts : List ℕ). item_in (concat bodies) starts n i) holds.1
    ∙ item_behind [] bodies n i
