-- One piece more, and one thread more.
use Rattle.std.proofs.Common.{◌≡◌, ℕ, zero, suc, ◌+◌, ◌*◌, ◌<◌, ◌≤◌, List, [], ◌∷◌, ◌++◌, length, map, drop, get_or, drop-cons, add-one, append_assoc, refl, sym, ap, ◌∙◌, arith}
use Rattle.std.specs.List.{range_with_len}
use Rattle.std.proofs.lemmas.List.{append-nil, drop_all}
use Rattle.std.proofs.lemmas.List.FromFn.{map-range_with_len_more}
use Rattle.wasm_types.specs.declared.key.RunKey.{RunKey}
use Rattle.rw_objects.specs.declared.entry.Entry.{Entry}
use Rattle.log_pieces.specs.Piece.{PieceValue}
use Rattle.recorder.specs.ThreadLogAt.{ThreadLogAt}
use Rattle.run_pieces.specs.Cut.{thread_pieces, pieces_from, pieces_of}

pub piece_more : (f : ℕ → PieceValue) (before old news : List PieceValue) (piece : PieceValue) (i : ℕ) → news ≡ old ++ piece ∷ [] → piece ≡ f i
    → old ≡ before ++ map f (range_with_len 0 i) → news ≡ before ++ map f (range_with_len 0 (i + 1))
piece_more f before old news piece i put is so_far =
    put
    ∙ ap (λ l. l ++ piece ∷ []) so_far
    ∙ ap (λ x. (before ++ map f (range_with_len 0 i)) ++ x ∷ []) is
    ∙ append_assoc before (map f (range_with_len 0 i)) (f i ∷ [])
    ∙ ap (λ l. before ++ l) (sym (map-range_with_len_more f 0 i i (omega arith)))

drop_here : (logs : List ThreadLogAt) (i : ℕ) (d : ThreadLogAt) → i < length logs → drop i logs ≡ get_or logs i d ∷ drop (i + 1) logs
drop_here logs i d h = rw add-one (drop-cons logs i d h)

module _ (key : RunKey) (size : ℕ) (logs : List ThreadLogAt) where
  pub thread_more : (old news : List PieceValue) (log : ThreadLogAt) (t : ℕ) → t < length logs → log ≡ get_or logs t log → news ≡ old ++ thread_pieces key t log size
      → old ++ pieces_from key t (drop t logs) size ≡ pieces_of key logs size → news ++ pieces_from key (t + 1) (drop (t + 1) logs) size ≡ pieces_of key logs size
  thread_more old news log t l is put so_far =
      let rest = pieces_from key (t + 1) (drop (t + 1) logs) size in
      let left : drop t logs ≡ log ∷ drop (t + 1) logs = drop_here logs t log l ∙ ap (λ x. x ∷ drop (t + 1) logs) (sym is) in
      ap (λ l. l ++ rest) put
      ∙ append_assoc old (thread_pieces key t log size) rest
      ∙ ap (λ l. old ++ pieces_from key t l size) (sym left)
      ∙ so_far

  pub all_threads : (pieces : List PieceValue) (t : ℕ) → length logs ≤ t → pieces ++ pieces_from key t (drop t logs) size ≡ pieces_of key logs size → pieces ≡ pieces_of key logs size
  all_threads pieces t l so_far = sym (append-nil pieces) ∙ ap (λ l. pieces ++ pieces_from key t l size) (sym (drop_all t logs l)) ∙ so_far

none_left : (n : ℕ) → drop {A = Entry} n [] ≡ []
none_left zero = refl
none_left (suc n) = refl

drop_twice : (xs : List Entry) (m n : ℕ) → drop n (drop m xs) ≡ drop (m + n) xs
drop_twice [] m n = ap (λ (l : List Entry). drop n l) (none_left m) ∙ none_left n ∙ sym (none_left (m + n))
drop_twice (x ∷ xs) zero n = let z : n ≡ 0 + n = omega arith in ap (λ k. drop k (x ∷ xs)) z
drop_twice (x ∷ xs) (suc m) n = drop_twice xs m n ∙ ap (λ k. drop k (x ∷ xs)) (let z : suc (m + n) ≡ suc m + n = omega arith in z)

-- what is left behind one part more
pub part_behind : (es left news : List Entry) (index size : ℕ) → news ≡ drop size left → left ≡ drop (index * size) es → news ≡ drop ((index + 1) * size) es
part_behind es left news index size e is =
    let more : index * size + size ≡ (index + 1) * size = omega arith in
    e ∙ ap (drop size) is ∙ drop_twice es (index * size) size ∙ ap (λ k. drop k es) more
