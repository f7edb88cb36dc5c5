-- The line of a piece in its parts, and the lines of pieces one behind the other.
use Rattle.std.proofs.Common.{◌≡◌, ℕ, suc, ◌+◌, ◌-◌, ◌/◌, ◌%◌, ◌<◌, ◌≤◌, List, [], ◌∷◌, ◌++◌, length, map, drop, get_or, drop-cons, add-one, append_assoc, refl, sym, ap, ◌∙◌, subst, arith}
use Rattle.std.specs.Prelude.{slice_index}
use Rattle.std.specs.List.{flat_map, range_with_len}
use Rattle.std.proofs.lemmas.List.{append-nil}
use Rattle.std.proofs.lemmas.List.Concat.{flat_map-cons}
use Rattle.std.proofs.lemmas.Grind.{flat_map-append}
use Rattle.hex.specs.Hex.{encode_with, encode_lower, lower_digits}
use Rattle.wasm_types.specs.declared.key.RunKey.{RunKey}
use Rattle.log_pieces.specs.Piece.{PieceValue}
use Rattle.log_pieces.specs.Spelling.{entry_bytes, end_bytes}
use Rattle.log_pieces.specs.Line.{line_of}
use Rattle.recorder.specs.ThreadLogAt.{ThreadLogAt}
use Rattle.replica.specs.Written.{Wrote, Began}
use Rattle.replica.proofs.LinesWritten.{Lines, wrote_wrote, wrote_began, put_wrote, put_began, began_more}
use Rattle.run_pieces.specs.Cut.{thread_pieces, pieces_from}
use Rattle.run_pieces.specs.Lines.{head_bytes}

-- the digits of bytes in two parts
pub digits_append : (xs ys : List ℕ) → encode_lower (xs ++ ys) ≡ encode_lower xs ++ encode_lower ys
unfolding encode_with
digits_append [] ys = refl
digits_append (x ∷ xs) ys = ap (λ l. slice_index lower_digits (x / 16) ∷ slice_index lower_digits (x % 16) ∷ l) (digits_append xs ys)

pub no_digits : (bytes : List ℕ) → length bytes ≡ 0 → encode_lower bytes ≡ []
unfolding encode_with
no_digits [] none = refl
no_digits (x ∷ xs) none = absurd (omega (arith, none))

pub line_parts : (p : PieceValue) → line_of p ≡ encode_lower (head_bytes p) ++ (encode_lower (flat_map entry_bytes p.entries) ++ (encode_lower (end_bytes p.end) ++ 10 ∷ []))
line_parts p =
    let head = encode_lower (head_bytes p) in
    let entries = encode_lower (flat_map entry_bytes p.entries) in
    let end = encode_lower (end_bytes p.end) in
    ap (λ l. l ++ 10 ∷ []) (digits_append (head_bytes p ++ flat_map entry_bytes p.entries) (end_bytes p.end) ∙ ap (λ l. l ++ end) (digits_append (head_bytes p) (flat_map entry_bytes p.entries)))
    ∙ append_assoc (head ++ entries) end (10 ∷ [])
    ∙ append_assoc head entries (end ++ 10 ∷ [])

-- a text was put into the room before another was written
put_before : {S : Type 0} {takes : S → List ℕ → S → Type 0} {old new : S} {room now left : List ℕ} (head text : List ℕ) → now ≡ room ++ head → Wrote takes old now text new left → Wrote takes old room (head ++ text) new left
put_before {room = room} head text put w = record { part = w.part; took = w.took; parts = sym (append_assoc room head text) ∙ ap (λ l. l ++ text) (sym put) ∙ w.parts }

put_before_began : {S : Type 0} {takes : S → List ℕ → S → Type 0} {old new : S} {room now : List ℕ} (head text : List ℕ) → now ≡ room ++ head → Began takes old now text new → Began takes old room (head ++ text) new
put_before_began {room = room} head text put b = record { part = b.part; rest = b.rest; took = b.took; parts = sym (append_assoc room head text) ∙ ap (λ l. l ++ text) (sym put) ∙ b.parts }

-- the lines of the pieces from one on
abbrev pub lines_left : (ℕ → PieceValue) → ℕ → ℕ → List ℕ
lines_left f i n = flat_map line_of (map f (range_with_len i (n - i)))

pub lines_at_first : (f : ℕ → PieceValue) (n : ℕ) → flat_map line_of (map f (range_with_len 0 n)) ≡ lines_left f 0 n
lines_at_first f n = let all : n ≡ n - 0 = omega arith in ap (λ k. flat_map line_of (map f (range_with_len 0 k))) all

pub lines_from_piece : (f : ℕ → PieceValue) (i n : ℕ) → i < n → lines_left f i n ≡ line_of (f i) ++ lines_left f (i + 1) n
lines_from_piece f i n l =
    let left : n - i ≡ suc (n - (i + 1)) = omega (arith, l) in
    ap (λ k. flat_map line_of (map f (range_with_len i k))) left
    ∙ flat_map-cons line_of (f i) (map f (range_with_len (i + 1) (n - (i + 1))))

pub no_lines_left : (f : ℕ → PieceValue) (i n : ℕ) → n ≤ i → lines_left f i n ≡ []
no_lines_left f i n l = let none : n - i ≡ 0 = omega (arith, l) in ap (λ k. flat_map line_of (map f (range_with_len i k))) none

-- the lines of the threads from one on
module _ (key : RunKey) (size : ℕ) (logs : List ThreadLogAt) where
  pub lines_from_thread : (i : ℕ) (log : ThreadLogAt) → i < length logs → log ≡ get_or logs i log
      → flat_map line_of (pieces_from key i (drop i logs) size) ≡ flat_map line_of (thread_pieces key i log size) ++ flat_map line_of (pieces_from key (i + 1) (drop (i + 1) logs) size)
  lines_from_thread i log l is =
      let here : drop i logs ≡ log ∷ drop (i + 1) logs = (rw add-one (drop-cons logs i log l)) ∙ ap (λ x. x ∷ drop (i + 1) logs) (sym is) in
      ap (λ ls. flat_map line_of (pieces_from key i ls size)) here
      ∙ flat_map-append line_of (thread_pieces key i log size) (pieces_from key (i + 1) (drop (i + 1) logs) size)

-- what stands behind the entries of a piece
abbrev tail : PieceValue → List ℕ
tail p = encode_lower (end_bytes p.end) ++ 10 ∷ []

whole : (p : PieceValue) (bytes : List ℕ) → bytes ≡ flat_map entry_bytes p.entries → encode_lower (head_bytes p) ++ (encode_lower bytes ++ tail p) ≡ line_of p
whole p bytes spelled = ap (λ l. encode_lower (head_bytes p) ++ (encode_lower l ++ tail p)) spelled ∙ sym (line_parts p)

-- The parts of a line, written one behind the other: what stands before the entries was put into the room, then the
-- entries are written, and what stands behind them is put into the room before this is written.
module _ {S : Type 0} {takes : S → List ℕ → S → Type 0} (more : (s t u : S) (xs ys : List ℕ) → takes s xs t → takes t ys u → takes s (xs ++ ys) u)
    (p : PieceValue) (bytes : List ℕ) (spelled : bytes ≡ flat_map entry_bytes p.entries) where
  pub entries_began : {old mid : S} {room now : List ℕ} → now ≡ room ++ encode_lower (head_bytes p) → Began takes old now (encode_lower bytes) mid → Began takes old room (line_of p) mid
  entries_began {old} {mid} {room} opened b =
      subst (λ l. Began takes old room l mid) (whole p bytes spelled) (put_before_began (encode_lower (head_bytes p)) (encode_lower bytes ++ tail p) opened (began_more (tail p) b))

  pub line_wrote : {old mid new : S} {room now left put last : List ℕ} → now ≡ room ++ encode_lower (head_bytes p) → Wrote takes old now (encode_lower bytes) mid left → put ≡ left ++ tail p
      → Wrote takes mid put [] new last → Wrote takes old room (line_of p) new last
  line_wrote {old} {mid} {new} {room} {last = last} opened w closed v =
      subst (λ l. Wrote takes old room l new last) (whole p bytes spelled) (put_before (encode_lower (head_bytes p)) (encode_lower bytes ++ tail p) opened (wrote_wrote more w (put_wrote closed v)))

  pub line_began : {old mid new : S} {room now left put : List ℕ} → now ≡ room ++ encode_lower (head_bytes p) → Wrote takes old now (encode_lower bytes) mid left → put ≡ left ++ tail p
      → Began takes mid put [] new → Began takes old room (line_of p) new
  line_began {old} {mid} {new} {room} opened w closed v =
      subst (λ l. Began takes old room l new) (whole p bytes spelled) (put_before_began (encode_lower (head_bytes p)) (encode_lower bytes ++ tail p) opened (wrote_began more w (put_began closed v)))

-- through a room that was empty, and then what is left in it
pub begun_through : {S : Type 0} {takes : S → List ℕ → S → Type 0} {old mid : S} {room text : List ℕ} → room ≡ [] → Began takes old room text mid → (part rest : List ℕ) × (text ≡ part ++ rest) × takes old part mid
begun_through {text = text} empty b = (b.part, b.rest, ap (λ l. l ++ text) (sym empty) ∙ b.parts, b.took)

module _ {S : Type 0} {takes : S → List ℕ → S → Type 0} (more : (s t u : S) (xs ys : List ℕ) → takes s xs t → takes t ys u → takes s (xs ++ ys) u) {old mid : S} {room text left : List ℕ} (empty : room ≡ []) (w : Wrote takes old room text mid left) where
  parts_through : text ≡ w.part ++ left
  parts_through = ap (λ l. l ++ text) (sym empty) ∙ w.parts

  pub taken_through : (new : S) → takes mid left new → takes old text new
  taken_through new t = subst (λ l. takes old l new) (sym parts_through) (more old mid new w.part left w.took t)

  pub begun_last : (new : S) → (part rest : List ℕ) × (left ≡ part ++ rest) × takes mid part new → (part rest : List ℕ) × (text ≡ part ++ rest) × takes old part new
  begun_last new b = (w.part ++ b.0, b.1, parts_through ∙ ap (λ l. w.part ++ l) b.2 ∙ sym (append_assoc w.part b.0 b.1), more old mid new w.part b.0 w.took b.3)

-- all lines are written or wait
pub lines_all : {S : Type 0} {takes : S → List ℕ → S → Type 0} {old new : S} {room whole rest left : List ℕ} → Lines takes old room whole rest new left → rest ≡ [] → Wrote takes old room whole new left
lines_all {room = room} h end = record { part = h.wrote.part; took = h.wrote.took; parts = ap (λ (l : List ℕ). room ++ l) (h.parts ∙ ap (λ (l : List ℕ). h.text ++ l) end ∙ append-nil h.text) ∙ h.wrote.parts }
