-- Where a piece line stands in a text.
use Rattle.std.proofs.Common.{◌≡◌, ◌≢◌, ℕ, suc, ◌+◌, ◌<◌, ◌≤◌, List, [], ◌∷◌, ◌++◌, length, refl, sym, ap, subst, ◌∙◌, arith, inl, append_assoc}
use Rattle.std.specs.Prelude.{slice_index}
use Rattle.std.proofs.Math.ListN.{get_or-append, length-append}
use Rattle.std.proofs.Math.Seq.{get_or-append_seam}
use Rattle.log_pieces.specs.Piece.{PieceValue}
use Rattle.log_pieces.specs.Line.{IsLineOf}
use Rattle.log_pieces.proofs.LineLaws.{ends_once}
use Rattle.log_pieces.proofs.Lengths.{length-line}
use Rattle.replica.specs.Lines.{HasNoEnd}
use Rattle.replica.specs.Gathered.{HasNoLine}

-- the first line end of a text is at one place
first_end : (a b xs ys : List ℕ) → HasNoEnd a → HasNoEnd b → a ++ 10 ∷ xs ≡ b ++ 10 ∷ ys → a ≡ b
first_end [] [] xs ys h g e = refl
first_end [] (y ∷ b) xs ys h g e = absurd (g 0 (omega arith) (sym (ap (λ l. slice_index l 0) e)))
first_end (x ∷ a) [] xs ys h g e = absurd (h 0 (omega arith) (ap (λ l. slice_index l 0) e))
first_end (x ∷ a) (y ∷ b) xs ys h g e =
    let heads : x ≡ y = ap (λ l. slice_index l 0) e in
    let tails : a ++ 10 ∷ xs ≡ b ++ 10 ∷ ys = cc in
    let rest = first_end a b xs ys (λ k lt. h (suc k) (omega arith)) (λ k lt. g (suc k) (omega arith)) tails in
    cc

digits_of : (piece : PieceValue) (line : List ℕ) → IsLineOf line piece → (digits : List ℕ) × HasNoEnd digits × (line ≡ digits ++ 10 ∷ [])
digits_of piece line is = let e = ends_once piece line is in (e.digits, λ k below. e.none_before k 0 below, e.ended)

-- a whole line that is of no piece
pub bad_whole : (ended : Type 0) (rest front tail : List ℕ) → HasNoEnd front → rest ≡ front ++ 10 ∷ tail → ((piece : PieceValue) → IsLineOf (front ++ 10 ∷ []) piece → ⊥) → HasNoLine ended rest
bad_whole ended rest front tail no_end parts bad = inl (λ piece line more behind is same.
    let digits = digits_of piece line is in
    let whole : front ++ 10 ∷ (tail ++ more) ≡ digits.0 ++ 10 ∷ behind =
    sym (append_assoc front (10 ∷ tail) more) ∙ ap (λ l. l ++ more) (sym parts) ∙ same ∙ ap (λ l. l ++ behind) digits.2 ∙ append_assoc digits.0 (10 ∷ []) behind in
    let one = first_end front digits.0 (tail ++ more) behind no_end digits.1 whole in
    bad piece (subst (λ l. IsLineOf l piece) (digits.2 ∙ ap (λ l. l ++ 10 ∷ []) (sym one)) is))

-- more bytes than a line has, without an end
pub bad_long : (ended : Type 0) (rest front tail : List ℕ) → HasNoEnd front → rest ≡ front ++ tail → 532621 < length front → HasNoLine ended rest
bad_long ended rest front tail no_end parts long = inl (λ piece line more behind is same.
    let digits = digits_of piece line is in
    let short : length line ≤ 532621 = length-line line piece is in
    let count : length line ≡ length digits.0 + 1 = ap length digits.2 ∙ length-append digits.0 (10 ∷ []) in
    let within : length digits.0 < length front = omega arith in
    let whole : front ++ (tail ++ more) ≡ digits.0 ++ 10 ∷ behind =
    sym (append_assoc front tail more) ∙ ap (λ l. l ++ more) (sym parts) ∙ same ∙ ap (λ l. l ++ behind) digits.2 ∙ append_assoc digits.0 (10 ∷ []) behind in
    no_end (length digits.0) within
    (sym (get_or-append front (tail ++ more) 0 (length digits.0) within) ∙ ap (λ l. slice_index l (length digits.0)) whole ∙ get_or-append_seam digits.0 10 behind 0))

-- a line that is longer than any piece line is of no piece
pub long_bad : (front tail : List ℕ) (piece : PieceValue) → 532621 < length front → IsLineOf (front ++ tail ++ 10 ∷ []) piece → ⊥
long_bad front tail piece long is =
    let short : length (front ++ tail ++ 10 ∷ []) ≤ 532621 = length-line (front ++ tail ++ 10 ∷ []) piece is in
    let all = length-append (front ++ tail) (10 ∷ []) in
    let parts = length-append front tail in
    omega arith

pub long_some : (front tail : List ℕ) → 532621 < length front → front ++ tail ≢ []
long_some front tail long none = let parts = length-append front tail in let zero = ap length none in omega arith

-- what came first, and what came then
pub got_both : (held got front chunk more tail : List ℕ) → held ++ got ≡ front ++ chunk → chunk ++ more ≡ tail → held ++ (got ++ more) ≡ front ++ tail
got_both held got front chunk more tail first then = sym (append_assoc held got more) ∙ ap (λ l. l ++ more) first ∙ append_assoc front chunk more ∙ ap (λ l. front ++ l) then
