-- Texts, and what stands behind them in lines that are not pushed yet.
use Rattle.std.proofs.Common.{◌≡◌, ℕ, List, [], ◌∷◌, ◌++◌, Result, Ok, Err, OnOk, ap, sym, ◌∙◌, append_assoc, append-nil}

-- more is put behind the lines
pub line_more : (text line next part : List ℕ) → next ≡ line ++ part → text ++ next ≡ (text ++ line) ++ part
line_more text line next part is = ap (λ l. text ++ l) is ∙ sym (append_assoc text line part)

-- the lines are pushed, and more is put behind the text
pub text_more : (text line pushed next left part : List ℕ) → pushed ≡ text ++ line → next ≡ pushed ++ part → left ≡ [] → next ++ left ≡ (text ++ line) ++ part
text_more text line pushed next left part pushed_is next_is left_is = ap (λ l. next ++ l) left_is ∙ append-nil next ∙ next_is ∙ ap (λ l. l ++ part) pushed_is

-- one part is put behind another
pub two_more : (before between behind first second : List ℕ) → between ≡ before ++ first → behind ≡ between ++ second → behind ≡ before ++ (first ++ second)
two_more before between behind first second one two = two ∙ ap (λ l. l ++ second) one ∙ append_assoc before first second

-- of what was put where memory was had
pub on_ok : {X E : Type 0} (r : Result X E) (P Q : Type 0) → (P → Q) → OnOk r P → OnOk r Q
on_ok (Ok x) P Q f p = f p
on_ok (Err e) P Q f p = tt

-- a place: its title, and behind it the number of an instruction and perhaps an offset
pub place_more : (before text line plus_line number_line behind title plus number offset : List ℕ) → text ++ line ≡ before ++ title → plus_line ≡ line ++ plus → number_line ≡ plus_line ++ number
    → behind ≡ (text ++ number_line) ++ offset → behind ≡ before ++ (title ++ (plus ++ (number ++ offset)))
place_more before text line plus_line number_line behind title plus number offset title_is plus_is number_is offset_is =
    let numbered = two_more (text ++ plus_line) (text ++ number_line) behind number offset (line_more text plus_line number_line number number_is) offset_is in
    let behind_title = two_more (text ++ line) (text ++ plus_line) behind plus (number ++ offset) (line_more text line plus_line plus plus_is) numbered in
    two_more before (text ++ line) behind title (plus ++ (number ++ offset)) title_is behind_title

-- three texts and a space, and more behind them
pub spaced : (a b c rest : List ℕ) → (a ++ (b ++ (c ++ 32 ∷ []))) ++ rest ≡ a ++ (b ++ (c ++ (32 ∷ rest)))
spaced a b c rest = append_assoc a (b ++ (c ++ 32 ∷ [])) rest ∙ ap (λ l. a ++ l) (append_assoc b (c ++ 32 ∷ []) rest ∙ ap (λ l. b ++ l) (append_assoc c (32 ∷ []) rest))

-- a line: the event, where it stands and what it did
pub event_more : (before text line event_line next behind a b c standing done : List ℕ) → text ++ line ≡ before → event_line ≡ line ++ (a ++ (b ++ (c ++ 32 ∷ []))) → next ≡ (text ++ event_line) ++ standing
    → behind ≡ next ++ done → behind ≡ before ++ (a ++ (b ++ (c ++ (32 ∷ (standing ++ done)))))
event_more before text line event_line next behind a b c standing done before_is event_is next_is behind_is =
    let stood = two_more (text ++ event_line) next behind standing done next_is behind_is in
    let event = two_more (text ++ line) (text ++ event_line) behind (a ++ (b ++ (c ++ 32 ∷ []))) (standing ++ done) (line_more text line event_line _ event_is) stood in
    event ∙ ap (λ l. l ++ ((a ++ (b ++ (c ++ 32 ∷ []))) ++ (standing ++ done))) before_is ∙ ap (λ l. before ++ l) (spaced a b c (standing ++ done))
