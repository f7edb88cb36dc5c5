-- The first 14,000,001 bytes of a text are judged as the whole text is: a line of a schedule has at most 14 bytes with
-- its end, and brings a pick.
use Rattle.std.proofs.Common.{◌≡◌, ℕ, ◌+◌, ◌-◌, ◌*◌, ◌^◌, ◌<◌, ◌≤◌, Bool, true, false, List, [], ◌∷◌, ◌++◌, length, take, drop, refl, sym, ap, subst, ◌∙◌, inl, inr, arith, codes, lit<}
use Rattle.std.specs.Prelude.{Option, Some, None, Result, Err, ℤ, pos, negsuc, cond, nat_le, slice_index, ◌==◌, ◌&&◌}
use Rattle.std.specs.List.{onto_first}
use Rattle.std.specs.Str.{bytes_eq}
use Rattle.std.specs.Fmt.{decimal}
use Rattle.std.specs.Str.Parse.{signed_digits_value}
use Rattle.std.specs.Cmp.{first_so, second_so}
use Rattle.std.proofs.Math.Seq.{take-length}
use Rattle.std.proofs.lemmas.Bool.{cond-true, cond-false, leb-true, lt-leb, lt-ltb, cases_lt}
use Rattle.std.proofs.lemmas.Option.{cond_some}
use Rattle.std.proofs.lemmas.List.{append-nil, length-take, length-append, length-replicate, take_all, take-take, take-append-le, take-append-drop}
use Rattle.std.proofs.lemmas.Fmt.{length-decimal-le}
use Rattle.std.proofs.lemmas.Slice.Eq.{bytes_eq-Decides}
use Rattle.text_lines.specs.Parts.{parts, words, without_last_end}
use Rattle.text_lines.specs.Integers.{is_decimal}
use Rattle.text_lines.proofs.DecimalLemmas.{text_is_decimal}
use Rattle.event_core.specs.declared.pick.Pick.{Pick}
use Rattle.event_core.specs.declared.pick.Input.{Input}
use Rattle.event_core.specs.declared.pick.Input.TheVariants.{Go, TimeOut}
use Rattle.pick_schedule.specs.Schedule.{in_range, number_in, picks_by, picks_of, behind, line_by, picks_from, schedule_of}
use Rattle.pick_schedule.proofs.Lines.{lines_are}

-- ---- parts, with a byte behind each

size : List (List ℕ) → ℕ
size [] = 0
size (part ∷ others) = length part + 1 + size others

size_step : (b : ℕ) (others : List (List ℕ)) (is : Bool) → 0 < size others → size (cond is ([] ∷ others) (onto_first b others)) ≡ size others + 1
unfolding size
size_step b [] is h = absurd (omega arith)
size_step b (part ∷ others) true h = omega arith
size_step b (part ∷ others) false h = omega arith

sized : (c : ℕ) (bytes : List ℕ) → size (parts c bytes) ≡ length bytes + 1
unfolding size
sized c [] = refl
sized c (b ∷ bs) = let n = sized c bs in size_step b (parts c bs) (b == c) (omega (arith, n)) ∙ omega (arith, n)

-- ---- parts of a text that goes on

-- the second begins with the parts of the first, of which the last may go on
Goes : List (List ℕ) → List (List ℕ) → Type 0
Goes [] others = ⊥
Goes (part ∷ parts) [] = ⊥
Goes (part ∷ []) (other ∷ others) = length part ≤ length other
Goes (part ∷ next ∷ parts) (other ∷ others) = (part ≡ other) × Goes (next ∷ parts) others

goes_step : (b : ℕ) (some more : List (List ℕ)) (is : Bool) → Goes some more → Goes (cond is ([] ∷ some) (onto_first b some)) (cond is ([] ∷ more) (onto_first b more))
unfolding Goes
goes_step b [] more is g = absurd g
goes_step b (part ∷ parts) [] is g = absurd g
goes_step b (part ∷ parts) (other ∷ others) true g = (refl, g)
goes_step b (part ∷ []) (other ∷ others) false g = omega (arith, g)
goes_step b (part ∷ next ∷ parts) (other ∷ others) false g = (ap (λ l. b ∷ l) g.0, g.1)

none_goes : (others : List (List ℕ)) → 0 < size others → Goes ([] ∷ []) others
unfolding size Goes
none_goes [] h = absurd (omega arith)
none_goes (other ∷ others) h = omega arith

goes : (c : ℕ) (bytes more : List ℕ) → Goes (parts c bytes) (parts c (bytes ++ more))
goes c [] more = none_goes (parts c more) (let n = sized c more in omega (arith, n))
goes c (b ∷ bs) more = goes_step b (parts c bs) (parts c (bs ++ more)) (b == c) (goes c bs more)

-- ---- lines of a schedule are short

passed_number : (is : Bool) (o : Option ℕ) (n : ℕ) → cond is o None ≡ Some n → (is ≡ true) × (o ≡ Some n)
passed_number true o n e = (refl, e)
passed_number false o n e = absurd cc

-- a number of these has few digits
number_short : (least most k n : ℕ) (text : List ℕ) → number_in least most text ≡ Some n → most < 10 ^ k → 0 < k → most < 2 ^ 64 → (length text ≤ k) × (least ≤ n)
number_short least most k n text e few some fits = ranged (signed_digits_value 10 text) refl (passed_number (is_decimal text) (in_range least most (signed_digits_value 10 text)) n e)
  where
    ranged : (z : ℤ) → signed_digits_value 10 text ≡ z → (is_decimal text ≡ true) × (in_range least most z ≡ Some n) → (length text ≤ k) × (least ≤ n)
    ranged (pos m) v h =
        let r = cond_some (nat_le least m && nat_le m most) m n h.1 in
        let low : least ≤ m = leb-true _ _ (first_so _ _ r.0) in
        let high : m ≤ most = leb-true _ _ (second_so _ _ r.0) in
        let same : text ≡ decimal m = text_is_decimal text (pos m) m (cond-true _ _ _ (lt-ltb m (2 ^ 64) (omega (arith, high, fits)))) h.0 v in
        let short : length (decimal m) ≤ k = length-decimal-le k m some (omega (arith, high, few)) (omega (arith, high, fits)) in
        (subst (λ (l : List ℕ). length l ≤ k) (sym same) short, omega (arith, low, r.1))
    ranged (negsuc m) v h = absurd (let none : in_range least most (negsuc m) ≡ Some n = h.1 in cc)

passed : (is : Bool) (o : Option (List Pick)) (picks : List Pick) → cond is o None ≡ Some picks → (is ≡ true) × (o ≡ Some picks)
passed true o picks e = (refl, e)
passed false o picks e = absurd cc

abbrev number_or_none : Option ℕ → ℕ
number_or_none None = 0
number_or_none (Some n) = n

abbrev picks_in : Option (List Pick) → List Pick
picks_in None = []
picks_in (Some picks) = picks

by_numbers : (input : Input) (a b : Option ℕ) (picks : List Pick) → picks_by input a b ≡ Some picks → (thread count : ℕ) × (a ≡ Some thread) × (b ≡ Some count) × (length picks ≡ count)
by_numbers input None b picks e = absurd cc
by_numbers input (Some thread) None picks e = absurd cc
by_numbers input (Some thread) (Some count) picks e = (thread, count, refl, refl, ap (λ (o : Option (List Pick)). length (picks_in o)) (sym e) ∙ length-replicate count _)

few : (ws : List (List ℕ)) (picks : List Pick) → picks_of ws ≡ Some picks → (size ws ≤ 14) × (0 < length picks)
unfolding size
few [] picks e = absurd cc
few (word ∷ []) picks e = absurd cc
few (word ∷ thread ∷ []) picks e =
    let p = passed (bytes_eq word (codes "out")) (picks_by TimeOut (number_in 0 15 thread) (Some 1)) picks e in
    let same : length word ≡ 3 = ap (λ (l : List ℕ). length l) ((bytes_eq-Decides word (codes "out")).0 p.0) in
    let n = by_numbers TimeOut (number_in 0 15 thread) (Some 1) picks p.1 in
    let short = number_short 0 15 2 n.0 thread n.2 (lit< tt) (lit< tt) (lit< tt) in
    let one : 1 ≡ n.1 = ap (λ (o : Option ℕ). number_or_none o) n.3 in
    (omega (arith, same, short.0), omega (arith, one, n.4))
few (word ∷ thread ∷ count ∷ []) picks e =
    let p = passed (bytes_eq word (codes "go")) (picks_by Go (number_in 0 15 thread) (number_in 1 1000000 count)) picks e in
    let same : length word ≡ 2 = ap (λ (l : List ℕ). length l) ((bytes_eq-Decides word (codes "go")).0 p.0) in
    let n = by_numbers Go (number_in 0 15 thread) (number_in 1 1000000 count) picks p.1 in
    let short = number_short 0 15 2 n.0 thread n.2 (lit< tt) (lit< tt) (lit< tt) in
    let times = number_short 1 1000000 7 n.1 count n.3 (lit< tt) (lit< tt) (lit< tt) in
    (omega (arith, same, short.0, times.0), omega (arith, times.1, n.4))
few (word ∷ thread ∷ count ∷ more ∷ others) picks e = absurd cc

line_short : (line : List ℕ) (picks : List Pick) → picks_of (words line) ≡ Some picks → (length line ≤ 13) × (0 < length picks)
line_short line picks e =
    let h = few (words line) picks e in
    let n = sized 32 line in
    (omega (arith, h.0, n), h.1)

-- ---- the first faulty line

refused_by : (number room : ℕ) (o : Option (List Pick)) (rest : ℕ → Result (List Pick) ℕ) → ((picks : List Pick) → o ≡ Some picks → room < length picks) → line_by number room o rest ≡ Err number
refused_by number room None rest many = refl
refused_by number room (Some picks) rest many = cond-false _ _ _ (lt-leb _ _ (many picks refl))

chosen : (is : Bool) (a b c : Result (List Pick) ℕ) → (is ≡ true → a ≡ b) → cond is a c ≡ cond is b c
chosen true a b c same = same refl
chosen false a b c same = refl

same_by : (number room : ℕ) (o : Option (List Pick)) (rest others : ℕ → Result (List Pick) ℕ)
    → ((picks : List Pick) → o ≡ Some picks → length picks ≤ room → rest (room - length picks) ≡ others (room - length picks)) → line_by number room o rest ≡ line_by number room o others
same_by number room None rest others same = refl
same_by number room (Some picks) rest others same =
    chosen (nat_le (length picks) room) (behind picks (rest (room - length picks))) (behind picks (others (room - length picks))) (Err number)
    (λ is. ap (behind picks) (same picks refl (leb-true _ _ is)))

-- lines with more bytes than picks can have are refused within them, whatever stands behind them
judged : (number room : ℕ) (some more : List (List ℕ)) → Goes some more → 14 * room < size some → picks_from number room more ≡ picks_from number room some
unfolding size Goes
judged number room [] more g many = absurd g
judged number room (line ∷ rest) [] g many = absurd g
judged number room (line ∷ []) (other ∷ others) g many =
    refused_by number room (picks_of (words other)) (λ left. picks_from (number + 1) left others) (λ picks e. let h = line_short other picks e in omega (arith, h.0, h.1, g, many))
    ∙ sym (refused_by number room (picks_of (words line)) (λ left. picks_from (number + 1) left []) (λ picks e. let h = line_short line picks e in omega (arith, h.0, h.1, many)))
judged number room (line ∷ next ∷ rest) (other ∷ others) g many =
    ap (λ (l : List ℕ). picks_from number room (l ∷ others)) (sym g.0)
    ∙ same_by number room (picks_of (words line)) (λ left. picks_from (number + 1) left others) (λ left. picks_from (number + 1) left (next ∷ rest))
    (λ picks e fits. let h = line_short line picks e in judged (number + 1) (room - length picks) (next ∷ rest) others g.1 (omega (arith, h.0, h.1, fits, many)))

-- ---- the end of the last line

kept_by : (text : List ℕ) (is : Bool) → (k : ℕ) × (length text ≤ k + 1) × (k ≤ length text) × (cond is (take (length text - 1) text) text ≡ take k text)
kept_by text true = (length text - 1, omega arith, omega arith, refl)
kept_by text false = (length text, omega arith, omega arith, sym (take-length text))

kept : (text : List ℕ) → (k : ℕ) × (length text ≤ k + 1) × (k ≤ length text) × (without_last_end text ≡ take k text)
kept text = kept_by text (slice_index text (length text - 1) == 10)

goes_on : (text more : List ℕ) → 0 < length more → (rest : List ℕ) × (without_last_end (text ++ more) ≡ without_last_end text ++ rest)
goes_on text more some =
    let a = kept text in
    let b = kept (text ++ more) in
    let n : length (text ++ more) ≡ length text + length more = length-append text more in
    let first : take a.0 (take b.0 (text ++ more)) ≡ without_last_end text = take-take a.0 b.0 (text ++ more) (omega (arith, a.2, b.1, n)) ∙ take-append-le a.0 text more a.2 ∙ sym a.3 in
    (drop a.0 (take b.0 (text ++ more)), b.3 ∙ sym (take-append-drop a.0 (take b.0 (text ++ more))) ∙ ap (λ (l : List ℕ). l ++ drop a.0 (take b.0 (text ++ more))) first)

long_by : (text more : List ℕ) → 14000000 < length text → 0 < length more → schedule_of (text ++ more) ≡ schedule_of text
long_by text more long some =
    let on = goes_on text more some in
    let n : length (text ++ more) ≡ length text + length more = length-append text more in
    let a = kept text in
    let m : length (without_last_end text) ≡ a.0 = ap (λ (l : List ℕ). length l) a.3 ∙ length-take a.0 text ∙ omega (arith, a.2) in
    let bytes : size (parts 10 (without_last_end text)) ≡ length (without_last_end text) + 1 = sized 10 (without_last_end text) in
    ap (picks_from 1 1000000) (lines_are (text ++ more) (omega (arith, n, some)))
    ∙ ap (λ (l : List ℕ). picks_from 1 1000000 (parts 10 l)) on.1
    ∙ judged 1 1000000 (parts 10 (without_last_end text)) (parts 10 (without_last_end text ++ on.0)) (goes 10 (without_last_end text) on.0) (omega (arith, bytes, m, a.1, long))
    ∙ ap (picks_from 1 1000000) (sym (lines_are text (omega (arith, long))))

long : (text more : List ℕ) → 14000000 < length text → schedule_of (text ++ more) ≡ schedule_of text
long text [] h = ap schedule_of (append-nil text)
long text (b ∷ bs) h = long_by text (b ∷ bs) h (omega arith)

pub beginning_judged : (text : List ℕ) → schedule_of (take 14000001 text) ≡ schedule_of text
beginning_judged text = elim (cases_lt 14000001 (length text)) [
  | inl more ↦ sym (ap schedule_of (sym (take-append-drop 14000001 text)) ∙ long (take 14000001 text) (drop 14000001 text) (let n = length-take 14000001 text in omega (arith, n, more)))
  | inr few ↦ ap schedule_of (take_all 14000001 text few)
]
