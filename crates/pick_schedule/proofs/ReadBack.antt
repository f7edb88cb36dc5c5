-- What a schedule is written as is read back as its picks.
use Rattle.std.proofs.Common.{◌≡◌, ℕ, zero, suc, ◌+◌, ◌-◌, ◌^◌, ◌<◌, ◌≤◌, Bool, true, false, List, [], ◌∷◌, ◌++◌, length, take, get_or, slice_index, refl, sym, ap, subst, ◌∙◌, arith, codes, lit<, append_assoc}
use Rattle.std.specs.Prelude.{Option, Some, None, Ok, Err, pos, replicate, ◌==◌, ◌&&◌, nat_le}
use Rattle.std.specs.List.{flat_map}
use Rattle.std.specs.Fmt.{decimal}
use Rattle.std.specs.Str.{bytes_eq}
use Rattle.std.specs.Str.Parse.{signed_digits_value}
use Rattle.std.specs.Cmp.{first_so, second_so}
use Rattle.std.proofs.Math.Seq.{get_or-append_seam, take-append_seam}
use Rattle.std.proofs.lemmas.Bool.{cond-true, cond-false, leb-true, le-leb, lt-leb, lt-ltb, eq-eqb, ne_eqb}
use Rattle.std.proofs.lemmas.List.{append-nil, length-append, length-replicate}
use Rattle.std.proofs.lemmas.List.Elements.{All-cons, All-nil, All-append, All-from_get_or}
use Rattle.std.proofs.lemmas.List.Folds.{list_all-append, length-flat_map-take}
use Rattle.std.proofs.lemmas.List.Splits.{slice_split_none, slice_split_at}
use Rattle.std.proofs.lemmas.Fmt.{digits_decimal}
use Rattle.std.proofs.lemmas.Slice.Eq.{bytes_eq-Decides}
use Rattle.std.proofs.lemmas.Str.Parse.{not_in_digits}
use Rattle.text_lines.specs.Parts.{parts, words, without_last_end}
use Rattle.text_lines.specs.Integers.{is_decimal}
use Rattle.text_lines.proofs.IntegerLemmas.{model}
use Rattle.text_lines.proofs.DecimalLemmas.{decimal_is_text}
use Rattle.text_lines.proofs.SplitLemmas.{Without, AllWithout, split_joined, integers_spaceless}
use Rattle.event_core.specs.declared.pick.Pick.{Pick}
use Rattle.event_core.specs.declared.pick.Input.{Input}
use Rattle.event_core.specs.declared.pick.Input.TheVariants.{Go, TimeOut}
use Rattle.pick_schedule.specs.declared.stretches.Stretch.{Stretch}
use Rattle.pick_schedule.specs.Schedule.{in_range, number_in, picks_by, picks_of, behind, line_by, picks_from, lines_in, schedule_of}
use Rattle.pick_schedule.specs.Stretches.{picks_of as picks_of_stretch, picks_in}
use Rattle.pick_schedule.specs.Printing.{are_of_threads, AreOfThreads, go_line, out_line, lines_by, stretch_lines, text_of, schedule_text}
use Rattle.pick_schedule.proofs.Lines.{lines_are}

both : (a b : Bool) → a ≡ true → b ≡ true → (a && b) ≡ true
both a b e f = ap (λ x. x && b) e ∙ f

-- ---- lines that spell picks

-- these lines have no line end, and spell these picks, one behind the other
Spell : List (List ℕ) → List Pick → Type 0
Spell [] picks = picks ≡ []
Spell (line ∷ others) picks = (first more : List Pick) × Without 10 line × (picks_of (words line) ≡ Some first) × (picks ≡ first ++ more) × Spell others more

spell_append : (ls ms : List (List ℕ)) (ps qs : List Pick) → Spell ls ps → Spell ms qs → Spell (ls ++ ms) (ps ++ qs)
unfolding Spell
spell_append [] ms ps qs s t = subst (λ (p : List Pick). Spell ms (p ++ qs)) (sym s) t
spell_append (l ∷ ls) ms ps qs s t = (s.0, s.1 ++ qs, s.2, s.3, ap (λ (p : List Pick). p ++ qs) s.4 ∙ append_assoc s.0 s.1 qs, spell_append ls ms s.1 qs s.5 t)

spelled : (number room : ℕ) (ls : List (List ℕ)) (ps : List Pick) → Spell ls ps → length ps ≤ room → picks_from number room ls ≡ Ok ps
unfolding Spell
spelled number room [] ps s few = ap (λ (p : List Pick). Ok p) (sym s)
spelled number room (l ∷ ls) ps s few =
    let n : length ps ≡ length s.0 + length s.1 = ap (λ (p : List Pick). length p) s.4 ∙ length-append s.0 s.1 in
    let now : length s.0 ≤ room = omega (arith, n, few) in
    let later : length s.1 ≤ room - length s.0 = omega (arith, n, few) in
    ap (λ (o : Option (List Pick)). line_by number room o (λ left. picks_from (number + 1) left ls)) s.3
    ∙ cond-true (nat_le (length s.0) room) (behind s.0 (picks_from (number + 1) (room - length s.0) ls)) (Err number) (le-leb _ _ now)
    ∙ ap (behind s.0) (spelled (number + 1) (room - length s.0) ls s.1 s.5 later)
    ∙ ap (λ (p : List Pick). Ok p) (sym s.4)

spell_without : (ls : List (List ℕ)) (ps : List Pick) → Spell ls ps → AllWithout 10 ls
unfolding Spell
spell_without [] ps s = tt
spell_without (l ∷ ls) ps s = (s.2, spell_without ls s.1 s.5)

-- ---- the lines of a text of lines

ends_joined : (l : List ℕ) (ls : List (List ℕ)) → text_of (l ∷ ls) ≡ (l ++ flat_map (λ a. 10 ∷ a) ls) ++ 10 ∷ []
ends_joined l [] = append-nil (l ++ 10 ∷ []) ∙ ap (λ (x : List ℕ). x ++ 10 ∷ []) (sym (append-nil l))
ends_joined l (m ∷ ms) =
    append_assoc l (10 ∷ []) (text_of (m ∷ ms))
    ∙ ap (λ (x : List ℕ). l ++ 10 ∷ x) (ends_joined m ms)
    ∙ sym (append_assoc l (10 ∷ (m ++ flat_map (λ a. 10 ∷ a) ms)) (10 ∷ []))

lines_split : (x : List ℕ) (xs : List (List ℕ)) → Without 10 x → AllWithout 10 xs → parts 10 (x ++ flat_map (λ a. 10 ∷ a) xs) ≡ x ∷ xs
lines_split x [] s t = ap (parts 10) (append-nil x) ∙ slice_split_none (λ b. b == 10) x s
lines_split x (y ∷ ys) s t = slice_split_at (λ b. b == 10) x 10 (y ++ flat_map (λ a. 10 ∷ a) ys) s refl ∙ ap (λ (l : List (List ℕ)). x ∷ l) (lines_split y ys t.0 t.1)

last_end : (x : List ℕ) → without_last_end (x ++ 10 ∷ []) ≡ x
last_end x =
    let m = length-append x (10 ∷ []) in
    let n : length (x ++ 10 ∷ []) - 1 ≡ length x = omega (arith, m) in
    cond-true _ _ _ (ap (λ (k : ℕ). slice_index (x ++ 10 ∷ []) k == 10) n ∙ eq-eqb _ _ (get_or-append_seam x 10 [] 0))
    ∙ ap (λ (k : ℕ). take k (x ++ 10 ∷ [])) n
    ∙ take-append_seam x (10 ∷ [])

lines_back : (ls : List (List ℕ)) → AllWithout 10 ls → lines_in (text_of ls) ≡ ls
lines_back [] w = refl
lines_back (l ∷ ls) w =
    let joined : List ℕ = l ++ flat_map (λ a. 10 ∷ a) ls in
    let n = length-append joined (10 ∷ []) in
    ap lines_in (ends_joined l ls)
    ∙ lines_are (joined ++ 10 ∷ []) (omega (arith, n))
    ∙ ap (parts 10) (last_end joined)
    ∙ lines_split l ls w.0 w.1

-- ---- the words of a line that is written

decimal_is : (n : ℕ) → n < 2 ^ 64 → (is_decimal (decimal n) ≡ true) × (signed_digits_value 10 (decimal n) ≡ pos n)
decimal_is n h = decimal_is_text (pos n) n (cond-true _ _ _ (lt-ltb n (2 ^ 64) h))

digits_without : (c n : ℕ) → c < 48 → n < 2 ^ 64 → Without c (decimal n)
digits_without c n low h =
    All-from_get_or (λ b. (b == c) ≡ false) (decimal n) 0 (λ k lt. ne_eqb _ _ (not_in_digits model (decimal n) c (digits_decimal model n h) (λ r. omega (arith, r.0, low)) k lt))

number_read : (least most n : ℕ) → least ≤ n → n ≤ most → n < 2 ^ 64 → number_in least most (decimal n) ≡ Some n
number_read least most n low high h =
    let d = decimal_is n h in
    cond-true _ _ _ d.0 ∙ ap (in_range least most) d.1 ∙ cond-true _ _ _ (both _ _ (le-leb _ _ low) (le-leb _ _ high))

go_without : (c : ℕ) → (103 == c) ≡ false → (111 == c) ≡ false → Without c (codes "go")
go_without c g o = All-cons (λ b. (b == c) ≡ false) 103 (111 ∷ []) g (All-cons (λ b. (b == c) ≡ false) 111 [] o (All-nil (λ b. (b == c) ≡ false)))

out_without : (c : ℕ) → (111 == c) ≡ false → (117 == c) ≡ false → (116 == c) ≡ false → Without c (codes "out")
out_without c o u t =
    All-cons (λ b. (b == c) ≡ false) 111 (117 ∷ 116 ∷ []) o
    (All-cons (λ b. (b == c) ≡ false) 117 (116 ∷ []) u (All-cons (λ b. (b == c) ≡ false) 116 [] t (All-nil (λ b. (b == c) ≡ false))))

go_words : (t n : ℕ) → t < 2 ^ 64 → n < 2 ^ 64 → words (go_line t n) ≡ codes "go" ∷ decimal t ∷ decimal n ∷ []
go_words t n h k =
    ap (λ (l : List ℕ). words (codes "go " ++ (decimal t ++ 32 ∷ l))) (sym (append-nil (decimal n)))
    ∙ split_joined (codes "go") (decimal t ∷ decimal n ∷ []) (go_without 32 refl refl)
    (integers_spaceless (decimal t ∷ decimal n ∷ []) (both _ _ (decimal_is t h).0 (both _ _ (decimal_is n k).0 refl)))

out_words : (t : ℕ) → t < 2 ^ 64 → words (out_line t) ≡ codes "out" ∷ decimal t ∷ []
out_words t h =
    ap (λ (l : List ℕ). words (codes "out " ++ l)) (sym (append-nil (decimal t)))
    ∙ split_joined (codes "out") (decimal t ∷ []) (out_without 32 refl refl refl) (integers_spaceless (decimal t ∷ []) (both _ _ (decimal_is t h).0 refl))

-- ---- the picks of a line that is written

go_spells : (t n : ℕ) → t ≤ 15 → 0 < n → n ≤ 1000000 → picks_of (words (go_line t n)) ≡ Some (replicate n (record { thread = t; input = Go }))
go_spells t n low some high =
    ap picks_of (go_words t n (omega (arith, low)) (omega (arith, high)))
    ∙ cond-true (bytes_eq (codes "go") (codes "go")) (picks_by Go (number_in 0 15 (decimal t)) (number_in 1 1000000 (decimal n))) None ((bytes_eq-Decides (codes "go") (codes "go")).1 refl)
    ∙ ap (λ (o : Option ℕ). picks_by Go o (number_in 1 1000000 (decimal n))) (number_read 0 15 t (omega arith) low (omega (arith, low)))
    ∙ ap (λ (o : Option ℕ). picks_by Go (Some t) o) (number_read 1 1000000 n (omega (arith, some)) high (omega (arith, high)))

out_spells : (t : ℕ) → t ≤ 15 → picks_of (words (out_line t)) ≡ Some (record { thread = t; input = TimeOut } ∷ [])
out_spells t low =
    ap picks_of (out_words t (omega (arith, low)))
    ∙ cond-true (bytes_eq (codes "out") (codes "out")) (picks_by TimeOut (number_in 0 15 (decimal t)) (Some 1)) None ((bytes_eq-Decides (codes "out") (codes "out")).1 refl)
    ∙ ap (λ (o : Option ℕ). picks_by TimeOut o (Some 1)) (number_read 0 15 t (omega arith) low (omega (arith, low)))

go_line_without : (t n : ℕ) → t < 2 ^ 64 → n < 2 ^ 64 → Without 10 (go_line t n)
go_line_without t n h k =
    All-append (λ b. (b == 10) ≡ false) (codes "go") (32 ∷ (decimal t ++ 32 ∷ decimal n)) (go_without 10 refl refl)
    (All-cons (λ b. (b == 10) ≡ false) 32 (decimal t ++ 32 ∷ decimal n) refl
    (All-append (λ b. (b == 10) ≡ false) (decimal t) (32 ∷ decimal n) (digits_without 10 t (lit< tt) h)
    (All-cons (λ b. (b == 10) ≡ false) 32 (decimal n) refl (digits_without 10 n (lit< tt) k))))

out_line_without : (t : ℕ) → t < 2 ^ 64 → Without 10 (out_line t)
out_line_without t h =
    All-append (λ b. (b == 10) ≡ false) (codes "out") (32 ∷ decimal t) (out_without 10 refl refl refl)
    (All-cons (λ b. (b == 10) ≡ false) 32 (decimal t) refl (digits_without 10 t (lit< tt) h))

outs_spell : (t n : ℕ) → t ≤ 15 → Spell (replicate n (out_line t)) (replicate n (record { thread = t; input = TimeOut }))
unfolding Spell
outs_spell t zero low = refl
outs_spell t (suc n) low =
    let pick : Pick = record { thread = t; input = TimeOut } in
    (pick ∷ [], replicate n pick, out_line_without t (omega (arith, low)), out_spells t low, refl, outs_spell t n low)

lines_spell : (input : Input) (t n : ℕ) → (0 < n → t ≤ 15) → n ≤ 1000000 → Spell (lines_by input t n) (replicate n (record { thread = t; input = input }))
unfolding Spell
lines_spell Go t zero low high = refl
lines_spell Go t (suc n) low high =
    let pick : Pick = record { thread = t; input = Go } in
    let few : t ≤ 15 = low (omega arith) in
    let one : lines_by Go t (suc n) ≡ go_line t (suc n) ∷ [] = cond-false (suc n == 0) [] (go_line t (suc n) ∷ []) (ne_eqb (suc n) 0 (λ e. omega (arith, e))) in
    let line : Spell (go_line t (suc n) ∷ []) (replicate (suc n) pick) = (
      replicate (suc n) pick,
      [],
      go_line_without t (suc n) (omega (arith, few)) (omega (arith, high)),
      go_spells t (suc n) few (omega arith) high,
      sym (append-nil (replicate (suc n) pick)),
      refl,
    ) in
    subst (λ (ls : List (List ℕ)). Spell ls (replicate (suc n) pick)) (sym one) line
lines_spell TimeOut t zero low high = refl
lines_spell TimeOut t (suc n) low high = outs_spell t (suc n) (low (omega arith))

-- ---- stretches

first_thread : (n : ℕ) (p : Pick) → 0 < n → are_of_threads (replicate n p) ≡ true → p.thread ≤ 15
first_thread zero p some h = absurd (omega arith)
first_thread (suc n) p some h = leb-true _ _ (first_so _ _ h)

all_spell : (ss : List Stretch) → AreOfThreads (picks_in ss) → length (picks_in ss) ≤ 1000000 → Spell (flat_map stretch_lines ss) (picks_in ss)
unfolding Spell
all_spell [] h few = refl
all_spell (s ∷ ss) h few =
    let e : (are_of_threads (picks_of_stretch s) && are_of_threads (picks_in ss)) ≡ true = sym (list_all-append (λ (p : Pick). nat_le p.thread 15) (picks_of_stretch s) (picks_in ss)) ∙ h in
    let n = length-append (picks_of_stretch s) (picks_in ss) in
    let k = length-replicate s.times s.pick in
    spell_append (stretch_lines s) (flat_map stretch_lines ss) (picks_of_stretch s) (picks_in ss)
    (lines_spell s.pick.input s.pick.thread s.times (λ some. first_thread s.times s.pick some (first_so _ _ e)) (omega (arith, n, k, few)))
    (all_spell ss (second_so _ _ e) (omega (arith, n, few)))

pub read_back : (ss : List Stretch) → AreOfThreads (picks_in ss) → length (picks_in ss) ≤ 1000000 → schedule_of (schedule_text ss) ≡ Ok (picks_in ss)
read_back ss h few =
    let s = all_spell ss h few in
    ap (picks_from 1 1000000) (lines_back (flat_map stretch_lines ss) (spell_without (flat_map stretch_lines ss) (picks_in ss) s))
    ∙ spelled 1 1000000 (flat_map stretch_lines ss) (picks_in ss) s few

-- ---- stretches that are refused

pub too_many : (ss : List Stretch) (i : ℕ) (d : Stretch) → i < length ss → 1000000 < length (picks_in (take i ss)) + (get_or ss i d).times → 1000000 < length (picks_in ss)
too_many ss i d lt many =
    let n = length-flat_map-take picks_of_stretch ss i d lt in
    let k = length-replicate (get_or ss i d).times (get_or ss i d).pick in
    omega (arith, n, k, many)

no_and : (a : Bool) → (a && false) ≡ false
no_and true = refl
no_and false = refl

first_refused : (n : ℕ) (p : Pick) → 0 < n → 15 < p.thread → are_of_threads (replicate n p) ≡ false
first_refused zero p some far = absurd (omega arith)
first_refused (suc n) p some far = ap (λ b. b && are_of_threads (replicate n p)) (lt-leb _ _ far)

pub of_no_thread : (ss : List Stretch) (i : ℕ) (d : Stretch) → i < length ss → 0 < (get_or ss i d).times → 15 < (get_or ss i d).pick.thread → are_of_threads (picks_in ss) ≡ false
of_no_thread [] i d lt some far = absurd (omega arith)
of_no_thread (s ∷ ss) zero d lt some far =
    list_all-append (λ (p : Pick). nat_le p.thread 15) (picks_of_stretch s) (picks_in ss)
    ∙ ap (λ b. b && are_of_threads (picks_in ss)) (first_refused s.times s.pick some far)
of_no_thread (s ∷ ss) (suc i) d lt some far =
    list_all-append (λ (p : Pick). nat_le p.thread 15) (picks_of_stretch s) (picks_in ss)
    ∙ ap (λ b. are_of_threads (picks_of_stretch s) && b) (of_no_thread ss i d (omega (arith, lt)) some far)
    ∙ no_and _

-- ---- one more stretch

pub one_more : (ss : List Stretch) (i : ℕ) (d : Stretch) → i < length ss → picks_in (take (i + 1) ss) ≡ picks_in (take i ss) ++ picks_of_stretch (get_or ss i d)
one_more [] i d lt = absurd (omega arith)
one_more (s ∷ ss) zero d lt = append-nil (picks_of_stretch s)
one_more (s ∷ ss) (suc i) d lt =
    let z : suc i + 1 ≡ suc (i + 1) = omega arith in
    ap (λ (k : ℕ). picks_in (take k (s ∷ ss))) z
    ∙ ap (λ (ps : List Pick). picks_of_stretch s ++ ps) (one_more ss i d (omega (arith, lt)))
    ∙ sym (append_assoc (picks_of_stretch s) (picks_in (take i ss)) (picks_of_stretch (get_or ss i d)))

threads_replicate : (n : ℕ) (p : Pick) → p.thread ≤ 15 → are_of_threads (replicate n p) ≡ true
threads_replicate zero p low = refl
threads_replicate (suc n) p low = both _ _ (le-leb _ _ low) (threads_replicate n p low)

pub more_of_threads : (ps : List Pick) (n : ℕ) (p : Pick) → AreOfThreads ps → p.thread ≤ 15 → AreOfThreads (ps ++ replicate n p)
more_of_threads ps n p h low = list_all-append (λ (q : Pick). nat_le q.thread 15) ps (replicate n p) ∙ both _ _ h (threads_replicate n p low)
