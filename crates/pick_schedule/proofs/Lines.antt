-- Lines of a schedule, one after another.
use Rattle.std.proofs.Common.{◌≡◌, ℕ, ◌+◌, ◌-◌, ◌<◌, ◌≤◌, Bool, true, List, [], ◌∷◌, ◌++◌, length, refl, sym, ap, ◌∙◌, arith, append_assoc}
use Rattle.std.specs.Prelude.{Option, Some, Result, Ok, Err, ◌&&◌}
use Rattle.std.proofs.lemmas.List.{append-nil}
use Rattle.std.proofs.Math.ListN.{length-append}
use Rattle.std.proofs.lemmas.Bool.{cond-true, cond-false, le-leb, lt-leb}
use Rattle.text_lines.specs.Parts.{words, lines}
use Rattle.event_core.specs.declared.pick.Pick.{Pick}
use Rattle.pick_schedule.specs.Schedule.{picks_of, behind, line_by, picks_from, lines_in, schedule_of}

-- the picks so far, the number of the next line, and the lines that are left
pub record IsReadUpTo (text : List ℕ) (picks : List Pick) (number : ℕ) (rest : List (List ℕ)) : Type 0 where
  pub at_most : length picks ≤ 1000000
  pub numbered : number ≤ length picks + 1
  pub same : schedule_of text ≡ behind picks (picks_from number (1000000 - length picks) rest)

behind_nil : (rest : Result (List Pick) ℕ) → behind [] rest ≡ rest
behind_nil (Ok picks) = refl
behind_nil (Err line) = refl

behind_more : (picks more : List Pick) (rest : Result (List Pick) ℕ) → behind picks (behind more rest) ≡ behind (picks ++ more) rest
behind_more picks more (Ok others) = ap (λ (ps : List Pick). Ok ps) (sym (append_assoc picks more others))
behind_more picks more (Err line) = refl

pub lines_are : (text : List ℕ) → 0 < length text → lines_in text ≡ lines text
lines_are [] some = absurd (omega arith)
lines_are (b ∷ bs) some = refl

pub none_read : (text : List ℕ) → 0 < length text → IsReadUpTo text [] 1 (lines text)
none_read text some = record { at_most = omega arith; numbered = omega arith; same = ap (picks_from 1 1000000) (lines_are text some) ∙ sym (behind_nil _) }

pub no_line : (text : List ℕ) → length text ≡ 0 → schedule_of text ≡ Ok []
no_line [] e = refl
no_line (b ∷ bs) e = absurd (omega arith)

pub one_more : (text : List ℕ) (picks more : List Pick) (number : ℕ) (line : List ℕ) (rest : List (List ℕ)) → IsReadUpTo text picks number (line ∷ rest)
    → picks_of (words line) ≡ Some more → 0 < length more → length more ≤ 1000000 - length picks → IsReadUpTo text (picks ++ more) (number + 1) rest
one_more text picks more number line rest read e some room =
    let n : length (picks ++ more) ≡ length picks + length more = length-append picks more in
    let next : (ℕ → Result (List Pick) ℕ) = (λ left. picks_from (number + 1) left rest) in
    record {
      at_most = omega (arith, read.at_most);
      numbered = omega (arith, read.numbered);
      same =
          read.same
          ∙ ap (λ (o : Option (List Pick)). behind picks (line_by number (1000000 - length picks) o next)) e
          ∙ ap (behind picks) (cond-true _ _ _ (le-leb _ _ room))
          ∙ behind_more picks more (picks_from (number + 1) (1000000 - length picks - length more) rest)
          ∙ ap (λ k. behind (picks ++ more) (picks_from (number + 1) k rest)) (omega (arith, n));
    }

pub too_many : (text : List ℕ) (picks more : List Pick) (number : ℕ) (line : List ℕ) (rest : List (List ℕ)) → IsReadUpTo text picks number (line ∷ rest)
    → picks_of (words line) ≡ Some more → 1000000 - length picks < length more → schedule_of text ≡ Err number
too_many text picks more number line rest read e many =
    let next : (ℕ → Result (List Pick) ℕ) = (λ left. picks_from (number + 1) left rest) in
    read.same
    ∙ ap (λ (o : Option (List Pick)). behind picks (line_by number (1000000 - length picks) o next)) e
    ∙ ap (behind picks) (cond-false _ _ _ (lt-leb _ _ many))

pub all_read : (text : List ℕ) (picks : List Pick) (number : ℕ) → IsReadUpTo text picks number [] → schedule_of text ≡ Ok picks
all_read text picks number read = read.same ∙ ap (λ (ps : List Pick). Ok ps) (append-nil picks)

-- ---- a number below two to the power of 31 is that of its 32 bits

both_true : (a b : Bool) → a ≡ true → b ≡ true → (a && b) ≡ true
both_true a b e f = ap (λ x. x && b) e ∙ f
