-- Lines judged one after the other.
use Rattle.std.proofs.Common.{◌≡◌, ◌≢◌, ℕ, List, [], ◌∷◌, ◌++◌, refl, ap, subst, ◌∙◌, inl, inr, append_assoc}
use Rattle.std.specs.Prelude.{Option}
use Rattle.log_pieces.specs.Piece.{PieceValue}
use Rattle.replica.specs.declared.replica.Replica.{Replica}
use Rattle.replica.specs.declared.skipping.Skipped.{Skipped}
use Rattle.replica.specs.Lines.{HasNoEnd}
use Rattle.replica.specs.Judged.{IsJudged, BeginsJudged, HasFound, Finds}

-- more comes behind
judged_got : (text rest got : List ℕ) (lines : List (Option PieceValue)) → BeginsJudged text lines rest → BeginsJudged (text ++ got) lines (rest ++ got)
judged_got text rest got [] h = ap (λ l. l ++ got) h
judged_got text rest got (judged ∷ more) h = (h.0, h.1 ++ got, h.2, h.3, ap (λ l. l ++ got) h.4 ∙ append_assoc h.0 (10 ∷ h.1) got, judged_got h.1 rest got more h.5)

-- one line more
judged_more : (text held line rest : List ℕ) (lines : List (Option PieceValue)) (judged : Option PieceValue) → HasNoEnd line → IsJudged (line ++ 10 ∷ []) judged → held ≡ line ++ 10 ∷ rest
    → BeginsJudged text lines held → BeginsJudged text (lines ++ judged ∷ []) rest
judged_more text held line rest [] judged no_end is parts h = (line, rest, no_end, is, h ∙ parts, refl)
judged_more text held line rest (first ∷ more) judged no_end is parts h = (h.0, h.1, h.2, h.3, h.4, judged_more h.1 held line rest more judged no_end is parts h.5)

-- what was found so far
pub record FoundSoFar {Source : Type 0} (brings : List ℕ → Source → Type 0) (source : Source) (chunk : List ℕ) (found : Option Replica) (skipped : Skipped) : Type 0 where
  pub got : List ℕ
  pub came : brings got source
  pub lines : List (Option PieceValue)
  pub begins : BeginsJudged got lines chunk
  pub has_found : HasFound lines found skipped

module _ {Source : Type 0} (brings : List ℕ → Source → Type 0) (step : Source → List ℕ → Source → Type 0) (more_brought : (s t : Source) (got more : List ℕ) → brings got s → step s more t → brings (got ++ more) t) where
  module _ (source : Source) (chunk : List ℕ) (found : Option Replica) (skipped : Skipped) (so_far : FoundSoFar brings source chunk found skipped) (next : Source) (more : List ℕ) (came : step source more next) where
    all_came : brings (so_far.got ++ more) next
    all_came = more_brought source next so_far.got more so_far.came came

    all_begins : BeginsJudged (so_far.got ++ more) so_far.lines (chunk ++ more)
    all_begins = judged_got so_far.got chunk more so_far.lines so_far.begins

    pub found_end : (ended : Type 0) → ended → chunk ++ more ≡ [] → Finds brings ended next found skipped
    found_end ended end none = record {
      text = so_far.got ++ more;
      came = all_came;
      end = end;
      lines = so_far.lines;
      judged = inl (subst (λ (l : List ℕ). BeginsJudged (so_far.got ++ more) so_far.lines l) none all_begins);
      has_found = so_far.has_found;
    }

    module _ (line : List ℕ) (judged : Option PieceValue) (found' : Option Replica) (skipped' : Skipped) (no_end : HasNoEnd line) (is : IsJudged (line ++ 10 ∷ []) judged)
        (put : (lines : List (Option PieceValue)) → HasFound lines found skipped → HasFound (lines ++ judged ∷ []) found' skipped') where
      pub found_line : (later : List ℕ) → chunk ++ more ≡ line ++ 10 ∷ later → FoundSoFar brings next later found' skipped'
      found_line later parts = record {
        got = so_far.got ++ more;
        came = all_came;
        lines = so_far.lines ++ judged ∷ [];
        begins = judged_more (so_far.got ++ more) (chunk ++ more) line later so_far.lines judged no_end is parts all_begins;
        has_found = put so_far.lines so_far.has_found;
      }

      pub found_last : (ended : Type 0) → ended → line ≢ [] → chunk ++ more ≡ line → Finds brings ended next found' skipped'
      found_last ended end some parts = record {
        text = so_far.got ++ more;
        came = all_came;
        end = end;
        lines = so_far.lines ++ judged ∷ [];
        judged = inr (record {
          before = so_far.lines;
          last = judged;
          line = line;
          parts = refl;
          begins = subst (λ (l : List ℕ). BeginsJudged (so_far.got ++ more) so_far.lines l) parts all_begins;
          some = some;
          no_end = no_end;
          judged = is;
        });
        has_found = put so_far.lines so_far.has_found;
      }
