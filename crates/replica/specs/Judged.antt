-- What the lines of a text are, and what is gathered where bad lines and those of other runs are passed over.
use Rattle.std.specs.Prelude.{◌≡◌, ◌≢◌, ℕ, ◌-◌, ◌^◌, List, [], ◌∷◌, ◌++◌, length, min, ◌⊎◌, Option, Some, None}
use Rattle.wasm_types.specs.declared.key.RunKey.{RunKey}
use Rattle.log_pieces.specs.Piece.{PieceValue}
use Rattle.log_pieces.specs.Line.{IsLineOf}
use Rattle.replica.specs.declared.replica.Replica.{Replica}
use Rattle.replica.specs.declared.form.ListingForm.{ListingForm}
use Rattle.replica.specs.declared.skipping.Skipped.{Skipped}
use Rattle.replica.specs.Log.{log_of}
use Rattle.replica.specs.Lines.{HasNoEnd}
use Rattle.replica.specs.Gathered.{IsGathered, IsListing}

-- a line's piece, or nothing where it is no piece line
abbrev pub IsJudged : List ℕ → Option PieceValue → Type 0
IsJudged line None = (piece : PieceValue) → IsLineOf line piece → ⊥
IsJudged line (Some piece) = IsLineOf line piece

-- the text begins with lines that are judged so, and this is what stands behind them
abbrev pub BeginsJudged : List ℕ → List (Option PieceValue) → List ℕ → Type 0
BeginsJudged text [] rest = text ≡ rest
BeginsJudged text (judged ∷ more) rest =
    (line behind : List ℕ) × HasNoEnd line × IsJudged (line ++ 10 ∷ []) judged × (text ≡ line ++ 10 ∷ behind) × BeginsJudged behind more rest

-- the last line lacks its end, but has some byte
pub record EndsOpen (text : List ℕ) (lines : List (Option PieceValue)) : Type 0 where
  pub before : List (Option PieceValue)
  pub last : Option PieceValue
  pub line : List ℕ
  pub parts : lines ≡ before ++ last ∷ []
  pub begins : BeginsJudged text before line
  pub some : line ≢ []
  pub no_end : HasNoEnd line
  pub judged : IsJudged (line ++ 10 ∷ []) last

-- the lines of the text are judged so, one by one
abbrev pub AreJudged : List ℕ → List (Option PieceValue) → Type 0
AreJudged text lines = BeginsJudged text lines [] ⊎ EndsOpen text lines

-- the pieces of the good lines
abbrev pub good : List (Option PieceValue) → List PieceValue
good [] = []
good (None ∷ lines) = good lines
good (Some piece ∷ lines) = piece ∷ good lines

-- those of that run, in their order
abbrev pub AreThoseOf : RunKey → List PieceValue → List PieceValue → Type 0
AreThoseOf key [] kept = kept ≡ []
AreThoseOf key (piece ∷ pieces) kept =
    ((piece.key ≡ key) × (rest : List PieceValue) × (kept ≡ piece ∷ rest) × AreThoseOf key pieces rest) ⊎ ((piece.key ≢ key) × AreThoseOf key pieces kept)

-- those of the first one's run
abbrev pub AreKept : List PieceValue → List PieceValue → Type 0
AreKept [] kept = kept ≡ []
AreKept (first ∷ pieces) kept = AreThoseOf first.key (first ∷ pieces) kept

-- a number that stays at the greatest u64
abbrev pub in_u64 : ℕ → ℕ
in_u64 n = min n (2 ^ 64 - 1)

-- of these lines so many are bad, so many are of another run than the first good one, and the pieces of the others are
-- kept
pub record IsSkipped (lines : List (Option PieceValue)) (skipped : Skipped) (kept : List PieceValue) : Type 0 where
  pub are_kept : AreKept (good lines) kept
  pub bad : skipped.bad ≡ in_u64 (length lines - length (good lines))
  pub foreign : skipped.foreign ≡ in_u64 (length (good lines) - length kept)

-- a replica of the log of these pieces, or nothing where there are none
abbrev pub IsFound : List PieceValue → Option Replica → Type 0
IsFound [] found = found ≡ None
IsFound (first ∷ pieces) found = (replica : Replica) × (found ≡ Some replica) × IsGathered (first ∷ pieces) (log_of replica)

-- what was found in these lines
pub record HasFound (lines : List (Option PieceValue)) (found : Option Replica) (skipped : Skipped) : Type 0 where
  pub kept : List PieceValue
  pub is_skipped : IsSkipped lines skipped kept
  pub is_found : IsFound kept found

module _ {Source : Type 0} (brings : List ℕ → Source → Type 0) where
  -- the source brought a text, up to its end, and this was found in its lines
  pub record Finds (ended : Type 0) (source : Source) (found : Option Replica) (skipped : Skipped) : Type 0 where
    pub text : List ℕ
    pub came : brings text source
    pub end : ended
    pub lines : List (Option PieceValue)
    pub judged : AreJudged text lines
    pub has_found : HasFound lines found skipped

  -- the source brought a text, up to its end, and the listing of the pieces that are kept of its lines went where
  -- `takes` says
  pub record Skips (form : ListingForm) (ended : Type 0) (source : Source) (skipped : Skipped) (takes : List ℕ → Type 0) : Type 0 where
    pub text : List ℕ
    pub came : brings text source
    pub end : ended
    pub lines : List (Option PieceValue)
    pub judged : AreJudged text lines
    pub kept : List PieceValue
    pub is_skipped : IsSkipped lines skipped kept
    pub listed : List ℕ
    pub is_listing : IsListing form kept listed
    pub taken : takes listed
