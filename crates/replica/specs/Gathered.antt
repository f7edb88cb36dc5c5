-- What a text of piece lines gives.
use Rattle.std.specs.Prelude.{◌≡◌, ◌≢◌, ℕ, ◌+◌, ◌-◌, ◌^◌, ◌<◌, List, [], ◌∷◌, ◌++◌, length, min, ◌⊎◌, Option, Some, None}
use Rattle.std.specs.List.{flat_map, AllByRecursion}
use Rattle.wasm_types.specs.declared.key.RunKey.{RunKey}
use Rattle.log_pieces.specs.Piece.{PieceValue, IsPiece}
use Rattle.log_pieces.specs.Widths.{Fits}
use Rattle.log_pieces.specs.Line.{line_of, IsLineOf}
use Rattle.replica.specs.declared.log.Log.{Log}
use Rattle.replica.specs.declared.replica.Replica.{Replica}
use Rattle.replica.specs.Log.{key_of, log_of}
use Rattle.replica.specs.LogOf.{IsLogOf, Among, IsOrdered}
use Rattle.replica.specs.Lines.{HasNoEnd}
use Rattle.replica.specs.declared.form.ListingForm.{ListingForm}
use Rattle.replica.specs.Listing.{listing, empty_listing}

-- the text is the lines of these pieces
pub record AreLines (text : List ℕ) (pieces : List PieceValue) : Type 0 where
  pub rules : AllByRecursion IsPiece pieces
  pub fits : AllByRecursion Fits pieces
  pub written : text ≡ flat_map line_of pieces

-- the same, but that the last line may lack its end
abbrev pub IsText : List ℕ → List PieceValue → Type 0
IsText text pieces = AreLines text pieces ⊎ AreLines (text ++ 10 ∷ []) pieces

-- the pieces are of that run
abbrev pub AreOfRun : RunKey → List PieceValue → Type 0
AreOfRun key pieces = AllByRecursion (λ piece. piece.key ≡ key) pieces

-- the number of the line behind so many lines; it stays at the greatest u64
abbrev pub line_after : ℕ → ℕ
line_after lines = min (lines + 1) (2 ^ 64 - 1)

-- lines of pieces of that run, and what stands behind them
pub record BeginsWith (key : RunKey) (text : List ℕ) (pieces : List PieceValue) (rest : List ℕ) : Type 0 where
  pub front : List ℕ
  pub parts : text ≡ front ++ rest
  pub lines : AreLines front pieces
  pub run : AreOfRun key pieces

-- no piece line begins a text that begins so; or nothing more comes, and this is no piece line that lacks its end
abbrev pub HasNoLine : Type 0 → List ℕ → Type 0
HasNoLine ended rest =
    ((piece : PieceValue) (line more behind : List ℕ) → IsLineOf line piece → rest ++ more ≢ line ++ behind)
    ⊎ (ended × (rest ≢ []) × ((piece : PieceValue) → IsLineOf (rest ++ 10 ∷ []) piece → ⊥))

-- the line of that number is the first that is no piece line
pub record IsBadLine (ended : Type 0) (text : List ℕ) (number : ℕ) : Type 0 where
  pub key : RunKey
  pub pieces : List PieceValue
  pub rest : List ℕ
  pub begins : BeginsWith key text pieces rest
  pub counted : number ≡ line_after (length pieces)
  pub bad : HasNoLine ended rest

-- the line of that number is the first whose piece is of another run, that of `own`, than the lines before it, those of
-- `first`
pub record IsOtherRun (text : List ℕ) (number : ℕ) (own first : RunKey) : Type 0 where
  pub pieces : List PieceValue
  pub rest : List ℕ
  pub begins : BeginsWith first text pieces rest
  pub some : 0 < length pieces
  pub counted : number ≡ line_after (length pieces)
  pub piece : PieceValue
  pub line : List ℕ
  pub is_line : IsLineOf line piece
  pub stands : ((behind : List ℕ) × (rest ≡ line ++ behind)) ⊎ (rest ++ 10 ∷ [] ≡ line)
  pub of : piece.key ≡ own
  pub other : own ≢ first

-- the text is piece lines of one run, and the beginning of a line
pub record IsCutText (text : List ℕ) : Type 0 where
  pub key : RunKey
  pub pieces : List PieceValue
  pub rest : List ℕ
  pub begins : BeginsWith key text pieces rest
  pub cut : HasNoEnd rest

-- the log of these pieces
pub record IsGathered (pieces : List PieceValue) (log : Log) : Type 0 where
  pub items : IsLogOf (Among pieces) log
  pub run : AreOfRun (key_of log) pieces

-- the listing of the log of these pieces, or that of no piece
abbrev pub IsListing : ListingForm → List PieceValue → List ℕ → Type 0
IsListing form [] text = text ≡ empty_listing
IsListing form (first ∷ pieces) text = (log : Log) × IsGathered (first ∷ pieces) log × IsOrdered log × (text ≡ listing form log)

-- what was collected stands by rising place
abbrev pub found_ordered : Option Replica → Type 0
found_ordered None = Unit {0}
found_ordered (Some replica) = IsOrdered (log_of replica)

-- the listing of what was collected
abbrev pub found_listing : ListingForm → Option Replica → List ℕ
found_listing form None = empty_listing
found_listing form (Some replica) = listing form (log_of replica)

module _ {Source : Type 0} (brings : List ℕ → Source → Type 0) where
  -- the source brought lines of pieces, up to its end, and this is the log of the set of these pieces
  pub record Collects (ended : Type 0) (source : Source) (log : Log) : Type 0 where
    pub text : List ℕ
    pub came : brings text source
    pub end : ended
    pub pieces : List PieceValue
    pub lines : IsText text pieces
    pub some : 0 < length pieces
    pub gathered : IsGathered pieces log

  -- the source brought a text that is refused
  abbrev pub Refuses : Source → (List ℕ → Type 0) → Type 0
  Refuses source refused = (text : List ℕ) × brings text source × refused text

  -- the source brought lines of pieces, up to its end, and their listing went where `takes` says
  pub record Lists (form : ListingForm) (ended : Type 0) (source : Source) (takes : List ℕ → Type 0) : Type 0 where
    pub text : List ℕ
    pub came : brings text source
    pub end : ended
    pub pieces : List PieceValue
    pub lines : IsText text pieces
    pub listed : List ℕ
    pub is_listing : IsListing form pieces listed
    pub taken : takes listed
