-- The lines behind the first, which follow `held` in what a source brings.
use Rattle.std.specs.Prelude.{◌≡◌, ◌≢◌, ℕ, suc, List, [], ◌∷◌, ◌++◌, length, ◌⊎◌}
use Rattle.wasm_types.specs.declared.key.RunKey.{RunKey}
use Rattle.log_pieces.specs.Piece.{PieceValue}
use Rattle.log_pieces.specs.Line.{IsLineOf}
use Rattle.replica.specs.declared.log.Log.{Log}
use Rattle.replica.specs.Log.{key_of}
use Rattle.replica.specs.LogOf.{IsLogOf, Among}
use Rattle.replica.specs.Lines.{HasNoEnd}
use Rattle.replica.specs.Gathered.{IsText, AreOfRun, BeginsWith, HasNoLine, line_after}

module _ {Source : Type 0} (brings : List ℕ → Source → Type 0) where
  -- they were joined to the log
  pub record RestGathered (ended : Type 0) (held : List ℕ) (source : Source) (old new : Log) : Type 0 where
    pub got : List ℕ
    pub came : brings got source
    pub end : ended
    pub pieces : List PieceValue
    pub text : IsText (held ++ got) pieces
    pub run : AreOfRun (key_of old) pieces
    pub same_run : key_of new ≡ key_of old
    pub log : (first : PieceValue) → IsLogOf (Among (first ∷ [])) old → IsLogOf (Among (first ∷ pieces)) new

  -- one of them is the first that is no piece line
  pub record RestBad (ended : Type 0) (held : List ℕ) (source : Source) (key : RunKey) (number : ℕ) : Type 0 where
    pub got : List ℕ
    pub came : brings got source
    pub pieces : List PieceValue
    pub rest : List ℕ
    pub begins : BeginsWith key (held ++ got) pieces rest
    pub counted : number ≡ line_after (suc (length pieces))
    pub bad : HasNoLine ended rest

  -- one of them is the first of another run, that of `own`
  pub record RestOther (held : List ℕ) (source : Source) (key : RunKey) (number : ℕ) (own : RunKey) : Type 0 where
    pub got : List ℕ
    pub came : brings got source
    pub pieces : List PieceValue
    pub rest : List ℕ
    pub begins : BeginsWith key (held ++ got) pieces rest
    pub counted : number ≡ line_after (suc (length pieces))
    pub piece : PieceValue
    pub line : List ℕ
    pub is_line : IsLineOf line piece
    pub stands : ((behind : List ℕ) × (rest ≡ line ++ behind)) ⊎ (rest ++ 10 ∷ [] ≡ line)
    pub of : piece.key ≡ own
    pub other : own ≢ key

  -- they are cut within a line
  pub record RestCut (held : List ℕ) (source : Source) (key : RunKey) : Type 0 where
    pub got : List ℕ
    pub came : brings got source
    pub pieces : List PieceValue
    pub rest : List ℕ
    pub begins : BeginsWith key (held ++ got) pieces rest
    pub cut : HasNoEnd rest
