-- The log of a set of pieces, and one more piece joined to a log.
use Rattle.std.specs.Prelude.{◌≡◌, ℕ, ◌-◌, ◌≤◌, ◌==◌, nat_lt, if◌then◌else◌, List, [], ◌∷◌, length, take, Option, Some, None, ◌⊎◌, slice_get}
use Rattle.std.specs.Option.{option_map}
use Rattle.std.specs.Ordering.{nat_cmp}
use Rattle.std.specs.List.Sorted.{IsStrictlySortedBy}
use Rattle.std.specs.Map.{keys_of}
use Rattle.rw_objects.specs.declared.entry.Entry.{Entry}
use Rattle.log_pieces.specs.declared.end.End.{End}
use Rattle.log_pieces.specs.Piece.{PieceValue}
use Rattle.log_pieces.specs.declared.flat.Flat.{Flat}
use Rattle.log_pieces.specs.declared.flat.Flat.TheVariants.{Known}
use Rattle.log_pieces.specs.Flat.{flat_joined}
use Rattle.log_pieces.specs.Keyed.{value_at, option_joined}
use Rattle.log_pieces.specs.Agreed.{IsAgreed}
use Rattle.wasm_types.specs.declared.sizes.TheConstants.{MOST_THREADS}
use Rattle.replica.specs.declared.thread_log.ThreadLog.{ThreadLog}
use Rattle.replica.specs.declared.log.Log.{Log}
use Rattle.replica.specs.Log.{key_of, entry_at, end_at}
use Rattle.replica.specs.Items.{entry_eq, end_eq, placed}

-- the piece has that entry at that place of that thread
abbrev pub ClaimsEntry : PieceValue → ℕ → ℕ → Entry → Type 0
ClaimsEntry piece thread place entry = (thread ≡ piece.thread) × (piece.first ≤ place) × (slice_get piece.entries (place - piece.first) ≡ Some entry)

-- the piece has that end of that thread
abbrev pub ClaimsEnd : PieceValue → ℕ → End → Type 0
ClaimsEnd piece thread end = (thread ≡ piece.thread) × (piece.end ≡ Some end)

-- The log of a set of pieces: at each place of each thread, and as each thread's end, nothing where no piece of the set
-- claims it, the claimed item where all claims are equal, a clash where two differ.
pub record IsLogOf (given : PieceValue → Type 0) (log : Log) : Type 0 where
  pub entries : (thread place : ℕ) → IsAgreed (λ entry. (piece : PieceValue) × given piece × ClaimsEntry piece thread place entry) (entry_at log thread place)
  pub ends : (thread : ℕ) → IsAgreed (λ end. (piece : PieceValue) × given piece × ClaimsEnd piece thread end) (end_at log thread)

-- to be one of these pieces
abbrev pub Among : List PieceValue → PieceValue → Type 0
Among [] piece = ⊥
Among (first ∷ pieces) piece = (piece ≡ first) ⊎ Among pieces piece

-- nothing is claimed
pub record IsEmpty (log : Log) : Type 0 where
  pub entries : (thread place : ℕ) → entry_at log thread place ≡ None
  pub ends : (thread : ℕ) → end_at log thread ≡ None

-- the items of a piece, as a log has them
abbrev pub piece_entry : PieceValue → ℕ → ℕ → Option (Flat Entry)
piece_entry piece thread place = if thread == piece.thread then value_at nat_cmp (placed piece.first piece.entries) place else None

abbrev pub piece_end : PieceValue → ℕ → Option (Flat End)
piece_end piece thread = if thread == piece.thread then option_map (λ end. Known end) piece.end else None

-- the old log joined, item by item, with a piece
pub record IsJoinedWith (old : Log) (piece : PieceValue) (new : Log) : Type 0 where
  pub key : key_of new ≡ key_of old
  pub entries : (thread place : ℕ) → entry_at new thread place ≡ option_joined (flat_joined entry_eq) (entry_at old thread place) (piece_entry piece thread place)
  pub ends : (thread : ℕ) → end_at new thread ≡ option_joined (flat_joined end_eq) (end_at old thread) (piece_end piece thread)

-- the first so many items of a piece: its entries by place, then its end
abbrev pub first_items : ℕ → PieceValue → PieceValue
first_items count piece = record piece { entries = take count piece.entries; end = if nat_lt (length piece.entries) count then piece.end else None }

-- there are 16 threads, and the items of each stand by rising place
pub record IsOrdered (log : Log) : Type 0 where
  pub sixteen : length log.threads ≡ MOST_THREADS
  pub rising : (i : ℕ) (thread : ThreadLog) → slice_get log.threads i ≡ Some thread → IsStrictlySortedBy nat_cmp (keys_of thread.entries)

-- the same items everywhere
pub record IsSameLog (a b : Log) : Type 0 where
  pub entries : (thread place : ℕ) → entry_at a thread place ≡ entry_at b thread place
  pub ends : (thread : ℕ) → end_at a thread ≡ end_at b thread
