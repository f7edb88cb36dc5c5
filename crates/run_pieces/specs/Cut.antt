-- The pieces into which a recorded run is cut.
use Rattle.std.specs.Prelude.{◌≡◌, ℕ, ◌+◌, ◌-◌, ◌*◌, ◌/◌, ◌<◌, ◌≤◌, ◌==◌, cond, List, [], ◌∷◌, ◌++◌, length, map, take, drop, Option, Some, None}
use Rattle.std.specs.List.{range_with_len}
use Rattle.wasm_types.specs.declared.key.RunKey.{RunKey}
use Rattle.log_pieces.specs.declared.end.End.{End}
use Rattle.log_pieces.specs.Piece.{PieceValue}
use Rattle.recorder.specs.ThreadLogAt.{ThreadLogAt}
use Rattle.run_pieces.specs.declared.fault.PiecesFault.{PiecesFault}
use Rattle.run_pieces.specs.declared.fault.PiecesFault.TheVariants.{Empty, TooMany, NoMemory}

-- one piece for each `size` entries, and one for what is left; a thread without entries gives one piece
abbrev pub piece_count : ℕ → ℕ → ℕ
piece_count size entries = (entries - 1) / size + 1

-- the thread's end, with its last piece
abbrev pub end_at : ThreadLogAt → ℕ → ℕ → Option End
end_at log size index = cond (index + 1 == piece_count size (length log.entries)) (Some log.end) None

-- one piece of a thread: `size` entries, and in the last piece as many as are left
abbrev pub piece_at : RunKey → ℕ → ThreadLogAt → ℕ → ℕ → PieceValue
piece_at key thread log size index = record {
  key = key;
  thread = thread;
  first = index * size;
  entries = take size (drop (index * size) log.entries);
  end = end_at log size index;
}

-- a thread's pieces, by rising place
abbrev pub thread_pieces : RunKey → ℕ → ThreadLogAt → ℕ → List PieceValue
thread_pieces key thread log size = map (piece_at key thread log size) (range_with_len 0 (piece_count size (length log.entries)))

-- the pieces of threads that are numbered from `thread` on, by rising thread
abbrev pub pieces_from : RunKey → ℕ → List ThreadLogAt → ℕ → List PieceValue
pieces_from key thread [] size = []
pieces_from key thread (log ∷ logs) size = thread_pieces key thread log size ++ pieces_from key (thread + 1) logs size

abbrev pub pieces_of : RunKey → List ThreadLogAt → ℕ → List PieceValue
pieces_of key threads size = pieces_from key 0 threads size

-- when there are no pieces of that size
abbrev pub IsPiecesFault : ℕ → PiecesFault → Type 0
IsPiecesFault size Empty = size ≡ 0
IsPiecesFault size TooMany = 4096 < size
IsPiecesFault size NoMemory = (0 < size) × (size ≤ 4096)
