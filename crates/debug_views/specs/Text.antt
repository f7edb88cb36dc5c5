-- The text of a view of a stopped replay.
use Rattle.std.specs.Prelude.{◌≡◌, ℕ, zero, suc, ◌+◌, ◌-◌, ◌*◌, ◌/◌, ◌<◌, List, [], ◌∷◌, ◌++◌, codes, length, map, take, drop, Option, Some, None, slice_get}
use Rattle.std.specs.Fmt.{decimal}
use Rattle.wasm_types.specs.Text.{outcome_text}
use Rattle.rw_objects.specs.Space.{Space}
use Rattle.rw_objects.specs.Code.{Code}
use Rattle.rw_objects.specs.declared.count.Count.{Count}
use Rattle.block_objects.specs.Objects.{block_object}
use Rattle.event_core.specs.World.{WorldAt}
use Rattle.replay_gate.specs.declared.breaks.Break.{Break}
use Rattle.replay_gate.specs.declared.breaks.Break.TheVariants as break
use Rattle.replay_gate.specs.declared.breaks.Stopped.{Stopped}
use Rattle.replay_gate.specs.declared.breaks.Stopped.TheVariants as stopped
use Rattle.debug_views.specs.Report.{note_at, shown}
use Rattle.debug_views.specs.declared.blocks.BlockRange.{BlockRange}
use Rattle.debug_views.specs.declared.threads.ThreadView.{ThreadView}
use Rattle.debug_views.specs.Blocks.{AreHolding}
use Rattle.debug_views.specs.Threads.{view_of_thread}
use Rattle.debug_views.specs.Values.{memory_bytes, bytes_of_range}

-- a stop that has a view: no fault, and a break is one of the list
abbrev pub IsShown : Stopped → List Break → Type 0
IsShown (stopped.Break index) breaks = index < length breaks
IsShown stopped.Finished breaks = Unit {0}
IsShown stopped.Stuck breaks = Unit {0}
IsShown (stopped.Fault f) breaks = ⊥

abbrev pub break_words : Option Break → List ℕ
break_words None = []
break_words (Some (break.Place thread place)) = codes "stopped place"
break_words (Some (break.Step thread steps)) = codes "stopped step"
break_words (Some (break.Write objects)) = codes "stopped write"

abbrev pub stop_words : Stopped → List Break → List ℕ
stop_words (stopped.Break index) breaks = break_words (slice_get breaks index)
stop_words stopped.Finished breaks = codes "finished"
stop_words stopped.Stuck breaks = codes "stuck"
stop_words (stopped.Fault f) breaks = []

abbrev pub thread_text : ℕ → ThreadView → List ℕ → List ℕ
thread_text thread v note = codes "thread " ++ (decimal thread ++ (codes " steps " ++ (decimal v.steps ++ (codes " places " ++ (decimal v.places ++ 32 ∷ (outcome_text v.outcome ++ (note ++ 10 ∷ [])))))))

-- threads that are numbered from `thread` on, each with its note
abbrev pub threads_text : List (List ℕ) → ℕ → List ThreadView → List ℕ
threads_text notes thread [] = []
threads_text notes thread (v ∷ vs) = thread_text thread v (note_at notes thread) ++ threads_text notes (thread + 1) vs

abbrev pub object_text : ℕ → Count → List ℕ
object_text object c = codes "object " ++ (decimal object ++ (codes " version " ++ (decimal c.version ++ (codes " reads " ++ (decimal c.reads ++ 10 ∷ [])))))

-- so many blocks, from the first on
abbrev pub objects_text : (ℕ → Count) → ℕ → ℕ → List ℕ
objects_text counts first zero = []
objects_text counts first (suc n) = objects_text counts first n ++ object_text (block_object (first + n)) (counts (block_object (first + n)))

-- the first rows of bytes that stand from an address on, so many; the last one has the bytes that are left
abbrev pub rows_text : ℕ → List ℕ → ℕ → List ℕ
rows_text from bytes zero = []
rows_text from bytes (suc row) = rows_text from bytes row ++ shown (from + row * 16) (take 16 (drop (row * 16) bytes))

module _ {State Op Reply Value Fixed : Type 0} (space : Space Op Reply Value Fixed) (code : Code State Op Reply Fixed) where
  abbrev pub view_text : WorldAt State Value Fixed → BlockRange → Stopped → List Break → List (List ℕ) → ℕ → List ℕ → List ℕ
  view_text w blocks s breaks notes from bytes = stop_words s breaks ++ (10 ∷ (threads_text notes 0 (map (view_of_thread code) w.threads)
      ++ (objects_text w.memory.counts blocks.first (blocks.past - blocks.first) ++ rows_text from bytes ((length bytes + 15) / 16))))

  -- where the replay stopped, each thread with its note, each block that holds a byte of the range, and the range's
  -- bytes
  pub record IsView (w : WorldAt State Value Fixed) (power : ℕ) (s : Stopped) (breaks : List Break) (notes : List (List ℕ)) (from len : ℕ) (text : List ℕ) : Type 0 where
    pub blocks : BlockRange
    pub holding : AreHolding power from len blocks
    pub is : text ≡ view_text w blocks s breaks notes from (bytes_of_range (memory_bytes space w) from len)
