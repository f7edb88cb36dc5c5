-- One line more, and the lines one after another.
use Rattle.std.proofs.Common.{◌≡◌, ℕ, suc, ◌+◌, ◌-◌, ◌*◌, ◌/◌, ◌^◌, ◌<◌, List, [], ◌∷◌, ◌++◌, length, map, take, drop, Some, slice_get, option_map, min, sym, ap, ◌∙◌, arith, append_assoc, add-one, length-drop}
use Rattle.std.proofs.Math.Seq.{drop-cons}
use Rattle.std.proofs.lemmas.Option.{slice_get-map, slice_get_within, get_or_from_slice_get}
use Rattle.std.proofs.lemmas.List.{take_min, length-take}
use Rattle.rw_objects.specs.Space.{Space}
use Rattle.rw_objects.specs.Code.{Code}
use Rattle.rw_objects.specs.declared.count.Count.{Count}
use Rattle.block_objects.specs.Objects.{block_object}
use Rattle.event_core.specs.World.{WorldAt}
use Rattle.replay_gate.specs.declared.breaks.Break.{Break}
use Rattle.replay_gate.specs.declared.breaks.Stopped.{Stopped}
use Rattle.debug_views.specs.Report.{note_at, shown}
use Rattle.debug_views.specs.declared.blocks.BlockRange.{BlockRange}
use Rattle.debug_views.specs.declared.threads.ThreadView.{ThreadView}
use Rattle.debug_views.specs.Blocks.{AreHolding}
use Rattle.debug_views.specs.Threads.{view_of_thread}
use Rattle.debug_views.specs.Values.{memory_bytes, bytes_of_range}
use Rattle.debug_views.specs.Text.{object_text, objects_text, rows_text, stop_words, thread_text, threads_text, IsView}

pub object_more : (counts : ℕ → Count) (front now next : List ℕ) (first n : ℕ) (c : Count) → now ≡ front ++ objects_text counts first n → c ≡ counts (block_object (first + n))
    → next ≡ now ++ object_text (block_object (first + n)) c → next ≡ front ++ objects_text counts first (n + 1)
object_more counts front now next first n c so_far is more =
    more ∙ ap (λ (d : Count). now ++ object_text (block_object (first + n)) d) is
    ∙ ap (λ (l : List ℕ). l ++ object_text (block_object (first + n)) (counts (block_object (first + n)))) so_far
    ∙ append_assoc front (objects_text counts first n) (object_text (block_object (first + n)) (counts (block_object (first + n))))
    ∙ ap (λ (k : ℕ). front ++ objects_text counts first k) (sym (add-one n))

-- the bytes of a row: up to 16, and no more than there are
row_of : (bytes : List ℕ) (start end : ℕ) → end ≡ min (start + 16) (length bytes) → take (end - start) (drop start bytes) ≡ take 16 (drop start bytes)
row_of bytes start end e =
    let n : end - start ≡ min 16 (length (drop start bytes)) = omega (arith, e, length-drop start bytes) in
    ap (λ (k : ℕ). take k (drop start bytes)) n ∙ take_min 16 (drop start bytes)

pub row_more : (from wide : ℕ) (bytes front now next : List ℕ) (row end : ℕ) → now ≡ front ++ rows_text from bytes row → wide ≡ from → end ≡ min (row * 16 + 16) (length bytes)
    → next ≡ now ++ shown (wide + row * 16) (take (end - row * 16) (drop (row * 16) bytes)) → next ≡ front ++ rows_text from bytes (row + 1)
row_more from wide bytes front now next row end so_far same ends more =
    more ∙ ap (λ (a : ℕ). now ++ shown (a + row * 16) (take (end - row * 16) (drop (row * 16) bytes))) same
    ∙ ap (λ (l : List ℕ). now ++ shown (from + row * 16) l) (row_of bytes (row * 16) end ends)
    ∙ ap (λ (l : List ℕ). l ++ shown (from + row * 16) (take 16 (drop (row * 16) bytes))) so_far
    ∙ append_assoc front (rows_text from bytes row) (shown (from + row * 16) (take 16 (drop (row * 16) bytes)))
    ∙ ap (λ (k : ℕ). front ++ rows_text from bytes k) (sym (add-one row))

-- what is left from a place on begins with the element there
drop_at : {A B : Type 0} (f : A → B) (xs : List A) (n : ℕ) (b : B) → option_map f (slice_get xs n) ≡ Some b → drop n (map f xs) ≡ b ∷ drop (n + 1) (map f xs)
drop_at {A} {B} f xs n b e =
    let s : slice_get (map f xs) n ≡ Some b = slice_get-map f xs n ∙ e in
    let lt : n < length (map f xs) = slice_get_within (map f xs) n b s in
    drop-cons (map f xs) n b lt
    ∙ ap (λ (x : B). x ∷ drop (suc n) (map f xs)) (get_or_from_slice_get (map f xs) n b b s)
    ∙ ap (λ (k : ℕ). b ∷ drop k (map f xs)) (sym (add-one n))

pub thread_more : {A : Type 0} (f : A → ThreadView) (notes : List (List ℕ)) (threads : List A) (now next : List ℕ) (n : ℕ) (v : ThreadView) → option_map f (slice_get threads n) ≡ Some v → next ≡ now ++ thread_text n v (note_at notes n)
    → next ++ threads_text notes (n + 1) (drop (n + 1) (map f threads)) ≡ now ++ threads_text notes n (drop n (map f threads))
thread_more f notes threads now next n v at_n more =
    ap (λ (l : List ℕ). l ++ threads_text notes (n + 1) (drop (n + 1) (map f threads))) more
    ∙ append_assoc now (thread_text n v (note_at notes n)) (threads_text notes (n + 1) (drop (n + 1) (map f threads)))
    ∙ ap (λ (vs : List ThreadView). now ++ threads_text notes n vs) (sym (drop_at f threads n v at_n))

-- no more bytes than were asked for
pub short_range : (bytes memory : List ℕ) (from len : ℕ) → bytes ≡ bytes_of_range memory from len → len < 2 ^ 32 → length bytes < 2 ^ 32
short_range bytes memory from len e small =
    let n : length bytes ≡ min len (length (drop from memory)) = ap length e ∙ length-take len (drop from memory) in
    omega (arith, n, small)

joined : (words threads objects rows : List ℕ) → (((words ++ 10 ∷ []) ++ threads) ++ objects) ++ rows ≡ words ++ (10 ∷ (threads ++ (objects ++ rows)))
joined words threads objects rows = simp append_assoc

joined_by : (text first second third words threads objects rows : List ℕ) → first ≡ words ++ 10 ∷ [] → second ≡ first ++ threads → third ≡ second ++ objects → text ≡ third ++ rows → text ≡ words ++ (10 ∷ (threads ++ (objects ++ rows)))
joined_by text first second third words threads objects rows first_is second_is third_is text_is =
    text_is
    ∙ ap (λ (l : List ℕ). l ++ rows) third_is
    ∙ ap (λ (l : List ℕ). (l ++ objects) ++ rows) second_is
    ∙ ap (λ (l : List ℕ). ((l ++ threads) ++ objects) ++ rows) first_is
    ∙ joined words threads objects rows

module _ {State Op Reply Value Fixed : Type 0} (space : Space Op Reply Value Fixed) (code : Code State Op Reply Fixed) where
  pub is_view : (w : WorldAt State Value Fixed) (power : ℕ) (s : Stopped) (breaks : List Break) (notes : List (List ℕ)) (from len : ℕ) (blocks : BlockRange) (counts : ℕ → Count) (bytes first second third text : List ℕ)
      → AreHolding power from len blocks → counts ≡ w.memory.counts → bytes ≡ bytes_of_range (memory_bytes space w) from len
      → first ≡ stop_words s breaks ++ 10 ∷ []
      → second ≡ first ++ threads_text notes 0 (map (view_of_thread code) w.threads)
      → third ≡ second ++ objects_text counts blocks.first (blocks.past - blocks.first)
      → text ≡ third ++ rows_text from bytes ((length bytes + 15) / 16)
      → IsView space code w power s breaks notes from len text
  is_view w power s breaks notes from len blocks counts bytes first second third text holding same_counts same_bytes first_is second_is third_is text_is = record {
    blocks = blocks;
    holding = holding;
    is =
        joined_by text first second third (stop_words s breaks) (threads_text notes 0 (map (view_of_thread code) w.threads)) (objects_text w.memory.counts blocks.first (blocks.past - blocks.first)) (rows_text from (bytes_of_range (memory_bytes space w) from len) ((length (bytes_of_range (memory_bytes space w) from len) + 15) / 16)) first_is second_is
        (third_is ∙ ap (λ (n : ℕ → Count). second ++ objects_text n blocks.first (blocks.past - blocks.first)) same_counts)
        (text_is ∙ ap (λ (b : List ℕ). third ++ rows_text from b ((length b + 15) / 16)) same_bytes);
  }
