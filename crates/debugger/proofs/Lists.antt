-- Lines, one behind the other.
use Rattle.std.proofs.Common.{◌≡◌, ℕ, ◌+◌, ◌<◌, List, ◌++◌, length, drop, Some, slice_get, sym, ap, ◌∙◌, append_assoc}
use Rattle.event_core.specs.Threads.{ThreadAt}
use Rattle.wasm_world.specs.ThreadCode.{ThreadAt as CodeThread}
use Rattle.debug_views.specs.Standing.{PlaceForm}
use Rattle.debugger.specs.Replies.{thread_line, thread_lines}
use Rattle.debugger.proofs.Places.{drop_at, there}

pub standing_more : (form : PlaceForm) (threads : List (ThreadAt CodeThread)) (now next : List ℕ) (n : ℕ) → n < length threads
    → ((t : ThreadAt CodeThread) → slice_get threads n ≡ Some t → next ≡ now ++ thread_line form n t)
    → next ++ thread_lines form (n + 1) (drop (n + 1) threads) ≡ now ++ thread_lines form n (drop n threads)
standing_more form threads now next n below more =
    let t = there threads n below in
    ap (λ (l : List ℕ). l ++ thread_lines form (n + 1) (drop (n + 1) threads)) (more t.0 t.1)
    ∙ append_assoc now (thread_line form n t.0) (thread_lines form (n + 1) (drop (n + 1) threads))
    ∙ ap (λ (ts : List (ThreadAt CodeThread)). now ++ thread_lines form n ts) (sym (drop_at threads n t.0 t.1))
