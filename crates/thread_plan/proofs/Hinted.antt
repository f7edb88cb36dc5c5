-- The lines of globals, one after the other.
use Rattle.std.proofs.Common.{◌≡◌, ◌<◌, ◌+◌, ◌++◌, ◌&&◌, ◌∙◌, ℕ, Bool, true, false, List, [], length, get_or, ap, sym}
use Rattle.std.specs.Prelude.{slice_get, if◌then◌else◌}
use Rattle.std.specs.List.{filter, flat_map, range_with_len}
use Rattle.std.proofs.lemmas.Option.{slice_get-get_or}
use Rattle.std.proofs.lemmas.List.{append-nil}
use Rattle.std.proofs.lemmas.List.Elements.{filter_agree}
use Rattle.wasm_types.specs.declared.modules.Module.{Module}
use Rattle.thread_plan.specs.declared.planned_thread.PlannedThread.{PlannedThread}
use Rattle.thread_plan.specs.declared.starts.Start.{Start}
use Rattle.thread_plan.specs.Globals.{begins_with, is_set}
use Rattle.thread_plan.specs.Hints.{thread_code, threads_with, may_be_stack, line_of_many, stack_hint}
use Rattle.thread_plan.specs.Starts.{begins_in, begins_at, threads_in}
use Rattle.thread_plan.proofs.Numbers.{written_more}

-- a thread that is there
pub begins_here : (starts : List Start) (g t : ℕ) (start : Start) (b c : Bool) → t < length starts → start ≡ get_or starts t start → b ≡ begins_in start g → b ≡ c → begins_at g (slice_get starts t) ≡ c
begins_here starts g t start b c lt read test is = ap (begins_at g) (slice_get-get_or starts t start lt) ∙ ap (λ s. begins_in s g) (sym read) ∙ sym test ∙ is

module _ (m : Module) (threads : List PlannedThread) (starts : List Start) (g : ℕ) where
  pub same_threads : length starts ≡ length threads → ((t : ℕ) → begins_at g (slice_get starts t) ≡ begins_with g (thread_code m (slice_get threads t))) → threads_in starts g ≡ threads_with m threads g
  same_threads size same = filter_agree (λ t. begins_at g (slice_get starts t)) (λ t. begins_with g (thread_code m (slice_get threads t))) same (range_with_len 0 (length starts))
      ∙ ap (λ n. filter (λ t. begins_with g (thread_code m (slice_get threads t))) (range_with_len 0 n)) size

  module _ (mark b : Bool) (old new : List ℕ) (so_far : old ≡ flat_map (stack_hint m threads) (range_with_len 0 g)) (test : b ≡ (may_be_stack (slice_get m.globals g) && mark)) (marked : mark ≡ is_set m g) where
    hint_is : (c : Bool) → b ≡ c → stack_hint m threads g ≡ (if c then line_of_many g (threads_with m threads g) else [])
    hint_is c is = ap (λ t. if t then line_of_many g (threads_with m threads g) else []) (ap (λ s. may_be_stack (slice_get m.globals g) && s) (sym marked) ∙ sym test ∙ is)

    more : new ≡ old ++ stack_hint m threads g → new ≡ flat_map (stack_hint m threads) (range_with_len 0 (g + 1))
    more is = is ∙ ap (λ t. t ++ stack_hint m threads g) so_far ∙ sym (written_more (stack_hint m threads) g)

    pub hint_made : b ≡ true → threads_in starts g ≡ threads_with m threads g → new ≡ old ++ line_of_many g (threads_in starts g) → new ≡ flat_map (stack_hint m threads) (range_with_len 0 (g + 1))
    hint_made made same is = more (is ∙ ap (λ ts. old ++ line_of_many g ts) same ∙ ap (λ t. old ++ t) (sym (hint_is true made)))

    pub hint_left : b ≡ false → new ≡ old → new ≡ flat_map (stack_hint m threads) (range_with_len 0 (g + 1))
    hint_left left is = more (is ∙ sym (ap (λ t. old ++ t) (hint_is false left) ∙ append-nil old))
