-- Events of threads, one thread behind the other.
use Rattle.std.proofs.Common.{◌≡◌, ℕ, ◌+◌, ◌<◌, ◌≤◌, List, ◌++◌, length, drop, true, Option, Some, option_map, slice_get, sym, ap, ◌∙◌, append_assoc, subst, arith}
use Rattle.std.proofs.lemmas.Option.{slice_get_within}
use Rattle.event_core.specs.Threads.{ThreadAt}
use Rattle.replay_laws.specs.Log.{Log}
use Rattle.debugger.specs.declared.touched.Events.{Events}
use Rattle.debugger.specs.declared.touched.Sought.{Sought}
use Rattle.debugger.specs.Touched.{is_sought_item, events_of, events_of_thread, IsSomeEvent, NoLastBelow, NoLast}
use Rattle.debugger.proofs.Places.{drop_at, there}

pub events_more : {State : Type 0} (log : Log) (s : Sought) (events : Events) (threads : List (ThreadAt State)) (now next : List ℕ) (n places : ℕ) → n < length threads
    → Some places ≡ option_map (λ (t : ThreadAt State). t.places) (slice_get threads n) → next ≡ now ++ events_of_thread log s events n places
    → next ++ events_of log s events (n + 1) (drop (n + 1) threads) ≡ now ++ events_of log s events n (drop n threads)
events_more {State} log s events threads now next n places below made more =
    let t = there threads n below in
    let some : Some places ≡ Some (t.0).places = made ∙ ap (λ (o : Option (ThreadAt State)). option_map (λ (u : ThreadAt State). u.places) o) t.1 in
    let same : places ≡ (t.0).places = cc in
    ap (λ (l : List ℕ). l ++ events_of log s events (n + 1) (drop (n + 1) threads)) (more ∙ ap (λ (p : ℕ). now ++ events_of_thread log s events n p) same)
    ∙ append_assoc now (events_of_thread log s events n (t.0).places) (events_of log s events (n + 1) (drop (n + 1) threads))
    ∙ ap (λ (ts : List (ThreadAt State)). now ++ events_of log s events n ts) (sym (drop_at threads n t.0 t.1))

pub some_event : {State : Type 0} (log : Log) (s : Sought) (threads : List (ThreadAt State)) (n places p : ℕ) → n < length threads
    → Some places ≡ option_map (λ (t : ThreadAt State). t.places) (slice_get threads n) → (p < places) × (is_sought_item s (log.entry n p) ≡ true) → IsSomeEvent log s threads (record { thread = n; place = p })
some_event {State} log s threads n places p below made did =
    let t = there threads n below in
    let some : Some places ≡ Some (t.0).places = made ∙ ap (λ (o : Option (ThreadAt State)). option_map (λ (u : ThreadAt State). u.places) o) t.1 in
    let same : places ≡ (t.0).places = cc in
    record { at = t.0; thread = t.1; made = subst (λ (q : ℕ). p < q) same did.0; sought = did.1 }

pub no_last : {State : Type 0} (log : Log) (s : Sought) (threads : List (ThreadAt State)) (n number : ℕ) → length threads ≤ number → NoLastBelow log s threads n number → NoLast log s threads n
no_last log s threads n number all none t at is = none t (omega (arith, slice_get_within threads t at is, all)) at is
