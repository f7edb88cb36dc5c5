-- A log is complete where each of its threads is as a complete log has it.
use Rattle.std.proofs.Common.{◌≡◌, ℕ, ◌+◌, ◌<◌, ◌≤◌, List, length, Some, None, refl, sym, ap, subst, ◌∙◌, arith, inl, inr}
use Rattle.std.specs.Prelude.{slice_get, IsTrue, nat_le}
use Rattle.std.specs.Ordering.{nat_cmp}
use Rattle.std.proofs.lemmas.Bool.{cases_lt}
use Rattle.std.proofs.lemmas.Option.{slice_get_past, slice_get_cases}
use Rattle.rw_objects.specs.declared.entry.Entry.{Entry}
use Rattle.log_pieces.specs.declared.end.End.{End}
use Rattle.log_pieces.specs.declared.flat.Flat.TheVariants.{Known}
use Rattle.log_pieces.specs.Keyed.{value_at}
use Rattle.replica.specs.declared.thread_log.ThreadLog.{ThreadLog}
use Rattle.replica.specs.declared.log.Log.{Log}
use Rattle.replica.specs.Log.{entry_at, end_at}
use Rattle.replica.specs.Counts.{IsFitting, IsComplete}

-- what a log has of a thread
at_end : (log : Log) (i : ℕ) (thread : ThreadLog) → slice_get log.threads i ≡ Some thread → end_at log i ≡ thread.end
at_end log i thread is = rw is refl

at_entry : (log : Log) (i : ℕ) (thread : ThreadLog) (place : ℕ) → slice_get log.threads i ≡ Some thread → entry_at log i place ≡ value_at nat_cmp thread.entries place
at_entry log i thread place is = rw is refl

pub complete_fits : (threads : ℕ) (log : Log) → IsComplete threads log → (i : ℕ) (thread : ThreadLog) → slice_get log.threads i ≡ Some thread → IsFitting threads i thread
complete_fits threads log h i thread is = (
  λ lt. let whole = h.whole i lt in (
    whole.0,
    sym (at_end log i thread is) ∙ whole.1,
    (
      λ place below. let one = whole.2 place below in (one.0, sym (at_entry log i thread place is) ∙ one.1),
      λ place past. sym (at_entry log i thread place is) ∙ whole.3 place past,
    ),
  ),
  λ ge. let none = h.others i ge in
      (sym (at_end log i thread is) ∙ none.0, λ place. sym (at_entry log i thread place is) ∙ none.1 place),
)

-- a complete log knows each of its threads
pub complete_few : (threads : ℕ) (log : Log) → IsComplete threads log → threads ≤ length log.threads
complete_few threads log h = elim (cases_lt (length log.threads) threads) [
  | inr few ↦ few
  | inl many ↦ absurd (
      let whole = h.whole (length log.threads) many in
      let none : end_at log (length log.threads) ≡ None = rw (slice_get_past log.threads (length log.threads) (omega arith)) refl in
      let bad : Some (Known whole.0) ≡ None = sym whole.1 ∙ none in cc)
]

pub fits_complete : (threads : ℕ) (log : Log) → threads ≤ length log.threads
    → ((i : ℕ) (thread : ThreadLog) → slice_get log.threads i ≡ Some thread → IsFitting threads i thread) → IsComplete threads log
fits_complete threads log few h = record { whole = whole_at; others = others_at } where
  whole_at : (i : ℕ) → i < threads → (end : End) × (end_at log i ≡ Some (Known end))
      × ((place : ℕ) → place < end.places → (entry : Entry) × (entry_at log i place ≡ Some (Known entry)))
      × ((place : ℕ) → end.places ≤ place → entry_at log i place ≡ None)
  whole_at i lt = elim (slice_get_cases log.threads i).1 [
    | inl some ↦
        let is = some.2 in
        let whole = (h i some.0 is).0 lt in (
          whole.0,
          at_end log i some.0 is ∙ whole.1,
          λ place below. let one = whole.2.0 place below in (one.0, at_entry log i some.0 place is ∙ one.1),
          λ place past. at_entry log i some.0 place is ∙ whole.2.1 place past,
        )
    | inr none ↦ absurd (let short = none.0 in omega arith)
  ]

  others_at : (i : ℕ) → threads ≤ i → (end_at log i ≡ None) × ((place : ℕ) → entry_at log i place ≡ None)
  others_at i ge = elim (slice_get_cases log.threads i).1 [
    | inl some ↦
        let is = some.2 in
        let bare = (h i some.0 is).1 ge in
        (at_end log i some.0 is ∙ bare.0, λ place. at_entry log i some.0 place is ∙ bare.1 place)
    | inr none ↦ (rw none.1 refl, λ place. rw none.1 refl)
  ]

pub test_le : (x y : ℕ) → IsTrue (nat_le x y) → x ≤ y
test_le x y test = grind arith

pub le_test : (x y : ℕ) → x ≤ y → IsTrue (nat_le x y)
le_test x y le = grind arith

-- one thread more
pub fits_more : (threads index : ℕ) (logs : List ThreadLog) (item : ThreadLog) → slice_get logs index ≡ Some item → IsFitting threads index item
    → ((i : ℕ) (log : ThreadLog) → i < index → slice_get logs i ≡ Some log → IsFitting threads i log)
    → (i : ℕ) (log : ThreadLog) → i < index + 1 → slice_get logs i ≡ Some log → IsFitting threads i log
fits_more threads index logs item here fitting so_far i log lt is = elim (cases_lt i index) [
  | inl before ↦ so_far i log before is
  | inr at ↦
      let place : index ≡ i = omega arith in
      let same : item ≡ log = (let both : Some item ≡ Some log = sym here ∙ ap (λ (k : ℕ). slice_get logs k) place ∙ is in cc) in
      subst (λ (k : ℕ). IsFitting threads k log) place (subst (λ (l : ThreadLog). IsFitting threads index l) same fitting)
]
