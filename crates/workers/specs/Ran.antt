-- What threads over a shared space leave.
use Rattle.std.specs.Prelude.{◌≡◌, ◌≤◌, ℕ, ◌+◌, List, [], ◌∷◌, length}
use Rattle.rw_objects.specs.declared.entry.Entry.{Entry}
use Rattle.rw_objects.specs.Space.{Space}
use Rattle.rw_objects.specs.Memory.{Memory}
use Rattle.shared_parts.specs.declared.call.Call.{Call}
use Rattle.shared_parts.specs.Calls.{IsLegalHistory, memory_after_calls, part_of, entries_in, threads_in}

module _ {Op Reply State : Type 0} where
  -- the entries of each thread's calls, from thread b on, one for each state
  abbrev pub entries_by : ℕ → List (Call Op Reply) → List State → List (List Entry)
  entries_by b calls [] = []
  entries_by b calls (s ∷ ss) = entries_in (part_of b calls) ∷ entries_by (b + 1) calls ss

  -- each thread's calls, from thread b on, lead from its first state to its second
  abbrev pub AllLead : (ℕ → State → List (Call Op Reply) → State → Type 0) → ℕ → List (Call Op Reply) → List State → List State → Type 0
  AllLead leads b calls [] [] = Unit {0}
  AllLead leads b calls [] (t ∷ ts) = ⊥
  AllLead leads b calls (s ∷ ss) [] = ⊥
  AllLead leads b calls (s ∷ ss) (t ∷ ts) = leads b s (part_of b calls) t × AllLead leads (b + 1) calls ss ts

-- threads with these states, over a space with this opening memory, left this: there is one legal history of their
-- calls, and of no others, which leads to the memory; the order has the thread of each call, the entries are those of
-- each thread's calls, and these lead each thread to the state that it has then
pub record AreRun {Op Reply Value Fixed State : Type 0} (space : Space Op Reply Value Fixed) (leads : ℕ → State → List (Call Op Reply) → State → Type 0)
    (opening : Memory Value Fixed) (states : List State) (order : List ℕ) (entries : List (List Entry)) (memory : Memory Value Fixed) (after : List State) : Type 0 where
  pub calls : List (Call Op Reply)
  pub legal : IsLegalHistory space opening calls
  pub led : memory ≡ memory_after_calls space opening calls
  pub ordered : order ≡ threads_in calls
  pub entered : entries ≡ entries_by 0 calls states
  pub no_others : (t : ℕ) → length states ≤ t → part_of t calls ≡ []
  pub each : AllLead leads 0 calls states after
