-- Histories of calls.
use Rattle.std.specs.Prelude.{◌≡◌, ℕ, ◌+◌, ◌==◌, true, cond, List, [], ◌∷◌, length, map}
use Rattle.rw_objects.specs.declared.entry.Entry.{Entry}
use Rattle.rw_objects.specs.Space.{Space, is_ready, reply_of}
use Rattle.rw_objects.specs.Memory.{Memory, entry_of, memory_after}
use Rattle.shared_parts.specs.declared.call.Call.{Call}

abbrev pub call : {Op Reply : Type 0} → ℕ → Op → Reply → Entry → Call Op Reply
call thread op reply entry = record { thread = thread; op = op; reply = reply; entry = entry }

module _ {Op Reply Value Fixed : Type 0} (space : Space Op Reply Value Fixed) where
  -- each operation is ready, and each reply and entry is the one that it has at that point
  abbrev pub IsLegalHistory : Memory Value Fixed → List (Call Op Reply) → Type 0
  IsLegalHistory m [] = Unit {0}
  IsLegalHistory m (c ∷ cs) = (is_ready space m.fixed m.values c.op ≡ true) × (c.reply ≡ reply_of space m.fixed m.values c.op) × (c.entry ≡ entry_of space m c.op) × IsLegalHistory (memory_after space m c.op) cs

  -- what a history leads to
  abbrev pub memory_after_calls : Memory Value Fixed → List (Call Op Reply) → Memory Value Fixed
  memory_after_calls m [] = m
  memory_after_calls m (c ∷ cs) = memory_after_calls (memory_after space m c.op) cs

-- the calls of one thread
pub record Part (Op Reply : Type 0) : Type 0 where
  pub thread : ℕ
  pub calls : List (Call Op Reply)

abbrev pub part_of : {Op Reply : Type 0} → ℕ → List (Call Op Reply) → List (Call Op Reply)
part_of t [] = []
part_of t (c ∷ cs) = cond (c.thread == t) (c ∷ part_of t cs) (part_of t cs)

-- the first list is the second with some items left out
pub data IsWithin {A : Type 0} : List A → List A → Type 0 where
  nothing : IsWithin [] []
  passed : {x : A} {xs ys : List A} → IsWithin xs ys → IsWithin xs (x ∷ ys)
  kept : {x : A} {xs ys : List A} → IsWithin xs ys → IsWithin (x ∷ xs) (x ∷ ys)

-- the seats have these numbers, one after another
abbrev pub IsNumbered : {Op Reply : Type 0} → ℕ → List (Part Op Reply) → Type 0
IsNumbered b [] = Unit {0}
IsNumbered b (s ∷ ss) = (s.thread ≡ b) × IsNumbered (b + 1) ss

-- no seat has calls
abbrev pub AreNew : {Op Reply : Type 0} → List (Part Op Reply) → Type 0
AreNew [] = Unit {0}
AreNew (s ∷ ss) = (s.calls ≡ []) × AreNew ss

-- each seat has the calls of its thread
abbrev pub AreParts : {Op Reply : Type 0} → List (Call Op Reply) → List (Part Op Reply) → Type 0
AreParts all [] = Unit {0}
AreParts all (s ∷ ss) = (part_of s.thread all ≡ s.calls) × AreParts all ss

-- each seat has some of them
abbrev pub AreWithin : {Op Reply : Type 0} → List (Call Op Reply) → List (Part Op Reply) → Type 0
AreWithin all [] = Unit {0}
AreWithin all (s ∷ ss) = IsWithin s.calls (part_of s.thread all) × AreWithin all ss

-- how many calls they have
abbrev pub calls_of : {Op Reply : Type 0} → List (Part Op Reply) → ℕ
calls_of [] = 0
calls_of (s ∷ ss) = length s.calls + calls_of ss

-- the entries of some calls, and their threads
abbrev pub entries_in : {Op Reply : Type 0} → List (Call Op Reply) → List Entry
entries_in cs = map (λ c. c.entry) cs

abbrev pub threads_in : {Op Reply : Type 0} → List (Call Op Reply) → List ℕ
threads_in cs = map (λ c. c.thread) cs
