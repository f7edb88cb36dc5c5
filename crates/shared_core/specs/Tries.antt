-- What a try of a call answers.
use Rattle.std.specs.Prelude.{◌≡◌, ◌≢◌, false, List, [], ◌∷◌, ◌++◌, Option, Some, None, Result, IfOk, MatchOption, IsSomeAnd}
use Rattle.std.specs.Borrow.{Bor}
use Rattle.rw_objects.specs.declared.entry.Entry.{Entry}
use Rattle.rw_objects.specs.Space.{Space, is_ready}
use Rattle.rw_objects.specs.Memory.{Memory, entry_of}
use Rattle.shared_parts.specs.declared.call.Call.{Call}
use Rattle.shared_parts.specs.Calls.{IsLegalHistory, IsWithin, Part, call, memory_after_calls, part_of}
use Rattle.shared_parts.specs.declared.tried.Tried.{Tried}
use Rattle.shared_parts.specs.Tries.{IfDone, IfShut, IfNotReady, IsDone}

module _ {Op Reply Value Fixed : Type 0} (space : Space Op Reply Value Fixed) (m : Memory Value Fixed) (op : Op) where
  -- the call was not ready in the space to which a legal history leads, in which the seat's calls stand
  pub record WasNotReady (seat : Part Op Reply) : Type 0 where
    pub calls : List (Call Op Reply)
    pub legal : IsLegalHistory space m calls
    pub holds : IsWithin seat.calls (part_of seat.thread calls)
    pub not_ready : is_ready space m.fixed (memory_after_calls space m calls).values op ≡ false

  -- the same of a call that would have had just that entry there
  pub record WasNotReadyAt (seat : Part Op Reply) (entry : Entry) : Type 0 where
    pub calls : List (Call Op Reply)
    pub legal : IsLegalHistory space m calls
    pub holds : IsWithin seat.calls (part_of seat.thread calls)
    pub not_ready : is_ready space m.fixed (memory_after_calls space m calls).values op ≡ false
    pub entry_is : entry ≡ entry_of space (memory_after_calls space m calls) op

  -- the call would not have had that entry in the space to which a legal history leads, in which the seat's calls stand
  pub record WasAnother (seat : Part Op Reply) (entry : Entry) : Type 0 where
    pub calls : List (Call Op Reply)
    pub legal : IsLegalHistory space m calls
    pub holds : IsWithin seat.calls (part_of seat.thread calls)
    pub another : entry ≢ entry_of space (memory_after_calls space m calls) op

  -- the same, whether an entry is expected or not
  abbrev pub WasNotReadyFor : Part Op Reply → Option (Bor Entry) → Type 0
  WasNotReadyFor seat None = WasNotReady seat
  WasNotReadyFor seat (Some e) = WasNotReadyAt seat e.now

  -- a seat's try, where an entry may be expected: it is entered behind the seat's other calls, with the entry that is
  -- expected, or the seat stays as it was
  pub record IsTry {E : Type 0} (expected : Option (Bor Entry)) (old new : Part Op Reply) (answer : Result (Tried Reply) E) : Type 0 where
    pub done : IfOk answer (λ t. IfDone t (λ r e. new.calls ≡ old.calls ++ call old.thread op r e ∷ []))
    pub entry : IfOk answer (λ t. IfDone t (λ r e. MatchOption expected (Unit {0}) (λ x. x.now ≡ e)))
    pub shut : IfOk answer (λ t. IfShut t (IsSomeAnd expected (λ x. WasAnother old x.now)))
    pub not_ready : IfOk answer (λ t. IfNotReady t (WasNotReadyFor old expected))
    pub kept : IsDone answer ≡ false → new ≡ old
    pub thread : new.thread ≡ old.thread
