-- What the call met is the journal as it was.
use Rattle.std.proofs.Common.{rules, ◌≡◌, ◌≢◌, false, List, Option, Some, None, Bor}
use Rattle.std.specs.Prelude.{Result, Ok, Err, IfOk, IsSomeAnd, MatchOption}
use Rattle.rw_objects.specs.declared.entry.Entry.{Entry}
use Rattle.rw_objects.specs.Space.{Space, is_ready}
use Rattle.rw_objects.specs.Memory.{Memory, entry_of}
use Rattle.shared_parts.specs.declared.call.Call.{Call}
use Rattle.shared_parts.specs.Calls.{IsLegalHistory, IsWithin, Part, memory_after_calls, part_of}
use Rattle.shared_parts.specs.declared.tried.Tried.{Tried}
use Rattle.shared_parts.specs.declared.tried.Tried.TheVariants.{Done, Shut, NotReady}
use Rattle.shared_parts.specs.Tries.{IfShut, IfNotReady}
use Rattle.shared_core.specs.Tries.{WasAnother, WasNotReadyFor}
use Rattle.shared_core.proofs.shared.Shared.try_over.Goals as goal

module _ {Op Reply Value Fixed : Type 0} (space : Space Op Reply Value Fixed) (m : Memory Value Fixed) (op : Op) (seat : Part Op Reply) (calls : List (Call Op Reply)) where
  was_another : (o : Option (Bor Entry)) → IsLegalHistory space m calls → IsWithin seat.calls (part_of seat.thread calls)
      → IsSomeAnd o (λ x. x.now ≢ entry_of space (memory_after_calls space m calls) op) → IsSomeAnd o (λ x. WasAnother space m op seat x.now)
  was_another (Some x) legal holds other = record { calls = calls; legal = legal; holds = holds; another = other }
  was_another None legal holds other = other

  was_not_ready : (o : Option (Bor Entry)) → IsLegalHistory space m calls → IsWithin seat.calls (part_of seat.thread calls)
      → is_ready space m.fixed (memory_after_calls space m calls).values op ≡ false
      → MatchOption o (Unit {0}) (λ x. x.now ≡ entry_of space (memory_after_calls space m calls) op) → WasNotReadyFor space m op seat o
  was_not_ready (Some x) legal holds not_ready same = record { calls = calls; legal = legal; holds = holds; not_ready = not_ready; entry_is = same }
  was_not_ready None legal holds not_ready same = record { calls = calls; legal = legal; holds = holds; not_ready = not_ready }

shut_by : {R E : Type 0} (P Q : Type 0) (r : Result (Tried R) E) → (P → Q) → IfOk r (λ t. IfShut t P) → IfOk r (λ t. IfShut t Q)
shut_by P Q (Ok (Done x e)) f p = tt
shut_by P Q (Ok Shut) f p = f p
shut_by P Q (Ok NotReady) f p = tt
shut_by P Q (Err e) f p = tt

not_ready_by : {R E : Type 0} (P Q : Type 0) (r : Result (Tried R) E) → (P → Q) → IfOk r (λ t. IfNotReady t P) → IfOk r (λ t. IfNotReady t Q)
not_ready_by P Q (Ok (Done x e)) f p = tt
not_ready_by P Q (Ok Shut) f p = tt
not_ready_by P Q (Ok NotReady) f p = f p
not_ready_by P Q (Err e) f p = tt

pub returns : goal.returns
returns g c =
    let space = g.S.ObjectSpace.meaning in
    let m = g.J.Opening.named.memory in
    let op = c.args.op.now in
    let calls = c.deref_mut-2.result.now.held in
    let e = c.enter-answer.ensures in record {
      done = search rules;
      entry = search rules;
      shut = shut_by _ _ c.enter-answer.result (was_another space m op c.args.seat.now calls c.args.expected e.legal e.holds) e.shut;
      not_ready = not_ready_by _ _ c.enter-answer.result (λ p. was_not_ready space m op c.args.seat.now calls c.args.expected e.legal e.holds p.0 p.1) e.not_ready;
      kept = search rules;
      thread = search rules;
    }
