-- Each seat has no calls, and its number is its place.
use Rattle.std.proofs.Common.{rules, arith, ◌≡◌, ◌+◌, [], ◌∷◌, ◌++◌, List, ℕ, length, length-append, sym, ap, ◌∙◌, subst}
use Rattle.shared_parts.specs.Calls.{Part, part_of, IsWithin, nothing, IsNumbered, AreNew, entries_in}
use Rattle.shared_core.proofs.opened.seats.Goals as goal

numbered_push : {O R : Type 0} (b : ℕ) (ss : List (Part O R)) (s : Part O R) → IsNumbered b ss → s.thread ≡ b + length ss → IsNumbered b (ss ++ s ∷ [])
numbered_push b [] s n is = (omega (arith, is), tt)
numbered_push b (x ∷ ss) s n is = (n.0, numbered_push (b + 1) ss s n.1 (omega (arith, is)))

new_push : {O R : Type 0} (ss : List (Part O R)) (s : Part O R) → AreNew ss → s.calls ≡ [] → AreNew (ss ++ s ∷ [])
new_push [] s n is = (is, tt)
new_push (x ∷ ss) s n is = (n.0, new_push ss s n.1 is)

pub invariant_of-push : goal.invariant_of-push
invariant_of-push g c =
    let none : c.again.result ≡ [] = search rules in
    let calls = c.new-in-loop-thread.ensures in (
      c.split_off-own.ensures.parts,
      c.split_off-own.ensures.amount ∙ sym (ap length calls),
      c.new.ensures ∙ sym (ap entries_in calls),
      subst (λ l. IsWithin l (part_of c.loop-thread.thread c.again.result)) (sym calls) (subst (λ l. IsWithin [] (part_of c.loop-thread.thread l)) (sym none) nothing),
    )

pub loop-thread-preserved : goal.loop-thread-preserved
loop-thread-preserved g c =
    let inv = c.loop-thread.invariant in
    let pushed = c.in_ok-push.ensures.items in (
      omega (arith, inv.0, c.split_off-own.ensures.parts_left),
      omega (arith, inv.1, c.split_off-own.ensures.amount_left),
      (let n = ap length pushed ∙ length-append c.loop-thread.seats.items (record { thread = c.loop-thread.thread; calls = c.new-in-loop-thread.result } ∷ []) in omega (arith, n, inv.2)),
      subst (IsNumbered 0) (sym pushed) (numbered_push 0 c.loop-thread.seats.items (record { thread = c.loop-thread.thread; calls = c.new-in-loop-thread.result }) inv.3 (omega (arith, inv.2))),
      subst AreNew (sym pushed) (new_push c.loop-thread.seats.items (record { thread = c.loop-thread.thread; calls = c.new-in-loop-thread.result }) inv.4 c.new-in-loop-thread.ensures),
    )
