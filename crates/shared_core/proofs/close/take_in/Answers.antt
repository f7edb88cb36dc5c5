use Rattle.std.proofs.Common.{arith, ◌≡◌, ◌≤◌, ◌+◌, length, subst, ap, ◌∙◌}
use Rattle.shared_parts.specs.Cut.{AllSound}
use Rattle.shared_core.specs.Ends.{AreLedTo}
use Rattle.shared_parts.specs.Calls.{AreWithin, calls_of, memory_after_calls}
use Rattle.shared_core.proofs.Whole.{parts_whole, no_others}
use Rattle.shared_core.proofs.close.take_in.Goals as goal

pub returns-clause-parts : goal.returns-clause-parts
returns-clause-parts g c =
    let seats = c.args.seats.items in
    let all : AreWithin c.args.held seats = subst (λ l. AreWithin l seats) c.held.view_is c.in_ok-entries.ensures.within in
    let parts : c.hand_in_all.new.all.parts ≡ g.J.Opening.named.threads + 1 = omega (arith, c.in_ok-entries.ensures.parts, c.held.invariant.rest, c.requires.all) in
    let whole = c.audit.ensures.whole parts in
    let long = ap length c.held.view_is in
    let enough : length c.args.held ≤ calls_of seats = omega (arith, whole, c.in_ok-entries.ensures.amount, c.held.invariant.none, c.held.invariant.total, long) in
    parts_whole seats c.args.held c.requires.numbered all enough

pub returns-clause-no_others : goal.returns-clause-no_others
returns-clause-no_others g c =
    let seats = c.args.seats.items in
    let all : AreWithin c.args.held seats = subst (λ l. AreWithin l seats) c.held.view_is c.in_ok-entries.ensures.within in
    let parts : c.hand_in_all.new.all.parts ≡ g.J.Opening.named.threads + 1 = omega (arith, c.in_ok-entries.ensures.parts, c.held.invariant.rest, c.requires.all) in
    let whole = c.audit.ensures.whole parts in
    let long = ap length c.held.view_is in
    let enough : length c.args.held ≤ calls_of seats = omega (arith, whole, c.in_ok-entries.ensures.amount, c.held.invariant.none, c.held.invariant.total, long) in
    no_others seats c.args.held c.requires.numbered all enough

pub returns-clause-sound : goal.returns-clause-sound
returns-clause-sound g c =
    let m = g.J.Opening.named.memory in
    subst (λ l. AllSound g.S.Striped.cut m.fixed (memory_after_calls g.S.ObjectSpace.meaning m l).values) c.held.view_is c.held.invariant.sound

pub returns-clause-whole : goal.returns-clause-whole
returns-clause-whole g c =
    let m = g.J.Opening.named.memory in
    subst (λ l. AreLedTo g.S.Striped.lane g.S.Striped.part_fixed g.S.Striped.held g.S.ObjectSpace.meaning m l c.gather-parts.result) c.held.view_is c.gather-parts.ensures.parts

pub returns-clause-versions : goal.returns-clause-versions
returns-clause-versions g c =
    let m = g.J.Opening.named.memory in
    c.held.invariant.counts ∙ ap (λ l. (memory_after_calls g.S.ObjectSpace.meaning m l).counts) c.held.view_is
