use Rattle.std.proofs.Common.{◌∙◌, ap, sym}
use Rattle.log_pieces.proofs.Passing.{after_head, entry_by_head, entry_put, no_entry_put}
use Rattle.log_pieces.proofs.packed.EntryPacked.take_in_place.Goals as goal

pub returns-in-Some-clause-taken : goal.returns-in-Some-clause-taken
returns-in-Some-clause-taken c =
    λ is. entry_put c.args.bytes.now c.in-Some.rest.now c.in-Some.kind c.in-Some.count c.put_touches.new.found (sym c.in-Some.ensures.head) c.put_touches.result c.put_touches.ensures (sym c.is_some.ensures ∙ is)

pub returns-in-Some-clause-none : goal.returns-in-Some-clause-none
returns-in-Some-clause-none c =
    λ is. no_entry_put c.args.bytes.now c.in-Some.rest.now c.in-Some.kind c.in-Some.count c.put_touches.new.found (sym c.in-Some.ensures.head) c.put_touches.result c.put_touches.ensures (sym c.is_some.ensures ∙ is)

pub returns-in-None-clause-none : goal.returns-in-None-clause-none
returns-in-None-clause-none c = λ _. entry_by_head c.args.bytes.now ∙ ap after_head (sym c.in-None.ensures.head)
