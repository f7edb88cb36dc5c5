use Rattle.std.proofs.Common.{◌≡◌, rules, Some, None}
use Rattle.std.specs.Ordering.{nat_cmp}
use Rattle.log_pieces.specs.Keyed.{value_at}
use Rattle.log_pieces.proofs.PlaceByPlace.{page_from, no_page_from}
use Rattle.log_pieces.proofs.runs.Runs.page_ahead.Goals as goal

pub returns-in-Some-clause-ahead : goal.returns-in-Some-clause-ahead
returns-in-Some-clause-ahead g c =
    let found : value_at nat_cmp c.self.inside.pages.entries c.args.number ≡ Some c.in-Some.page.now = search rules in
    rw (← c.self.view_is, c.deref.ensures.value) (page_from c.self.inside.pages.entries c.self.invariant c.args.number c.in-Some.page.now found)

pub returns-in-None-clause-ahead : goal.returns-in-None-clause-ahead
returns-in-None-clause-ahead g c =
    let absent : value_at nat_cmp c.self.inside.pages.entries c.args.number ≡ None = search rules in
    rw (← c.self.view_is) (no_page_from c.self.inside.pages.entries c.self.invariant c.args.number absent)
