use Rattle.std.proofs.Common.{◌≡◌, ◌/◌, rules, refl, Some, None}
use Rattle.std.specs.Ordering.{nat_cmp}
use Rattle.log_pieces.specs.Keyed.{value_at}
use Rattle.log_pieces.proofs.Locations.{claims_at}
use Rattle.log_pieces.proofs.runs.Runs.get.Goals as goal

pub get_in-requires-clause-page : goal.get_in-requires-clause-page
get_in-requires-clause-page g c =
    let found : value_at nat_cmp c.self.inside.pages.entries (c.args.place / 128) ≡ Some c.in-Some.page.now = search rules in
    c.self.invariant.each (c.args.place / 128) c.in-Some.page.now found

pub returns-in-Some : goal.returns-in-Some
returns-in-Some g c =
    let found : value_at nat_cmp c.self.inside.pages.entries (c.args.place / 128) ≡ Some c.in-Some.page.now = search rules in
    rw (← c.self.view_is, claims_at c.self.inside.pages.entries c.self.invariant c.args.place, found) c.get_in.ensures

pub returns-in-None : goal.returns-in-None
returns-in-None g c =
    let absent : value_at nat_cmp c.self.inside.pages.entries (c.args.place / 128) ≡ None = search rules in
    rw (← c.self.view_is, claims_at c.self.inside.pages.entries c.self.invariant c.args.place, absent) refl
