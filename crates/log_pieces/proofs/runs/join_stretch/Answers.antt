-- The page of the items' places is joined, or is put in.
use Rattle.std.proofs.Common.{◌≡◌, ◌+◌, ◌*◌, take, Some, None, rules, refl, arith}
use Rattle.std.specs.Ordering.{nat_cmp}
use Rattle.std.proofs.lemmas.Result.{err_from_is_err_and, on_ok_weaker, on_err_weaker}
use Rattle.std.proofs.lemmas.List.{length-take}
use Rattle.log_pieces.specs.Keyed.{value_at}
use Rattle.log_pieces.specs.Runs.{claims}
use Rattle.log_pieces.proofs.Joining.{joined_none}
use Rattle.log_pieces.proofs.Locations.{pages_changed, stretch_joined}
use Rattle.log_pieces.proofs.runs.join_stretch.Goals as goal

pub join_page-joined-requires-clause-page : goal.join_page-joined-requires-clause-page
join_page-joined-requires-clause-page g c =
    let found : value_at nat_cmp c.args.pages.now.entries c.args.number ≡ Some c.in-Some.page.now = search rules in
    c.requires.pages.each c.args.number c.in-Some.page.now found

pub returns-in_err-insert-in-None-clause-left : goal.returns-in_err-insert-in-None-clause-left
returns-in_err-insert-in-None-clause-left g c =
    let same : c.insert.new.self.entries ≡ c.args.pages.now.entries = search rules in
    rw ((err_from_is_err_and c.from_residual-in_err-insert-in-None.result c.from_residual-in_err-insert-in-None.ensures.1).1, same)
    (0, joined_none g.T.PartialEq.eq (claims g.T.Packed.read c.args.pages.now.entries) (128 * c.args.number + c.args.at))

pub returns-in-Some-clause-pages : goal.returns-in-Some-clause-pages
returns-in-Some-clause-pages g c =
    pages_changed c.args.pages.now.entries _ c.requires.pages c.len-count.ensures.ordered c.args.number c.join_page-joined.new.page c.join_page-joined.ensures.page c.requires.number (λ n. search rules)

pub returns-in-Some-clause-joined : goal.returns-in-Some-clause-joined
returns-in-Some-clause-joined g c =
    let found : value_at nat_cmp c.args.pages.now.entries c.args.number ≡ Some c.in-Some.page.now = search rules in
    on_ok_weaker c.join_page-joined.result
    (λ joined. stretch_joined c.args.pages.now.entries _ c.requires.pages c.len-count.ensures.ordered c.args.number c.join_page-joined.new.page c.join_page-joined.ensures.page c.requires.number (λ n. search rules)
    g.T.PartialEq.eq c.args.at c.args.items.now c.requires.at (λ r. rw found (joined r)))
    c.join_page-joined.ensures.joined

pub returns-in-Some-clause-left : goal.returns-in-Some-clause-left
returns-in-Some-clause-left g c =
    let found : value_at nat_cmp c.args.pages.now.entries c.args.number ≡ Some c.in-Some.page.now = search rules in
    on_err_weaker c.join_page-joined.result
    (λ left. (
      left.0,
      stretch_joined c.args.pages.now.entries _ c.requires.pages c.len-count.ensures.ordered c.args.number c.join_page-joined.new.page c.join_page-joined.ensures.page c.requires.number (λ n. search rules)
          g.T.PartialEq.eq c.args.at (take left.0 c.args.items.now) (omega (arith, length-take left.0 c.args.items.now, c.requires.at)) (λ r. rw found (left.1 r)),
    ))
    c.join_page-joined.ensures.left

pub returns-in_ok-insert-in-None-clause-pages : goal.returns-in_ok-insert-in-None-clause-pages
returns-in_ok-insert-in-None-clause-pages g c =
    pages_changed c.args.pages.now.entries c.insert.new.self.entries c.requires.pages c.in_ok-insert-in-None.ensures.ordered c.args.number c.in_ok-page-in-None.page c.in_ok-page-in-None.ensures.page c.requires.number (λ n. search rules)

pub returns-in_ok-insert-in-None-clause-joined : goal.returns-in_ok-insert-in-None-clause-joined
returns-in_ok-insert-in-None-clause-joined g c =
    let absent : value_at nat_cmp c.args.pages.now.entries c.args.number ≡ None = search rules in
    stretch_joined c.args.pages.now.entries c.insert.new.self.entries c.requires.pages c.in_ok-insert-in-None.ensures.ordered c.args.number c.in_ok-page-in-None.page c.in_ok-page-in-None.ensures.page c.requires.number (λ n. search rules)
    g.T.PartialEq.eq c.args.at c.args.items.now c.requires.at (λ r. rw (absent, c.in_ok-page-in-None.ensures.pairs) refl)
