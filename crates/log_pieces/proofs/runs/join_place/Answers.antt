-- The page of the place is joined with the claim, or is put in.
use Rattle.std.proofs.Common.{◌≡◌, ℕ, ◌/◌, ◌%◌, ◌^◌, ◌<◌, ◌≤◌, suc, [], ◌∷◌, Some, None, rules, ap, subst, ◌∙◌, arith}
use Rattle.std.specs.Ordering.{nat_cmp}
use Rattle.std.proofs.Math.Nat.{div-add-mod, mod-lt}
use Rattle.std.proofs.lemmas.Result.{on_ok_weaker, on_err_weaker}
use Rattle.log_pieces.specs.declared.page.Page.{Page}
use Rattle.log_pieces.specs.Keyed.{value_at}
use Rattle.log_pieces.specs.Pages.{pairs_of, AreJoined}
use Rattle.log_pieces.specs.Runs.{claims}
use Rattle.log_pieces.proofs.Joining.{none_joined}
use Rattle.log_pieces.proofs.Locations.{pages_changed, claims_joined}
use Rattle.log_pieces.proofs.runs.join_place.Goals as goal

few : (place : ℕ) → place < 2 ^ 32 → place / 128 < 2 ^ 25
few place lt = let d = div-add-mod place 128 in omega arith

one_rises : (place : ℕ) → (0 ≤ place % 128) × (suc (place % 128) ≤ 128)
one_rises place = (omega arith, let lt : place % 128 < 128 = mod-lt place (let pos : 0 < 128 = omega arith in pos) in omega arith)

pub join_claim-joined-requires-clause-page : goal.join_claim-joined-requires-clause-page
join_claim-joined-requires-clause-page g c =
    let found : value_at nat_cmp c.args.pages.now.entries (c.args.place / 128) ≡ Some c.in-Some.page.now = search rules in
    c.requires.pages.each (c.args.place / 128) c.in-Some.page.now found

pub returns-in-Some-clause-pages : goal.returns-in-Some-clause-pages
returns-in-Some-clause-pages g c =
    pages_changed c.args.pages.now.entries _ c.requires.pages c.len-count.ensures.ordered (c.args.place / 128) c.join_claim-joined.new.page c.join_claim-joined.ensures.page (few c.args.place c.ranges.place.fits) (λ n. search rules)

pub returns-in-Some-clause-joined : goal.returns-in-Some-clause-joined
returns-in-Some-clause-joined g c =
    let found : value_at nat_cmp c.args.pages.now.entries (c.args.place / 128) ≡ Some c.in-Some.page.now = search rules in
    on_ok_weaker c.join_claim-joined.result
    (λ joined. subst (λ (n : ℕ). AreJoined g.T.PartialEq.eq (claims g.T.Packed.read c.args.pages.now.entries) ((n, c.args.claim.now) ∷ []) (claims g.T.Packed.read (c.get_mut.follows.lender c.join_claim-joined.new.page).entries)) (div-add-mod c.args.place 128)
    (claims_joined c.args.pages.now.entries _ c.requires.pages c.len-count.ensures.ordered (c.args.place / 128) c.join_claim-joined.new.page c.join_claim-joined.ensures.page (few c.args.place c.ranges.place.fits) (λ n. search rules)
    g.T.PartialEq.eq ((c.args.place % 128, c.args.claim.now) ∷ []) (one_rises c.args.place) (λ r. rw found (joined r))))
    c.join_claim-joined.ensures.joined

pub returns-in-Some-clause-left : goal.returns-in-Some-clause-left
returns-in-Some-clause-left g c =
    let found : value_at nat_cmp c.args.pages.now.entries (c.args.place / 128) ≡ Some c.in-Some.page.now = search rules in
    on_err_weaker c.join_claim-joined.result
    (λ same. claims_joined c.args.pages.now.entries _ c.requires.pages c.len-count.ensures.ordered (c.args.place / 128) c.join_claim-joined.new.page c.join_claim-joined.ensures.page (few c.args.place c.ranges.place.fits) (λ n. search rules)
    g.T.PartialEq.eq [] (omega arith) (λ r. rw found (ap (λ (p : Page). value_at nat_cmp (pairs_of g.T.Packed.read p) r) same ∙ none_joined g.T.PartialEq.eq (pairs_of g.T.Packed.read c.in-Some.page.now) r)))
    c.join_claim-joined.ensures.left

pub returns-in_ok-insert-in-None-clause-pages : goal.returns-in_ok-insert-in-None-clause-pages
returns-in_ok-insert-in-None-clause-pages g c =
    pages_changed c.args.pages.now.entries c.insert.new.self.entries c.requires.pages c.in_ok-insert-in-None.ensures.ordered (c.args.place / 128) c.join_claim.new.page c.join_claim.ensures.page (few c.args.place c.ranges.place.fits) (λ n. search rules)

pub returns-in_ok-insert-in-None-clause-joined : goal.returns-in_ok-insert-in-None-clause-joined
returns-in_ok-insert-in-None-clause-joined g c =
    let absent : value_at nat_cmp c.args.pages.now.entries (c.args.place / 128) ≡ None = search rules in
    subst (λ (n : ℕ). AreJoined g.T.PartialEq.eq (claims g.T.Packed.read c.args.pages.now.entries) ((n, c.args.claim.now) ∷ []) (claims g.T.Packed.read c.insert.new.self.entries)) (div-add-mod c.args.place 128)
    (claims_joined c.args.pages.now.entries c.insert.new.self.entries c.requires.pages c.in_ok-insert-in-None.ensures.ordered (c.args.place / 128) c.join_claim.new.page c.join_claim.ensures.page (few c.args.place c.ranges.place.fits) (λ n. search rules)
    g.T.PartialEq.eq ((c.args.place % 128, c.args.claim.now) ∷ []) (one_rises c.args.place) (λ r. rw absent (rw c.empty_page-page.ensures.pairs at (c.in_ok-join_claim-in-None.ensures.joined r))))
