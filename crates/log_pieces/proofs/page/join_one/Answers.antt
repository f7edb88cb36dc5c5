-- The page is spelled again with the item put in or with a clash at its place.
use Rattle.std.proofs.Common.{◌≡◌, ◌-◌, arith, rules, sym, ◌∙◌, refl, length, take}
use Rattle.log_pieces.specs.declared.flat.Flat.TheVariants.{Known, Clash}
use Rattle.log_pieces.specs.Flat.{flat_joined}
use Rattle.log_pieces.proofs.OneClaim.{changed, few_pairs, more_pairs, same_pairs, changed_joined, unchanged_joined}
use Rattle.log_pieces.proofs.page.join_one.Goals as goal

pub overflow_add-page : goal.overflow_add-page
overflow_add-page g c = let few = few_pairs c.requires.page in omega arith

pub returns-then-is_item-clause-joined : goal.returns-then-is_item-clause-joined
returns-then-is_item-clause-joined g c =
    let s = rw c.deref.ensures.value at c.spot-found.ensures in
    unchanged_joined s g.T.PartialEq.eq c.in-Some.mine c.in-Some.is (Known c.args.item.now) (sym (c.is_item.ensures ∙ rw c.if-is_item.true refl))

pub returns-in_ok-bytes-in-None-clause-page : goal.returns-in_ok-bytes-in-None-clause-page
returns-in_ok-bytes-in-None-clause-page g c =
    let s = rw c.deref.ensures.value at c.spot-found.ensures in
    let cut : c.split_at.result.0.now ≡ take (length c.args.page.now.bytes.items - length c.spot-found.result.0.now) c.args.page.now.bytes.items = search rules in
    (changed g.met.T.Packed.reads_back s c.requires.at (Known c.args.item.now) c.in_ok-bytes-in-None.ensures.fits _ _ _ cut c.in_ok-bytes-in-None.ensures.bytes (more_pairs s c.in-None.is _ c.requires.page.many)).page

pub returns-in_ok-bytes-in-None-clause-joined : goal.returns-in_ok-bytes-in-None-clause-joined
returns-in_ok-bytes-in-None-clause-joined g c =
    let s = rw c.deref.ensures.value at c.spot-found.ensures in
    let cut : c.split_at.result.0.now ≡ take (length c.args.page.now.bytes.items - length c.spot-found.result.0.now) c.args.page.now.bytes.items = search rules in
    changed_joined s g.T.PartialEq.eq
    (changed g.met.T.Packed.reads_back s c.requires.at (Known c.args.item.now) c.in_ok-bytes-in-None.ensures.fits _ _ _ cut c.in_ok-bytes-in-None.ensures.bytes (more_pairs s c.in-None.is _ c.requires.page.many))
    (Known c.args.item.now) (rw c.in-None.is refl)

pub returns-in_ok-bytes-in-Some-clause-page : goal.returns-in_ok-bytes-in-Some-clause-page
returns-in_ok-bytes-in-Some-clause-page g c =
    let s = rw c.deref.ensures.value at c.spot-found.ensures in
    let cut : c.split_at.result.0.now ≡ take (length c.args.page.now.bytes.items - length c.spot-found.result.0.now) c.args.page.now.bytes.items = search rules in
    (changed g.met.T.Packed.reads_back s c.requires.at Clash tt _ _ _ cut c.in_ok-bytes-in-Some.ensures (same_pairs s c.in-Some.mine c.in-Some.is _ c.requires.page.many)).page

pub returns-in_ok-bytes-in-Some-clause-joined : goal.returns-in_ok-bytes-in-Some-clause-joined
returns-in_ok-bytes-in-Some-clause-joined g c =
    let s = rw c.deref.ensures.value at c.spot-found.ensures in
    let cut : c.split_at.result.0.now ≡ take (length c.args.page.now.bytes.items - length c.spot-found.result.0.now) c.args.page.now.bytes.items = search rules in
    let clash : flat_joined g.T.PartialEq.eq c.in-Some.mine (Known c.args.item.now) ≡ Clash = c.is_item.ensures ∙ rw c.if-is_item.false refl in
    changed_joined s g.T.PartialEq.eq
    (changed g.met.T.Packed.reads_back s c.requires.at Clash tt _ _ _ cut c.in_ok-bytes-in-Some.ensures (same_pairs s c.in-Some.mine c.in-Some.is _ c.requires.page.many))
    (Known c.args.item.now) (rw (c.in-Some.is, clash) refl)
