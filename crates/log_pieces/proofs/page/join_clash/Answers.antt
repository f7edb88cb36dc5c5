-- The page is spelled again with a clash at the place.
use Rattle.std.proofs.Common.{◌≡◌, ◌-◌, arith, rules, refl, length, take}
use Rattle.log_pieces.specs.declared.flat.Flat.TheVariants.{Clash}
use Rattle.log_pieces.proofs.OneClaim.{changed, few_pairs, more_pairs, same_pairs, changed_joined}
use Rattle.log_pieces.proofs.Joining.{joined_clash}
use Rattle.log_pieces.proofs.page.join_clash.Goals as goal

pub overflow_add-page : goal.overflow_add-page
overflow_add-page g c = let few = few_pairs c.requires.page in omega arith

pub returns-in-None-clause-page : goal.returns-in-None-clause-page
returns-in-None-clause-page g c =
    let s = rw c.deref.ensures.value at c.spot-found.ensures in
    let cut : c.split_at.result.0.now ≡ take (length c.args.page.now.bytes.items - length c.spot-found.result.0.now) c.args.page.now.bytes.items = search rules in
    (changed g.met.T.Packed.reads_back s c.requires.at Clash tt _ _ _ cut c.in_ok-bytes.ensures (more_pairs s c.in-None.is _ c.requires.page.many)).page

pub returns-in-None-clause-joined : goal.returns-in-None-clause-joined
returns-in-None-clause-joined g c =
    let s = rw c.deref.ensures.value at c.spot-found.ensures in
    let cut : c.split_at.result.0.now ≡ take (length c.args.page.now.bytes.items - length c.spot-found.result.0.now) c.args.page.now.bytes.items = search rules in
    changed_joined s g.T.PartialEq.eq
    (changed g.met.T.Packed.reads_back s c.requires.at Clash tt _ _ _ cut c.in_ok-bytes.ensures (more_pairs s c.in-None.is _ c.requires.page.many))
    Clash (rw c.in-None.is refl)

pub returns-in-Some-clause-page : goal.returns-in-Some-clause-page
returns-in-Some-clause-page g c =
    let s = rw c.deref.ensures.value at c.spot-found.ensures in
    let cut : c.split_at.result.0.now ≡ take (length c.args.page.now.bytes.items - length c.spot-found.result.0.now) c.args.page.now.bytes.items = search rules in
    (changed g.met.T.Packed.reads_back s c.requires.at Clash tt _ _ _ cut c.in_ok-bytes.ensures (same_pairs s c.in-Some._mine c.in-Some.is _ c.requires.page.many)).page

pub returns-in-Some-clause-joined : goal.returns-in-Some-clause-joined
returns-in-Some-clause-joined g c =
    let s = rw c.deref.ensures.value at c.spot-found.ensures in
    let cut : c.split_at.result.0.now ≡ take (length c.args.page.now.bytes.items - length c.spot-found.result.0.now) c.args.page.now.bytes.items = search rules in
    changed_joined s g.T.PartialEq.eq
    (changed g.met.T.Packed.reads_back s c.requires.at Clash tt _ _ _ cut c.in_ok-bytes.ensures (same_pairs s c.in-Some._mine c.in-Some.is _ c.requires.page.many))
    Clash (rw (c.in-Some.is, joined_clash g.T.PartialEq.eq c.in-Some._mine) refl)
