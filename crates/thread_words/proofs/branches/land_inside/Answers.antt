use Rattle.std.proofs.Common.{◌≡◌, ◌∙◌, ◌+◌, ◌-◌, ◌++◌, ◌≤◌, refl, sym, ap, subst, arith, rules, length, take, drop}
use Rattle.thread_words.specs.Words.{flat}
use Rattle.thread_words.specs.Fields.{one_if}
use Rattle.thread_words.specs.Apart.{holding}
use Rattle.thread_words.proofs.Landings.{can_land, aims_at, height_is, cuts, lands_in, depth_is, short_of, cut_shorter}
use Rattle.thread_words.proofs.branches.land_inside.Goals as goal

pub overflow_sub-at-2 : goal.overflow_sub-at-2
overflow_sub-at-2 c =
    let k = c.requires in
    let own = k.3 in
    let b = own.3 in
    let old = holding own.0 own.0.here.place c.args.words.now c.args.labels.now in
    let size : c.len.result ≡ length c.args.labels.now.items = search rules in
    let is_at : (c.len.result - 1) - c.args.depth ≡ (length c.args.labels.now.items - 1) - c.args.depth = ap (λ y. (y - 1) - c.args.depth) size in
    let d = depth_is k.0 c.args.depth b.0 b.1 old b.2 in
    let d1 = d.1 in
    let l = short_of k.0 c.args.depth b.0 b.1 old b.2 own.2 in
    omega arith

pub landing_at-landing-requires : goal.landing_at-landing-requires
landing_at-landing-requires c =
    let k = c.requires in
    let own = k.3 in
    let b = own.3 in
    let old = holding own.0 own.0.here.place c.args.words.now c.args.labels.now in
    let size : c.len.result ≡ length c.args.labels.now.items = search rules in
    let is_at : (c.len.result - 1) - c.args.depth ≡ (length c.args.labels.now.items - 1) - c.args.depth = ap (λ y. (y - 1) - c.args.depth) size in
    (k.0, k.1, k.2, can_land k.0 k.1 c.args.depth ((c.len.result - 1) - c.args.depth) b.0 b.1 old c.index-label.result.now b.2 own.1 own.2 is_at c.index-label.ensures)

pub height_below-height-requires : goal.height_below-height-requires
height_below-height-requires c =
    let k = c.requires in
    let own = k.3 in
    let b = own.3 in
    let old = holding own.0 own.0.here.place c.args.words.now c.args.labels.now in
    let size : c.len.result ≡ length c.args.labels.now.items = search rules in
    let size2 : c.len-2.result ≡ length c.args.words.now.items = search rules in
    let is_at : (c.len.result - 1) - c.args.depth ≡ (length c.args.labels.now.items - 1) - c.args.depth = ap (λ y. (y - 1) - c.args.depth) size in
    let g = aims_at k.0 k.1 c.args.depth ((c.len.result - 1) - c.args.depth) b.0 b.1 old c.index-label.result.now c.landing_at-landing.result b.2 own.1 own.2 is_at c.index-label.ensures (c.landing_at-landing.ensures k.0 k.1 k.2) in
    ((length (flat b.0.callers) + length b.0.top.activation.locals) + g.label.height, height_is b.0 old b.2.next c.index-label.result.now ((c.len.result - 1) - c.args.depth) c.len-2.result c.landing_at-landing.result b.2.lies b.2.few size2 g)

pub cut-requires : goal.cut-requires
cut-requires c =
    let k = c.requires in
    let own = k.3 in
    let b = own.3 in
    let old = holding own.0 own.0.here.place c.args.words.now c.args.labels.now in
    let size : c.len.result ≡ length c.args.labels.now.items = search rules in
    let size2 : c.len-2.result ≡ length c.args.words.now.items = search rules in
    let is_at : (c.len.result - 1) - c.args.depth ≡ (length c.args.labels.now.items - 1) - c.args.depth = ap (λ y. (y - 1) - c.args.depth) size in
    let g = aims_at k.0 k.1 c.args.depth ((c.len.result - 1) - c.args.depth) b.0 b.1 old c.index-label.result.now c.landing_at-landing.result b.2 own.1 own.2 is_at c.index-label.ensures (c.landing_at-landing.ensures k.0 k.1 k.2) in
    let h = height_is b.0 old b.2.next c.index-label.result.now ((c.len.result - 1) - c.args.depth) c.len-2.result c.landing_at-landing.result b.2.lies b.2.few size2 g in
    cuts b.0 old b.2.next c.index-label.result.now ((c.len.result - 1) - c.args.depth) c.landing_at-landing.result c.height_below-height.result b.2.lies g (c.height_below-height.ensures ((length (flat b.0.callers) + length b.0.top.activation.locals) + g.label.height) h)

pub overflow_add-at : goal.overflow_add-at
overflow_add-at c =
    let k = c.requires in
    let own = k.3 in
    let b = own.3 in
    let old = holding own.0 own.0.here.place c.args.words.now c.args.labels.now in
    let size : c.len.result ≡ length c.args.labels.now.items = search rules in
    let is_at : (c.len.result - 1) - c.args.depth ≡ (length c.args.labels.now.items - 1) - c.args.depth = ap (λ y. (y - 1) - c.args.depth) size in
    let g = aims_at k.0 k.1 c.args.depth ((c.len.result - 1) - c.args.depth) b.0 b.1 old c.index-label.result.now c.landing_at-landing.result b.2 own.1 own.2 is_at c.index-label.ensures (c.landing_at-landing.ensures k.0 k.1 k.2) in
    let a = g.few in
    let w = g.within in
    omega arith

pub returns-clause-shorter : goal.returns-clause-shorter
returns-clause-shorter c =
    let k = c.requires in
    let own = k.3 in
    let b = own.3 in
    let old = holding own.0 own.0.here.place c.args.words.now c.args.labels.now in
    let size : c.len.result ≡ length c.args.labels.now.items = search rules in
    let size2 : c.len-2.result ≡ length c.args.words.now.items = search rules in
    let is_at : (c.len.result - 1) - c.args.depth ≡ (length c.args.labels.now.items - 1) - c.args.depth = ap (λ y. (y - 1) - c.args.depth) size in
    let g = aims_at k.0 k.1 c.args.depth ((c.len.result - 1) - c.args.depth) b.0 b.1 old c.index-label.result.now c.landing_at-landing.result b.2 own.1 own.2 is_at c.index-label.ensures (c.landing_at-landing.ensures k.0 k.1 k.2) in
    let h = height_is b.0 old b.2.next c.index-label.result.now ((c.len.result - 1) - c.args.depth) c.len-2.result c.landing_at-landing.result b.2.lies b.2.few size2 g in
    let fits = cuts b.0 old b.2.next c.index-label.result.now ((c.len.result - 1) - c.args.depth) c.landing_at-landing.result c.height_below-height.result b.2.lies g (c.height_below-height.ensures ((length (flat b.0.callers) + length b.0.top.activation.locals) + g.label.height) h) in
    subst (λ y. length y ≤ length c.args.words.now.items) (sym c.cut.ensures.items) (cut_shorter c.args.words.now.items c.height_below-height.result (one_if c.landing_at-landing.result.keep) fits)

pub returns-clause-lands : goal.returns-clause-lands
returns-clause-lands c = λ m function w own its inner s after k.
    let old = holding own own.here.place c.args.words.now c.args.labels.now in
    let size : c.len.result ≡ length c.args.labels.now.items = search rules in
    let size2 : c.len-2.result ≡ length c.args.words.now.items = search rules in
    let is_at : (c.len.result - 1) - c.args.depth ≡ (length c.args.labels.now.items - 1) - c.args.depth = ap (λ y. (y - 1) - c.args.depth) size in
    let g = aims_at m function c.args.depth ((c.len.result - 1) - c.args.depth) s after old c.index-label.result.now c.landing_at-landing.result k its inner is_at c.index-label.ensures (c.landing_at-landing.ensures m function w) in
    let h = height_is s old k.next c.index-label.result.now ((c.len.result - 1) - c.args.depth) c.len-2.result c.landing_at-landing.result k.lies k.few size2 g in
    lands_in m s k.next after old (holding own c.landing_at-landing.result.place c.cut.new.words c.truncate.new.self) g.count c.landing_at-landing.result.place g.label g.ls k.lies (k.running, k.lies) g.landed k.moves
    (record { stage = refl; function = refl; low_words = refl; low_labels = refl; callers = refl; starting = refl }) refl
    (c.cut.ensures.items ∙ ap (λ y. take y c.args.words.now.items ++ drop (length c.args.words.now.items - one_if c.landing_at-landing.result.keep) c.args.words.now.items) (c.height_below-height.ensures ((length (flat s.callers) + length s.top.activation.locals) + g.label.height) h)
    ∙ ap (λ y. take ((length (flat s.callers) + length s.top.activation.locals) + g.label.height) c.args.words.now.items ++ drop (length c.args.words.now.items - y) c.args.words.now.items) g.keeps)
    (c.truncate.ensures.items ∙ g.labels) refl
