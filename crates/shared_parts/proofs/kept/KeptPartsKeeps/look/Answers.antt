use Rattle.std.proofs.Common.{◌%◌, arith, ℕ, sym, subst}
use Rattle.shared_parts.specs.Eights.{AreHere}
use Rattle.shared_parts.proofs.Writes.{seen_so_far}
use Rattle.shared_parts.proofs.kept.KeptPartsKeeps.look.Goals as goal

pub returns : goal.returns
returns g c values here-now =
    let here = subst (AreHere g.S.Striped.held values) (sym c.self.view_is) here-now in
    let k : ℕ = c.args.object % 8 in
    let a = seen_so_far k 0 _ c.default-seen.result c.look.new.seen (λ h. absurd (omega (arith, h))) (λ e. c.look.ensures.mine e values here.zero) c.look.ensures.other in
    let b = seen_so_far k 1 _ c.look.new.seen c.look-2.new.seen a (λ e. c.look-2.ensures.mine e values here.one) c.look-2.ensures.other in
    let d = seen_so_far k 2 _ c.look-2.new.seen c.look-3.new.seen b (λ e. c.look-3.ensures.mine e values here.two) c.look-3.ensures.other in
    let e = seen_so_far k 3 _ c.look-3.new.seen c.look-4.new.seen d (λ e. c.look-4.ensures.mine e values here.three) c.look-4.ensures.other in
    let f = seen_so_far k 4 _ c.look-4.new.seen c.look-5.new.seen e (λ e. c.look-5.ensures.mine e values here.four) c.look-5.ensures.other in
    let h = seen_so_far k 5 _ c.look-5.new.seen c.look-6.new.seen f (λ e. c.look-6.ensures.mine e values here.five) c.look-6.ensures.other in
    let i = seen_so_far k 6 _ c.look-6.new.seen c.look-7.new.seen h (λ e. c.look-7.ensures.mine e values here.six) c.look-7.ensures.other in
    let j = seen_so_far k 7 _ c.look-7.new.seen c.look-8.new.seen i (λ e. c.look-8.ensures.mine e values here.seven) c.look-8.ensures.other in
    j (omega arith)
