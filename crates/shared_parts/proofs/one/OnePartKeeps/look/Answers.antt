-- The object is of the part that is kept, and here.
use Rattle.std.proofs.Common.{◌≡◌, ℕ, ◌+◌, ◌*◌, ◌/◌, ◌∙◌, sym, ap, subst, arith, is_some, true, false}
use Rattle.std.specs.Prelude.{option_copied}
use Rattle.shared_parts.specs.Eights.{IsAt, IsOfLane}
use Rattle.shared_parts.specs.Ones.{lane_of}
use Rattle.shared_parts.proofs.Writes.{lane_touched}
use Rattle.shared_parts.proofs.Ones.{lane_is}
use Rattle.shared_parts.proofs.one.OnePartKeeps.look.Goals as goal

pub look-requires-clause-lane : goal.look-requires-clause-lane
look-requires-clause-lane g c =
    let here = sym (ap option_copied c.in-Some.is) ∙ c.part.ensures.part in
    let of = subst (IsOfLane g.S.Striped.lane g.S.Striped.part_fixed (lane_of c.args.self.now) g.J.Opening.named.memory.fixed) (sym here) c.part.ensures.lane in
    of.0 ∙ sym (lane_is (g.S.ObjectSpace.meaning.touches c.args.op.now) c.args.self.now c.args.object c.requires.covers c.requires.touched)

pub unreachable-requires : goal.unreachable-requires
unreachable-requires g c =
    let ts = g.S.ObjectSpace.meaning.touches c.args.op.now in
    let none = sym (ap option_copied c.in-None.is) ∙ c.part.ensures.part in
    let on = lane_touched (lane_of c.args.self.now) c.args.object ts c.requires.touched (lane_is ts c.args.self.now c.args.object c.requires.covers c.requires.touched) in
    let both : false ≡ true = ap is_some none ∙ (c.requires.covers.kept.here ∙ on) in
    absurd (cc both)

pub returns : goal.returns
returns g c values here-now =
    let cut = g.S.Striped.cut in
    let fixed = g.J.Opening.named.memory.fixed in
    let op = c.args.op.now in
    let object : ℕ = c.args.object in
    let here = sym (ap option_copied c.in-Some.is) ∙ c.part.ensures.part in
    let of = subst (IsOfLane g.S.Striped.lane g.S.Striped.part_fixed (lane_of c.args.self.now) fixed) (sym here) c.part.ensures.lane in
    let at = subst (IsAt g.S.Striped.held (lane_of c.args.self.now) values) (sym here) here-now in
    let lane = lane_is (g.S.ObjectSpace.meaning.touches op) c.args.self.now object c.requires.covers c.requires.touched in
    let whole : 8 * (object / 8) + lane_of c.args.self.now ≡ object = omega (arith, lane) in
    c.look.ensures ∙ (ap (λ f. cut.sight f op object (g.S.Striped.held c.in-Some.part.now (object / 8))) of.1
    ∙ ap (λ v. cut.sight fixed op object v) (ap (λ h. h (object / 8)) at ∙ ap values whole))
