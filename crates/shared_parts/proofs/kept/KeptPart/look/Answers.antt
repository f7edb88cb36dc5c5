-- A touched object's part is here.
use Rattle.std.proofs.Common.{◌≡◌, ℕ, ◌+◌, ◌*◌, ◌/◌, ◌∙◌, sym, ap, subst, arith, is_some, true, false}
use Rattle.std.specs.Prelude.{option_copied}
use Rattle.shared_parts.specs.Eights.{IsAt, IsOfLane}
use Rattle.shared_parts.proofs.Writes.{lane_touched}
use Rattle.shared_parts.proofs.kept.KeptPart.look.Goals as goal

pub look-requires-clause-lane : goal.look-requires-clause-lane
look-requires-clause-lane g c =
    let here = sym (ap option_copied c.in-Some.is) ∙ c.part.ensures.part in
    let of = subst (IsOfLane g.S.Striped.lane g.S.Striped.part_fixed g.row.I g.J.Opening.named.memory.fixed) (sym here) c.part.ensures.lane in
    of.0 ∙ sym (sym c.from.ensures ∙ c.if-from.true)

pub unreachable-requires : goal.unreachable-requires
unreachable-requires g c =
    let ts = g.S.ObjectSpace.meaning.touches c.args.op.now in
    let none = sym (ap option_copied c.in-None.is) ∙ c.part.ensures.part in
    let on = lane_touched g.row.I c.args.object ts c.requires.touched (sym c.from.ensures ∙ c.if-from.true) in
    let both : false ≡ true = ap is_some none ∙ (c.requires.kept.here ∙ on) in
    absurd (cc both)

pub returns-in-Some-clause-mine : goal.returns-in-Some-clause-mine
returns-in-Some-clause-mine g c mine values here-now =
    let cut = g.S.Striped.cut in
    let fixed = g.J.Opening.named.memory.fixed in
    let op = c.args.op.now in
    let object : ℕ = c.args.object in
    let here = sym (ap option_copied c.in-Some.is) ∙ c.part.ensures.part in
    let of = subst (IsOfLane g.S.Striped.lane g.S.Striped.part_fixed g.row.I fixed) (sym here) c.part.ensures.lane in
    let at = subst (IsAt g.S.Striped.held g.row.I values) (sym here) here-now in
    let whole : 8 * (object / 8) + g.row.I ≡ object = omega (arith, mine) in
    c.look.ensures ∙ (ap (λ f. cut.sight f op object (g.S.Striped.held c.in-Some.part.now (object / 8))) of.1
    ∙ ap (λ v. cut.sight fixed op object v) (ap (λ h. h (object / 8)) at ∙ ap values whole))
