use Rattle.std.proofs.Common.{◌≡◌, ◌∙◌, sym, ap}
use Rattle.shared_parts.specs.Writes.{writes}
use Rattle.shared_parts.proofs.Writes.{part_same}
use Rattle.shared_parts.proofs.stripe.Stripe.meet.Goals as goal

pub returns : goal.returns
returns g c = record {
  met = λ total.
      let inv = c.self.invariant in
      let same : writes g.S.ObjectSpace.meaning.touches g.row.I c.self.inside.reached ≡ writes g.S.ObjectSpace.meaning.touches g.row.I c.args.latest.now = sym inv.1 ∙ (c.meet-2.ensures.met ∙ total) in
      ap g.S.Striped.held (sym c.self.view_is) ∙ (inv.2.is_held ∙ part_same g.S.ObjectSpace.meaning g.row.I g.J.Opening.named.memory c.self.inside.reached c.args.latest.now inv.0 c.meet.ensures.begins same);
}
