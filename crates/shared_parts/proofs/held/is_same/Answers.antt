use Rattle.std.proofs.Common.{◌≡◌, ◌∙◌, sym, true, false}
use Rattle.rw_objects.specs.Decides.{entry_decides}
use Rattle.shared_parts.proofs.held.is_same.Goals as goal

pub returns : goal.returns
returns c = record {
  same = λ h. (entry_decides c.args.one.now c.args.other.now).0 (sym c.eq.ensures ∙ h);
  other = λ h e. let t : false ≡ true = sym h ∙ (c.eq.ensures ∙ (entry_decides c.args.one.now c.args.other.now).1 e) in absurd (cc t);
}
