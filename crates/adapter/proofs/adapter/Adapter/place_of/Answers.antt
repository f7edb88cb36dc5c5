use Rattle.std.proofs.Common.{ℕ, List, None, subst}
use Rattle.adapter.specs.InstructionBreaks.{NamesSo}
use Rattle.adapter.proofs.References.{none_named}
use Rattle.adapter.proofs.adapter.Adapter.place_of.Goals as goal

pub returns-in_default : goal.returns-in_default
returns-in_default c = none_named c.args.self.now.debugger.valid.now (record { reference = c.args.reference.now; offset = c.args.offset }) (subst (λ (text : List ℕ). NamesSo text None) c.as_str.ensures c.in_default.ensures)
