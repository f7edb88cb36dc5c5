use Rattle.std.proofs.Common.{◌++◌, ◌∷◌, [], ap, ◌∙◌, arith}
use Rattle.log_pieces.proofs.Packing.{few_entries, pushed}
use Rattle.log_pieces.proofs.packed_entries.PackedEntries.push.Goals as goal

pub overflow_add-self : goal.overflow_add-self
overflow_add-self c = let few = few_entries c.self.inside.count c.self.inside.bytes.items c.self.invariant in let small = c.self.inside.bytes.small in omega (arith, few, small)

pub invariant_of-self : goal.invariant_of-self
invariant_of-self c = (pushed c.self.inside.count c.self.inside.bytes.items c.put.new.out.items c.args.entry.now c.self.invariant c.in-Ok.ensures.put c.in-Ok.ensures.fits).packed

pub returns-in-Ok-clause-ok : goal.returns-in-Ok-clause-ok
returns-in-Ok-clause-ok c =
    (pushed c.self.inside.count c.self.inside.bytes.items c.put.new.out.items c.args.entry.now c.self.invariant c.in-Ok.ensures.put c.in-Ok.ensures.fits).read
    ∙ ap (λ es. es ++ c.args.entry.now ∷ []) c.self.view_is
