use Rattle.std.proofs.Common.{◌++◌, ◌∷◌, [], Some, ap, sym, ◌∙◌, arith}
use Rattle.log_pieces.specs.EntriesIn.{WriterAt}
use Rattle.log_pieces.proofs.Packing.{few_entries, pushed}
use Rattle.log_pieces.proofs.writer.EntriesWriterEntryLog.push.Goals as goal

pub overflow_add-self : goal.overflow_add-self
overflow_add-self c = let few = few_entries c.self.inside.count c.self.inside.bytes.items c.self.invariant in let small = c.self.inside.bytes.small in omega (arith, few, small)

pub invariant_of-self : goal.invariant_of-self
invariant_of-self c = (pushed c.self.inside.count c.self.inside.bytes.items c.put.new.out.items c.args.entry.now c.self.invariant c.in-Ok.ensures.put c.in-Ok.ensures.fits).packed

pub returns : goal.returns
returns c =
    ap Some (sym ((pushed c.self.inside.count c.self.inside.bytes.items c.put.new.out.items c.args.entry.now c.self.invariant c.in-Ok.ensures.put c.in-Ok.ensures.fits).read
    ∙ ap (λ (w : WriterAt). w.entries ++ c.args.entry.now ∷ []) c.self.view_is))
