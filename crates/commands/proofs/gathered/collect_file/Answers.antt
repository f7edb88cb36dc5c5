use Rattle.std.proofs.Common.{sym, subst}
use Rattle.commands.specs.declared.fault.Fault.{Fault}
use Rattle.commands.specs.Inputs.{IsLinesRefused}
use Rattle.commands.proofs.Streams.{found_in, fault_in}
use Rattle.commands.proofs.gathered.collect_file.Goals as goal

pub returns-in-Ok-collect-clause-gathered : goal.returns-in-Ok-collect-clause-gathered
returns-in-Ok-collect-clause-gathered g c = found_in c.in-Ok.ensures.opened _ c.in-Ok-collect.found c.in-Ok-collect.ensures.gathered

pub returns-clause-refused : goal.returns-clause-refused
returns-clause-refused g c =
    let fault = c.in-Err-collect.fault in
    subst (λ (f : Fault). IsLinesRefused (g.F.Files.holds c.args.files.now c.args.path.now) (g.F.Files.fails c.args.files.now c.args.path.now) f) (sym c.lines_fault.ensures)
    (fault_in c.in-Ok.ensures.opened _ fault c.in-Err-collect.ensures.errors (g.met.F.Stream.Source.brings_nothing _) c.in-Err-collect.ensures.bad_line c.in-Err-collect.ensures.other_run c.in-Err-collect.ensures.source_failed)
