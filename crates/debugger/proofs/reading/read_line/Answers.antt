use Rattle.debugger.proofs.LongLines.{long_line}
use Rattle.debugger.proofs.reading.read_line.Goals as goal

pub returns-then-line-gt-LONGEST : goal.returns-then-line-gt-LONGEST
returns-then-line-gt-LONGEST c = long_line c.args.line.now (c.if-line-gt-LONGEST.true)
