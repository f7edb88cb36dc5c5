use Rattle.std.proofs.Common.{inr}
use Rattle.commands.proofs.Earlier.{lines_refused_earlier}
use Rattle.commands.proofs.gathered.read_replay_input.Goals as goal

pub returns-in-Err-read_log-clause-refused : goal.returns-in-Err-read_log-clause-refused
returns-in-Err-read_log-clause-refused g c =
    inr (c.in-Ok.program.valid, c.in-Ok.program.plan, c.in-Ok.ensures.found, lines_refused_earlier (c.in-Ok.ensures.still_holds _) (c.in-Ok.ensures.still_fails _) c.in-Err-read_log.fault c.in-Err-read_log.ensures.refused)
