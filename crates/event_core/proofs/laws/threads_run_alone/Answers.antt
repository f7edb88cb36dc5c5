use Rattle.event_core.proofs.ThreadRuns as ThreadRuns
use Rattle.event_core.proofs.laws.threads_run_alone.Goals as goal

pub returns : goal.returns
returns g c = ThreadRuns.threads_run_alone g.S.ObjectSpace.meaning g.M.Machine.code g.L.EntryLog.add g.met.M.Machine.laws
