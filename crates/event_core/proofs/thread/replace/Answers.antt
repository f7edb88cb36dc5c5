use Rattle.std.proofs.Common.{refl}
use Rattle.event_core.specs.Threads.{thread_of}
use Rattle.event_core.specs.LocalRun.{thread_in}
use Rattle.event_core.proofs.Threads.{map_set}
use Rattle.event_core.proofs.thread.replace.Goals as goal

pub returns : goal.returns
returns g c = map_set (thread_of g.M.Machine.state) (thread_in (g.M.Machine.state c.args.machine)) c.args.threads.now.items c.args.at c.index_mut.result.now _ c.requires c.index_mut.ensures.value refl
