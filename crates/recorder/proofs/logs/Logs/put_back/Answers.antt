use Rattle.std.proofs.Common.{ap, ◌∙◌}
use Rattle.event_core.specs.Threads.{change_at}
use Rattle.recorder.proofs.Rest.{list_written}
use Rattle.recorder.proofs.logs.Logs.put_back.Goals as goal

pub returns : goal.returns
returns c =
    list_written (λ _. c.args.writer.entries) c.self.inside.lists.items c.args.thread c.index_mut.result.now c.into_entries.result (rw c.self.view_is c.requires) c.index_mut.ensures.value c.into_entries.ensures
    ∙ ap (λ l. change_at l c.args.thread (λ _. c.args.writer.entries)) c.self.view_is
