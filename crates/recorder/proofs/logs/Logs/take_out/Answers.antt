use Rattle.std.proofs.Common.{[], ap, ◌∙◌}
use Rattle.event_core.specs.Threads.{change_at}
use Rattle.recorder.proofs.Rest.{list_written}
use Rattle.recorder.proofs.logs.Logs.take_out.Goals as goal

pub returns-clause-left : goal.returns-clause-left
returns-clause-left c =
    list_written (λ _. []) c.self.inside.lists.items c.args.thread c.index_mut.result.now c.replace.new.dest (rw c.self.view_is c.requires) c.index_mut.ensures.value (c.replace.ensures.after ∙ c.new-none.ensures)
    ∙ ap (λ l. change_at l c.args.thread (λ _. [])) c.self.view_is
