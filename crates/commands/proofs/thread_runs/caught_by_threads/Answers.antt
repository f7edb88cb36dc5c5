use Rattle.std.proofs.Common.{◌∙◌}
use Rattle.commands.proofs.thread_runs.caught_by_threads.Goals as goal

pub returns-else-branch-clause-none : goal.returns-else-branch-clause-none
returns-else-branch-clause-none g c = record { recorded = c.in_ok-recording.recording.recorded; is_run = c.in_ok-recording.ensures.records; judged = c.in_ok-judge.ensures ∙ c.if-branch.false }
