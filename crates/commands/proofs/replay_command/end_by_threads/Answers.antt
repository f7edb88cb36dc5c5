use Rattle.commands.proofs.replay_command.end_by_threads.Goals as goal

pub returns-in-Ok-clause-ends : goal.returns-in-Ok-clause-ends
returns-in-Ok-clause-ends g c order = record { ordered = c.in-Ok.ensures.ordered order; recorded = c.in-Ok.ensures.recorded }
