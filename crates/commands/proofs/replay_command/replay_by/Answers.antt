use Rattle.commands.proofs.replay_command.replay_by.Goals as goal
use Rattle.commands.proofs.Wanting.{wants_by}

pub returns-in-Ok-noted-clause-replayed : goal.returns-in-Ok-noted-clause-replayed
returns-in-Ok-noted-clause-replayed g c = record {
  of_run = c.in-Ok.ensures.of_run;
  end = c.in-Ok.ended;
  ends = c.in-Ok.ensures.ends;
  notes = c.in-Ok-noted.ensures.0;
  are_notes = c.in-Ok-noted.ensures.1;
  is = c.in-Ok-noted.ensures.2;
}

pub returns-clause-refused : goal.returns-clause-refused
returns-clause-refused g c = wants_by c.args.by_threads _ _ _ _
