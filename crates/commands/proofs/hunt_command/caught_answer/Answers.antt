use Rattle.commands.proofs.Least.{both_ok}
use Rattle.commands.proofs.hunt_command.caught_answer.Goals as goal

pub returns : goal.returns
returns g c = both_ok c.caught_lines.result c.caught_lines.ensures.text c.caught_lines.ensures.told (λ answer text told. record {
  number = c.args.number;
  least = c.requires.least;
  recording = c.in_ok-recording.recording;
  some = c.requires.some;
  few = c.requires.few;
  key = c.in_ok-recording.ensures.key;
  is_run = c.in_ok-recording.ensures.is_run;
  text = text;
  told = told;
})
