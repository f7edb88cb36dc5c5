use Rattle.std.proofs.Common.{◌≡◌, ◌∙◌, sym, ap, rules, subst}
use Rattle.std.specs.Prelude.{string_bytes}
use Rattle.pick_schedule.specs.Schedule.{schedule_of}
use Rattle.commands.specs.Hunts.{IsTextOf}
use Rattle.commands.proofs.Least.{both_ok}
use Rattle.commands.proofs.hunt_command.answer_by.Goals as goal

pub returns-then-prints : goal.returns-then-prints
returns-then-prints g c =
    let m = c.args.runs.now.program.now.valid in
    let plan = c.args.runs.now.program.now.plan in
    let asked = c.args.runs.now.request.now in
    let recording = c.in_ok-recording.recording in
    let written : c.of_text.result.text ≡ string_bytes c.in_ok-text.text = search (c.of_text.ensures, c.into_bytes.ensures, rules) in
    record {
      number = c.args.number;
      least = c.requires.least;
      picks = c.args.picks.now;
      found = c.requires.found;
      recording = recording;
      some = c.requires.some;
      few = c.requires.few;
      key = c.in_ok-recording.ensures.key;
      is_run = c.in_ok-recording.ensures.is_run;
      text = subst (λ b. IsTextOf m plan asked b c.args.picks.now recording c.of_text.result.text) (sym c.if-prints.true ∙ c.prints.ensures) (ap schedule_of written ∙ c.in_ok-text.ensures);
      told = c.of_text.ensures.told ∙ c.in_ok-told.ensures;
    }

pub returns : goal.returns
returns g c =
    let m = c.args.runs.now.program.now.valid in
    let plan = c.args.runs.now.program.now.plan in
    let asked = c.args.runs.now.request.now in
    let recording = c.in_ok-recording.recording in
    both_ok c.caught_lines.result c.caught_lines.ensures.text c.caught_lines.ensures.told (λ answer text told. record {
      number = c.args.number;
      least = c.requires.least;
      picks = c.args.picks.now;
      found = c.requires.found;
      recording = recording;
      some = c.requires.some;
      few = c.requires.few;
      key = c.in_ok-recording.ensures.key;
      is_run = c.in_ok-recording.ensures.is_run;
      text = subst (λ b. IsTextOf m plan asked b c.args.picks.now recording answer.text) (sym c.if-prints.false ∙ c.prints.ensures) text;
      told = told;
    })
