use Rattle.std.proofs.Common.{subst}
use Rattle.std.specs.Prelude.{IfSome}
use Rattle.commands.specs.Hunts.{IsCaughtRun}
use Rattle.commands.proofs.hunt_command.hunted_by_threads.Goals as goal

pub returns-in-Ok-clause-found : goal.returns-in-Ok-clause-found
returns-in-Ok-clause-found g c =
    let m = c.args.program.now.valid in
    let plan = c.args.program.now.plan in
    let asked = c.args.request.now in
    let found = c.in-Ok-Some.found in
    record {
      number = found.number;
      recording = found.recording;
      found = subst (λ o. IfSome o (λ x. IsCaughtRun m plan asked x.number x.recording)) c.in-Ok-Some.field-0-is c.in-Ok-Some.ensures.found;
      some = c.requires.some;
      few = c.requires.few;
      text = c.in-Ok.ensures.text;
      told = c.in-Ok.ensures.told;
    }
