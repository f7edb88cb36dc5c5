use Rattle.pick_schedule.proofs.Beginnings.{beginning_judged}
use Rattle.pick_schedule.proofs.laws.beginnings_say_all.Goals as goal

pub returns : goal.returns
returns c = beginning_judged
