-- Each job is worked, or left out with no calls, and so its calls lead to what its thread has then.
use Rattle.workers.proofs.Seats.{all_worked}
use Rattle.workers.proofs.jobs.work_all.Goals as goal

pub returns : goal.returns
returns g c = all_worked (λ j. j.seat) (λ j. j.state) g.W.Work.leads c.args.jobs.items c.in_ok-done.done.items c.in_ok-done.ensures c.requires.new
