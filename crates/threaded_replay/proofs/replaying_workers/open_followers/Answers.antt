use Rattle.std.proofs.Common.{length, drop, refl, sym, ap, ◌∙◌}
use Rattle.recorder.proofs.Ends.{drop_more, length_more}
use Rattle.threaded_replay.proofs.Pointing.{opened_on, follow_on}
use Rattle.threaded_replay.proofs.replaying_workers.open_followers.Goals as goal

pub loop-machine-preserved : goal.loop-machine-preserved
loop-machine-preserved g c =
    let inv = c.loop-machine.invariant in
    let left = drop_more c.args.machines.items (length c.loop-machine.yielded) c.in-Some.machine _ (sym inv.rest ∙ c.in-Some.ensures.steps.0) in
    let more = length_more c.loop-machine.yielded c.in-Some.machine in
    record {
      rest = left.1 ∙ ap (λ k. drop k c.args.machines.items) (sym more);
      threads = opened_on c.loop-machine.yielded c.in-Some.machine c.loop-machine.followers.items c.push.new.self.items _ c.in_ok-push.ensures.items refl inv.threads;
      log = follow_on c.args.log.now c.loop-machine.followers.items c.push.new.self.items _ c.in_ok-push.ensures.items refl inv.log;
    }
