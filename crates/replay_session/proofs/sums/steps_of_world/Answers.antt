use Rattle.std.proofs.Common.{sym, ◌∙◌, arith}
use Rattle.event_core.specs.World.{world_of}
use Rattle.replay_session.proofs.Totals.{sum_more, no_thread, few_steps}
use Rattle.replay_session.proofs.sums.steps_of_world.Goals as goal
use Rattle.replay_session.proofs.sums.steps_of_world.Goals.{in-None, in-Some}

pub loop-thread-preserved : goal.loop-thread-preserved
loop-thread-preserved g c =
    let code = g.M.Machine.code in
    let w = world_of c.args.world.now in
    let k = c.loop-thread.thread in
    let inv = c.loop-thread.invariant in
    elim c.match-steps.branch [
      | in-None w' ↦ absurd (no_thread code w.threads k (sym c.steps.ensures ∙ w'.in-None.is) (let l = c.loop-thread-test.true in let e = c.count-thread-end.ensures.count in omega (arith, l, e)))
      | in-Some w' ↦
          let h = sym c.steps.ensures ∙ w'.in-Some.is in
          let f = few_steps code w.threads w.memory c.args.world.now.sound k w'.in-Some.steps h in
          let few = inv.few in
          let is = w'.sum-is in
          let more = sum_more code w.threads k w'.in-Some.steps c.loop-thread.sum h inv.sum in
          record { sum = omega (arith, is, more); few = omega (arith, f, few, is) }
    ]
