use Rattle.std.proofs.Common.{sym}
use Rattle.event_core.specs.World.{world_of}
use Rattle.event_core.proofs.Threads.{read_at, read_past, step_none, step_some, step_worn}
use Rattle.event_core.proofs.world.World.step_of.Goals as goal

pub step_of_next-requires : goal.step_of_next-requires
step_of_next-requires g c =
    let h = c.in-Some.ensures.lookup in
    let kept = c.args.self.now.sound.each c.args.pick.thread _ (read_at g.M.Machine.state c.args.self.now.threads.items c.deref.result.now c.args.pick.thread c.in-Some.thread.now c.deref.ensures.value h.0 h.1) in
    rw (c.next.ensures, ← kept.fixed) (g.met.M.Machine.laws.fits (g.M.Machine.state c.in-Some.thread.now.machine) kept.is_suited)

pub returns-in-None : goal.returns-in-None
returns-in-None g c =
    let h = c.in-None.ensures.lookup in
    sym (step_none g.S.ObjectSpace.meaning g.M.Machine.code (world_of c.args.self.now) c.args.pick (read_past g.M.Machine.state c.args.self.now.threads.items c.deref.result.now c.args.pick.thread c.deref.ensures.value h.0))

pub returns-then-steps-lt-MOST_STEPS : goal.returns-then-steps-lt-MOST_STEPS
returns-then-steps-lt-MOST_STEPS g c =
    let h = c.in-Some.ensures.lookup in
    rw (c.step_of_next.ensures, c.next.ensures) (sym (step_some g.S.ObjectSpace.meaning g.M.Machine.code (world_of c.args.self.now) c.args.pick _ (read_at g.M.Machine.state c.args.self.now.threads.items c.deref.result.now c.args.pick.thread c.in-Some.thread.now c.deref.ensures.value h.0 h.1) (rw c.steps.ensures at c.if-steps-lt-MOST_STEPS.true)))

pub returns-else-steps-lt-MOST_STEPS : goal.returns-else-steps-lt-MOST_STEPS
returns-else-steps-lt-MOST_STEPS g c =
    let h = c.in-Some.ensures.lookup in
    sym (step_worn g.S.ObjectSpace.meaning g.M.Machine.code (world_of c.args.self.now) c.args.pick _ (read_at g.M.Machine.state c.args.self.now.threads.items c.deref.result.now c.args.pick.thread c.in-Some.thread.now c.deref.ensures.value h.0 h.1) (rw c.steps.ensures at c.if-steps-lt-MOST_STEPS.false))
