use Rattle.std.proofs.Common.{sym, subst}
use Rattle.rw_objects.specs.Code.{TakesReply}
use Rattle.workers.specs.Driving.{driven}
use Rattle.workers.proofs.Advancing.{sound_fits}
use Rattle.threaded_replay.specs.Following.{IsEnteredAt}
use Rattle.threaded_replay.proofs.Along.{asks_takes, asks_fits}
use Rattle.threaded_replay.proofs.gate.wait_to_enter.Goals as goal

pub enter_at-requires-clause-fits : goal.enter_at-requires-clause-fits
enter_at-requires-clause-fits g c =
    let a = driven g.M.Machine.state c.args.thread.now c.args.seat.now in
    asks_fits g.S.ObjectSpace.meaning g.J.Opening.named.memory.fixed (g.M.Machine.code.next a.thread.state) c.args.input c.args.op
    (sound_fits g.S.ObjectSpace.meaning g.M.Machine.code g.met.M.Machine.laws g.J.Opening.named.memory a.thread c.requires.sound) c.requires.asks

pub enter_at-requires-clause-takes : goal.enter_at-requires-clause-takes
enter_at-requires-clause-takes g c =
    let a = driven g.M.Machine.state c.args.thread.now c.args.seat.now in
    subst (λ x. TakesReply (g.M.Machine.code.next x.thread.state)) (sym c.loop.invariant.2) (asks_takes g.S.ObjectSpace.meaning (g.M.Machine.code.next a.thread.state) c.args.input c.args.op c.requires.asks)

pub returns-in-Ok-true-clause-entered : goal.returns-in-Ok-true-clause-entered
returns-in-Ok-true-clause-entered g c =
    λ made. subst (λ x. IsEnteredAt g.M.Machine.code c.args.op c.args.item.now x (driven g.M.Machine.state c.enter_at.new.thread c.enter_at.new.seat)) c.loop.invariant.2 (c.in-Ok-true.ensures.entered c.in-Ok-true.field-0-test)
