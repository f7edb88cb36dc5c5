use Rattle.workers.specs.Driving.{driven}
use Rattle.workers.proofs.Advancing.{sound_fits}
use Rattle.threaded_replay.proofs.Along.{asks_takes, asks_fits}
use Rattle.threaded_replay.proofs.gate.pass.Goals as goal

pub enter_at-requires-clause-fits : goal.enter_at-requires-clause-fits
enter_at-requires-clause-fits g c =
    let a = driven g.M.Machine.state c.args.thread.now c.args.seat.now in
    asks_fits g.S.ObjectSpace.meaning g.J.Opening.named.memory.fixed (g.M.Machine.code.next a.thread.state) c.args.input c.args.op
    (sound_fits g.S.ObjectSpace.meaning g.M.Machine.code g.met.M.Machine.laws g.J.Opening.named.memory a.thread c.requires.sound) c.requires.asks

pub enter_at-requires-clause-takes : goal.enter_at-requires-clause-takes
enter_at-requires-clause-takes g c =
    let a = driven g.M.Machine.state c.args.thread.now c.args.seat.now in
    asks_takes g.S.ObjectSpace.meaning (g.M.Machine.code.next a.thread.state) c.args.input c.args.op c.requires.asks
