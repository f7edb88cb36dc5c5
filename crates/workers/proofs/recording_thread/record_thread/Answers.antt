use Rattle.std.proofs.Common.{refl, arith}
use Rattle.workers.specs.Driving.{driven}
use Rattle.workers.proofs.Advancing.{advances_on, advances_nowhere}
use Rattle.workers.proofs.recording_thread.record_thread.Goals as goal

pub loop-init : goal.loop-init
loop-init g c = (
  tt,
  tt,
  c.requires.sound,
  c.requires.below,
  advances_nowhere g.S.ObjectSpace.meaning g.M.Machine.code (λ t s. g.T.Timer.can_expire t (g.M.Machine.nanos_of s)) _ (driven g.M.Machine.state c.args.thread.now c.args.seat.now) refl,
)

pub loop-preserved : goal.loop-preserved
loop-preserved g c = (
  tt,
  tt,
  c.go_on.ensures.sound,
  omega (arith, c.go_on.ensures.few, c.loop.invariant.3, c.steps-made.ensures),
  advances_on g.S.ObjectSpace.meaning g.M.Machine.code (λ t s. g.T.Timer.can_expire t (g.M.Machine.nanos_of s)) (driven g.M.Machine.state c.args.thread.now c.args.seat.now) (driven g.M.Machine.state c.loop.thread c.loop.seat) _
      c.loop.invariant.4 c.go_on.ensures.advances,
)

pub returns-in-Ok-false-clause-advances : goal.returns-in-Ok-false-clause-advances
returns-in-Ok-false-clause-advances g c =
    advances_on g.S.ObjectSpace.meaning g.M.Machine.code (λ t s. g.T.Timer.can_expire t (g.M.Machine.nanos_of s)) (driven g.M.Machine.state c.args.thread.now c.args.seat.now) (driven g.M.Machine.state c.loop.thread c.loop.seat) _
    c.loop.invariant.4 c.go_on.ensures.advances

pub returns-in-Err-clause-advances : goal.returns-in-Err-clause-advances
returns-in-Err-clause-advances g c =
    advances_on g.S.ObjectSpace.meaning g.M.Machine.code (λ t s. g.T.Timer.can_expire t (g.M.Machine.nanos_of s)) (driven g.M.Machine.state c.args.thread.now c.args.seat.now) (driven g.M.Machine.state c.loop.thread c.loop.seat) _
    c.loop.invariant.4 c.go_on.ensures.advances
