use Rattle.std.proofs.Common.{refl, true, arith}
use Rattle.workers.specs.Driving.{driven}
use Rattle.workers.proofs.Advancing.{advances_on, advances_nowhere}
use Rattle.threaded_replay.proofs.following.follow_to.Goals as goal

pub loop-init : goal.loop-init
loop-init g c = (
  tt,
  tt,
  c.requires.number,
  c.reader-reader.ensures,
  c.reader-ahead.ensures,
  c.requires.following,
  c.requires.sound,
  advances_nowhere g.S.ObjectSpace.meaning g.M.Machine.code (λ t s. true) _ (driven g.M.Machine.state c.args.thread.now c.args.seat.now) refl,
)

pub loop-preserved : goal.loop-preserved
loop-preserved g c = (
  tt,
  tt,
  omega (arith, c.follow.ensures.number, c.loop.invariant.2),
  c.follow.ensures.reads,
  c.follow.ensures.reads_ahead,
  c.follow.ensures.following,
  c.follow.ensures.sound,
  advances_on g.S.ObjectSpace.meaning g.M.Machine.code (λ t s. true) (driven g.M.Machine.state c.args.thread.now c.args.seat.now) (driven g.M.Machine.state c.loop.thread c.loop.seat) _ c.loop.invariant.7 c.follow.ensures.advances,
)

pub returns-in-Ok-false-clause-advances : goal.returns-in-Ok-false-clause-advances
returns-in-Ok-false-clause-advances g c =
    advances_on g.S.ObjectSpace.meaning g.M.Machine.code (λ t s. true) (driven g.M.Machine.state c.args.thread.now c.args.seat.now) (driven g.M.Machine.state c.loop.thread c.loop.seat) _ c.loop.invariant.7 c.follow.ensures.advances

pub returns-in-Err-clause-advances : goal.returns-in-Err-clause-advances
returns-in-Err-clause-advances g c =
    advances_on g.S.ObjectSpace.meaning g.M.Machine.code (λ t s. true) (driven g.M.Machine.state c.args.thread.now c.args.seat.now) (driven g.M.Machine.state c.loop.thread c.loop.seat) _ c.loop.invariant.7 c.follow.ensures.advances
