use Rattle.std.proofs.Common.{◌≡◌, ◌<◌, ap, sym, refl, arith}
use Rattle.event_core.specs.declared.pick.Input.TheVariants.{Go}
use Rattle.replay_laws.specs.History.{op_at}
use Rattle.workers.specs.Driving.{driven, went_on}
use Rattle.workers.proofs.Advancing.{sound_within, steps_within, advances_if, advances_within, advances_nowhere}
use Rattle.workers.proofs.recording_thread.go_on.Goals as goal

pub returns-in-Ok-enter-clause-advances : goal.returns-in-Ok-enter-clause-advances
returns-in-Ok-enter-clause-advances g c =
    let code = g.M.Machine.code in
    let a = driven g.M.Machine.state c.args.thread.now c.args.seat.now in
    let b = driven g.M.Machine.state c.enter.new.thread c.enter.new.seat in
    advances_if g.S.ObjectSpace.meaning code (λ t s. g.T.Timer.can_expire t (g.M.Machine.nanos_of s)) a b Go c.in-Ask.op (went_on c.enter.result)
    (ap (λ n. op_at n Go) (sym c.in-Ask.ensures)) (omega (arith, c.requires.some, c.requires.limit)) tt c.enter.ensures.entered c.enter.ensures.kept

pub returns-in-Ok-clause-few : goal.returns-in-Ok-clause-few
returns-in-Ok-clause-few g c = steps_within g.S.ObjectSpace.meaning g.M.Machine.code g.met.M.Machine.laws c.args.left _ _ c.go_locally.ensures

pub returns-in-Ok-clause-sound : goal.returns-in-Ok-clause-sound
returns-in-Ok-clause-sound g c =
    sound_within g.S.ObjectSpace.meaning g.M.Machine.code g.met.M.Machine.laws g.J.Opening.named.memory c.args.left (driven g.M.Machine.state c.args.thread.now c.args.seat.now).thread _ c.go_locally.ensures refl c.requires.sound

pub returns-in-Ok-clause-advances : goal.returns-in-Ok-clause-advances
returns-in-Ok-clause-advances g c =
    advances_within g.S.ObjectSpace.meaning g.M.Machine.code _ (driven g.M.Machine.state c.args.thread.now c.args.seat.now) _ c.args.left c.go_locally.ensures refl refl

pub returns-in-Err-clause-few : goal.returns-in-Err-clause-few
returns-in-Err-clause-few g c = steps_within g.S.ObjectSpace.meaning g.M.Machine.code g.met.M.Machine.laws c.args.left _ _ c.go_locally.ensures

pub returns-in-Err-clause-sound : goal.returns-in-Err-clause-sound
returns-in-Err-clause-sound g c =
    sound_within g.S.ObjectSpace.meaning g.M.Machine.code g.met.M.Machine.laws g.J.Opening.named.memory c.args.left (driven g.M.Machine.state c.args.thread.now c.args.seat.now).thread _ c.go_locally.ensures refl c.requires.sound

pub returns-in-Err-clause-advances : goal.returns-in-Err-clause-advances
returns-in-Err-clause-advances g c =
    advances_within g.S.ObjectSpace.meaning g.M.Machine.code _ (driven g.M.Machine.state c.args.thread.now c.args.seat.now) _ c.args.left c.go_locally.ensures refl refl

pub returns-in-Err-enter-clause-advances : goal.returns-in-Err-enter-clause-advances
returns-in-Err-enter-clause-advances g c =
    let code = g.M.Machine.code in
    let a = driven g.M.Machine.state c.args.thread.now c.args.seat.now in
    let b = driven g.M.Machine.state c.enter.new.thread c.enter.new.seat in
    advances_if g.S.ObjectSpace.meaning code (λ t s. g.T.Timer.can_expire t (g.M.Machine.nanos_of s)) a b Go c.in-Ask.op (went_on c.enter.result)
    (ap (λ n. op_at n Go) (sym c.in-Ask.ensures)) (omega (arith, c.requires.some, c.requires.limit)) tt c.enter.ensures.entered c.enter.ensures.kept

pub returns-in-Halted-clause-advances : goal.returns-in-Halted-clause-advances
returns-in-Halted-clause-advances g c = advances_nowhere g.S.ObjectSpace.meaning g.M.Machine.code _ _ (driven g.M.Machine.state c.args.thread.now c.args.seat.now) refl
