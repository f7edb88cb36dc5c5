use Rattle.std.proofs.Common.{◌-◌, true, refl, arith}
use Rattle.workers.specs.Driving.{driven}
use Rattle.workers.proofs.Advancing.{sound_within, steps_within, advances_within}
use Rattle.threaded_replay.proofs.Along.{following_locally}
use Rattle.threaded_replay.proofs.following.follow.Goals as goal

pub returns-in-Ok-clause-sound : goal.returns-in-Ok-clause-sound
returns-in-Ok-clause-sound g c =
    sound_within g.S.ObjectSpace.meaning g.M.Machine.code g.met.M.Machine.laws g.J.Opening.named.memory (c.args.end.steps - c.steps.result) (driven g.M.Machine.state c.args.thread.now c.args.seat.now).thread _ (c.in-Ok.field-0, c.in-Ok.ensures.goes, c.in-Ok.ensures.few) refl c.requires.sound

pub returns-in-Err-clause-sound : goal.returns-in-Err-clause-sound
returns-in-Err-clause-sound g c =
    sound_within g.S.ObjectSpace.meaning g.M.Machine.code g.met.M.Machine.laws g.J.Opening.named.memory (c.args.end.steps - c.steps.result) (driven g.M.Machine.state c.args.thread.now c.args.seat.now).thread _ c.in-Err.ensures.err refl c.requires.sound

pub returns-in-Ok-clause-advances : goal.returns-in-Ok-clause-advances
returns-in-Ok-clause-advances g c =
    advances_within g.S.ObjectSpace.meaning g.M.Machine.code (λ t s. true) (driven g.M.Machine.state c.args.thread.now c.args.seat.now) (driven g.M.Machine.state (record { machine = c.local_run.new.self; places = c.args.thread.now.places }) c.args.seat.now)
    (c.args.end.steps - c.steps.result) (c.in-Ok.field-0, c.in-Ok.ensures.goes, c.in-Ok.ensures.few) refl refl

pub returns-in-Err-clause-advances : goal.returns-in-Err-clause-advances
returns-in-Err-clause-advances g c =
    advances_within g.S.ObjectSpace.meaning g.M.Machine.code (λ t s. true) (driven g.M.Machine.state c.args.thread.now c.args.seat.now) (driven g.M.Machine.state (record { machine = c.local_run.new.self; places = c.args.thread.now.places }) c.args.seat.now)
    (c.args.end.steps - c.steps.result) c.in-Err.ensures.err refl refl

pub returns-in-Ok-clause-following : goal.returns-in-Ok-clause-following
returns-in-Ok-clause-following g c =
    let code = g.M.Machine.code in
    let few = steps_within g.S.ObjectSpace.meaning code g.met.M.Machine.laws (c.args.end.steps - c.steps.result) (g.M.Machine.state c.args.thread.now.machine) (g.M.Machine.state c.local_run.new.self) (c.in-Ok.field-0, c.in-Ok.ensures.goes, c.in-Ok.ensures.few) in
    let made = c.steps.ensures in
    let below = c.requires.below in
    following_locally code (g.L.ReadLog.log c.args.log.now) c.args.end (driven g.M.Machine.state c.args.thread.now c.args.seat.now) (driven g.M.Machine.state (record { machine = c.local_run.new.self; places = c.args.thread.now.places }) c.args.seat.now)
    refl refl (omega (arith, few, made, below)) c.requires.following

pub returns-in-Err-clause-following : goal.returns-in-Err-clause-following
returns-in-Err-clause-following g c =
    let code = g.M.Machine.code in
    let few = steps_within g.S.ObjectSpace.meaning code g.met.M.Machine.laws (c.args.end.steps - c.steps.result) (g.M.Machine.state c.args.thread.now.machine) (g.M.Machine.state c.local_run.new.self) c.in-Err.ensures.err in
    let made = c.steps.ensures in
    let below = c.requires.below in
    following_locally code (g.L.ReadLog.log c.args.log.now) c.args.end (driven g.M.Machine.state c.args.thread.now c.args.seat.now) (driven g.M.Machine.state (record { machine = c.local_run.new.self; places = c.args.thread.now.places }) c.args.seat.now)
    refl refl (omega (arith, few, made, below)) c.requires.following
