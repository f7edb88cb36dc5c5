use Rattle.std.proofs.Common.{slice_get, ap, ◌∙◌, subst}
use Rattle.event_core.specs.World.{WorldAt, world_of}
use Rattle.replay_laws.specs.Turns.{turn_of, world_after_turn}
use Rattle.replay_gate.proofs.LeftSteps.{leads_locally, other_thread}
use Rattle.replay_gate.specs.Going.{GoesOnBy}
use Rattle.replay_gate.proofs.KnownTurns.{known_behind, known_still, rests_takes}
use Rattle.replay_gate.proofs.running.turn_on.Goals as goal

pub returns-in-Some-clause-takes : goal.returns-in-Some-clause-takes
returns-in-Some-clause-takes g c =
    rests_takes g.S.ObjectSpace.meaning g.M.Machine.code (g.L.ReadLog.log c.args.replay.now.log) (world_of c.args.replay.now.world) c.args.thread c.args.breaks.now c.in-Some.taken c.in-Some.ensures.rests

pub returns-in-Ok-Local-clause-known : goal.returns-in-Ok-Local-clause-known
returns-in-Ok-Local-clause-known g c =
    let space = g.S.ObjectSpace.meaning in
    let code = g.M.Machine.code in
    let log = g.L.ReadLog.log c.args.replay.now.log in
    let w = world_of c.args.replay.now.world in
    let v = world_of c.go_on.new.replay.world in
    let t = c.args.thread in
    let goes = subst (λ r. GoesOnBy space code log c.args.breaks.now t w r v) c.in-Ok-Local.field-0-is c.in-Ok-Local.ensures.goes in
    let after = goes.1.world in
    let memory = ap (λ (x : WorldAt _ _ _). x.memory) (after ∙ ap (world_after_turn space code w t) goes.0 ∙ leads_locally space code g.met.M.Machine.laws log (g.met.L.ReadLog.limits c.args.replay.now.log) w t goes.0) in
    known_still space code log w v c.known_turn.new.all t c.known_turn.ensures.known (c.known_turn.ensures.none c.in-None.is)
    (λ i d. ap (λ (x : WorldAt _ _ _). slice_get x.threads i) after ∙ other_thread space code w t i d (turn_of space code log w t)) memory

pub returns-in-Ok-Event-clause-known : goal.returns-in-Ok-Event-clause-known
returns-in-Ok-Event-clause-known g c =
    let space = g.S.ObjectSpace.meaning in
    let code = g.M.Machine.code in
    let log = g.L.ReadLog.log c.args.replay.now.log in
    let w = world_of c.args.replay.now.world in
    let v = world_of c.go_on.new.replay.world in
    let t = c.args.thread in
    let goes = subst (λ r. GoesOnBy space code log c.args.breaks.now t w r v) c.in-Ok-Event.field-0-is c.in-Ok-Event.ensures.goes in
    known_behind space code log w v c.known_turn.new.all c.all_known_later.new.all t (turn_of space code log w t) c.known_turn.ensures.known (c.known_turn.ensures.none c.in-None.is) goes.world c.all_known_later.ensures
