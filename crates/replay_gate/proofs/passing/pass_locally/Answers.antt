use Rattle.std.proofs.Common.{◌≡◌, cond, slice_index, sym, ap, ◌∙◌, arith}
use Rattle.event_core.specs.World.{world_of}
use Rattle.replay_laws.specs.declared.turn.Turn.TheVariants.{Local}
use Rattle.replay_laws.specs.Turns.{turn_of, world_after_turn}
use Rattle.replay_gate.proofs.LocalTurns.{local_is}
use Rattle.replay_gate.proofs.LeftSteps.{locally_left}
use Rattle.replay_gate.proofs.passing.pass_locally.Goals as goal

pub returns-in-Ok-true-clause-made : goal.returns-in-Ok-true-clause-made
returns-in-Ok-true-clause-made g c = λ _.
    local_is (turn_of g.S.ObjectSpace.meaning g.M.Machine.code (g.L.ReadLog.log c.args.log.now) (world_of c.args.world.now) c.args.thread) (sym c.in-Ok-true.ensures.made ∙ c.in-Ok-true.field-0-test)

pub returns-in-Ok-true-clause-left : goal.returns-in-Ok-true-clause-left
returns-in-Ok-true-clause-left g c =
    let space = g.S.ObjectSpace.meaning in
    let code = g.M.Machine.code in
    let log = g.L.ReadLog.log c.args.log.now in
    let w = world_of c.args.world.now in
    let t = c.args.thread in
    let local : turn_of space code log w t ≡ Local = local_is (turn_of space code log w t) (sym c.in-Ok-true.ensures.made ∙ c.in-Ok-true.field-0-test) in
    locally_left space code g.met.M.Machine.laws log (g.met.L.ReadLog.limits c.args.log.now) w t local (world_of c.take_local.new.world) (slice_index c.args.left.now t) c.args.left.now
    (c.in-Ok-true.ensures.world ∙ ap (λ b. cond b (world_after_turn space code w t Local) w) c.in-Ok-true.field-0-test) c.requires.left (c.requires.left t) (let e = c.told-left in let f = c.requires.few in omega (arith, e, f))
