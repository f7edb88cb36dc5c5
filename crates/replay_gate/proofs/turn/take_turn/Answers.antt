use Rattle.std.proofs.Common.{◌≡◌, inr, rules}
use Rattle.event_core.specs.World.{world_of}
use Rattle.replay_laws.specs.declared.turn.Turn.TheVariants.{Refused}
use Rattle.replay_laws.specs.Turns.{turn_of}
use Rattle.replay_gate.proofs.Refusing.{refused_so}
use Rattle.replay_gate.proofs.turn.take_turn.Goals as goal

pub returns-in-Refused-clause-err : goal.returns-in-Refused-clause-err
returns-in-Refused-clause-err g c =
    let is : turn_of g.S.ObjectSpace.meaning g.M.Machine.code (g.L.ReadLog.log c.args.log.now) (world_of c.args.world.now) c.args.thread ≡ Refused c.in-Refused.refusal = search rules in
    inr (refused_so g.S.ObjectSpace.meaning g.M.Machine.code (g.L.ReadLog.log c.args.log.now) (world_of c.args.world.now) c.args.thread c.in-Refused.refusal c.fault_at.result is c.fault_at.ensures)
