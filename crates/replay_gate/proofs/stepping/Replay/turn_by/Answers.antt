use Rattle.std.proofs.Common.{subst, sym}
use Rattle.event_core.specs.World.{world_of}
use Rattle.replay_gate.specs.Leads.{Leads}
use Rattle.replay_gate.proofs.Orders.{if_err}
use Rattle.replay_gate.proofs.Refusing.{either_way, right_merely, free_merely, turn_merely}
use Rattle.replay_gate.proofs.stepping.Replay.turn_by.Goals as goal

pub invariant_of-self : goal.invariant_of-self
invariant_of-self g c =
    let space = g.S.ObjectSpace.meaning in
    let code = g.M.Machine.code in
    let log = g.L.ReadLog.log c.args.self.now.log in
    let opened = g.O.OpenWorld.opened c.args.self.now.opens in
    let w = world_of c.args.self.now.world in
    let v = world_of c.take_turn.new.world in
    record {
      opening = c.args.self.now.opening;
      leads = either_way c.take_turn.result c.take_turn.ensures.world c.take_turn.ensures.unchanged
          (λ after. turn_merely space code g.met.S.ObjectSpace.laws g.met.M.Machine.laws log (g.met.L.ReadLog.limits c.args.self.now.log) opened w v c.args.thread c.args.self.now.leads after)
          (λ same. subst (λ x. ∥ Leads space code log opened x ∥₁) (sym same) c.args.self.now.leads);
    }

pub returns-clause-right : goal.returns-clause-right
returns-clause-right g c =
    if_err _ _ c.take_turn.result
    (λ f. right_merely g.S.ObjectSpace.meaning g.M.Machine.code g.met.S.ObjectSpace.laws g.met.M.Machine.laws (g.L.ReadLog.log c.args.self.now.log) (g.O.OpenWorld.opened c.args.self.now.opens) (world_of c.args.self.now.world) c.args.thread f c.args.self.now.opening c.args.self.now.leads)
    c.take_turn.ensures.err

pub returns-clause-free : goal.returns-clause-free
returns-clause-free g c =
    if_err _ _ c.take_turn.result
    (λ f. free_merely g.S.ObjectSpace.meaning g.M.Machine.code g.met.S.ObjectSpace.laws g.met.M.Machine.laws (g.L.ReadLog.log c.args.self.now.log) (g.O.OpenWorld.opened c.args.self.now.opens) (world_of c.args.self.now.world) c.args.thread f c.args.self.now.opening c.args.self.now.leads)
    c.take_turn.ensures.err
