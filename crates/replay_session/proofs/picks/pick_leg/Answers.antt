use Rattle.std.proofs.Common.{◌+◌, ◌≤◌, length, sym, subst}
use Rattle.std.specs.Prelude.{OnOk}
use Rattle.event_core.specs.World.{WorldAt, world_of}
use Rattle.replay_session.specs.Legs.{steps_of_leg}
use Rattle.replay_session.specs.Picks.{ArePut}
use Rattle.replay_session.specs.Ways.{LegLeads}
use Rattle.replay_session.proofs.picks.pick_leg.Goals as goal

pub pick_thread-requires-clause-leads : goal.pick_thread-requires-clause-leads
pick_thread-requires-clause-leads g c =
    subst (λ l. ∥ ((v : WorldAt _ _ _) × LegLeads g.S.ObjectSpace.meaning g.M.Machine.code (g.L.ReadLog.log c.args.replay.now.log) l (world_of c.args.replay.now.world) v) ∥₁) c.in-Thread.is c.requires.leads

pub pick_thread-requires-clause-room : goal.pick_thread-requires-clause-room
pick_thread-requires-clause-room g c = subst (λ l. length c.args.picks.now + steps_of_leg l ≤ 1000000) c.in-Thread.is c.requires.room

pub pick_rounds-requires-clause-leads : goal.pick_rounds-requires-clause-leads
pick_rounds-requires-clause-leads g c =
    subst (λ l. ∥ ((v : WorldAt _ _ _) × LegLeads g.S.ObjectSpace.meaning g.M.Machine.code (g.L.ReadLog.log c.args.replay.now.log) l (world_of c.args.replay.now.world) v) ∥₁) c.in-Rounds.is c.requires.leads

pub pick_rounds-requires-clause-room : goal.pick_rounds-requires-clause-room
pick_rounds-requires-clause-room g c = subst (λ l. length c.args.picks.now + steps_of_leg l ≤ 1000000) c.in-Rounds.is c.requires.room

pub returns-in-Thread-clause-leads : goal.returns-in-Thread-clause-leads
returns-in-Thread-clause-leads g c =
    let v = world_of c.pick_thread.new.replay.world in
    subst (λ l. OnOk c.pick_thread.result (LegLeads g.S.ObjectSpace.meaning g.M.Machine.code (g.L.ReadLog.log c.args.replay.now.log) l (world_of c.args.replay.now.world) v)) (sym c.in-Thread.is) c.pick_thread.ensures.leads

pub returns-in-Rounds-clause-leads : goal.returns-in-Rounds-clause-leads
returns-in-Rounds-clause-leads g c =
    let v = world_of c.pick_rounds.new.replay.world in
    subst (λ l. OnOk c.pick_rounds.result (LegLeads g.S.ObjectSpace.meaning g.M.Machine.code (g.L.ReadLog.log c.args.replay.now.log) l (world_of c.args.replay.now.world) v)) (sym c.in-Rounds.is) c.pick_rounds.ensures.leads

pub returns-in-Thread-clause-put : goal.returns-in-Thread-clause-put
returns-in-Thread-clause-put g c =
    subst (λ l. OnOk c.pick_thread.result (ArePut g.S.ObjectSpace.meaning g.M.Machine.code (g.L.ReadLog.log c.args.replay.now.log) (steps_of_leg l) c.args.picks.now c.pick_thread.new.picks (world_of c.args.replay.now.world) (world_of c.pick_thread.new.replay.world))) (sym c.in-Thread.is) c.pick_thread.ensures.put

pub returns-in-Rounds-clause-put : goal.returns-in-Rounds-clause-put
returns-in-Rounds-clause-put g c =
    subst (λ l. OnOk c.pick_rounds.result (ArePut g.S.ObjectSpace.meaning g.M.Machine.code (g.L.ReadLog.log c.args.replay.now.log) (steps_of_leg l) c.args.picks.now c.pick_rounds.new.picks (world_of c.args.replay.now.world) (world_of c.pick_rounds.new.replay.world))) (sym c.in-Rounds.is) c.pick_rounds.ensures.put
