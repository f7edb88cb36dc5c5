use Rattle.std.proofs.Common.{sym, subst}
use Rattle.std.specs.Prelude.{IfOk, OnOk}
use Rattle.event_core.specs.World.{WorldAt, world_of}
use Rattle.replay_session.specs.Legs.{steps_of_leg}
use Rattle.replay_session.specs.Reverse.{StepOfLeg, IsLastHit}
use Rattle.replay_session.specs.Ways.{LegLeads}
use Rattle.replay_session.proofs.reverse.test_leg.Goals as goal

pub test_thread-requires : goal.test_thread-requires
test_thread-requires g c =
    subst (λ l. ∥ ((v : WorldAt _ _ _) × LegLeads g.S.ObjectSpace.meaning g.M.Machine.code (g.L.ReadLog.log c.args.replay.now.log) l (world_of c.args.replay.now.world) v) ∥₁) c.in-Thread.is c.requires

pub test_rounds-requires : goal.test_rounds-requires
test_rounds-requires g c =
    subst (λ l. ∥ ((v : WorldAt _ _ _) × LegLeads g.S.ObjectSpace.meaning g.M.Machine.code (g.L.ReadLog.log c.args.replay.now.log) l (world_of c.args.replay.now.world) v) ∥₁) c.in-Rounds.is c.requires

pub returns-in-Thread-clause-leads : goal.returns-in-Thread-clause-leads
returns-in-Thread-clause-leads g c =
    let v = world_of c.test_thread.new.replay.world in
    subst (λ l. OnOk c.test_thread.result (LegLeads g.S.ObjectSpace.meaning g.M.Machine.code (g.L.ReadLog.log c.args.replay.now.log) l (world_of c.args.replay.now.world) v)) (sym c.in-Thread.is) c.test_thread.ensures.leads

pub returns-in-Rounds-clause-leads : goal.returns-in-Rounds-clause-leads
returns-in-Rounds-clause-leads g c =
    let v = world_of c.test_rounds.new.replay.world in
    subst (λ l. OnOk c.test_rounds.result (LegLeads g.S.ObjectSpace.meaning g.M.Machine.code (g.L.ReadLog.log c.args.replay.now.log) l (world_of c.args.replay.now.world) v)) (sym c.in-Rounds.is) c.test_rounds.ensures.leads

pub returns-in-Thread-clause-last : goal.returns-in-Thread-clause-last
returns-in-Thread-clause-last g c =
    let log = g.L.ReadLog.log c.args.replay.now.log in
    subst (λ l. IfOk c.test_thread.result (IsLastHit g.S.ObjectSpace.meaning g.M.Machine.code log c.args.breaks.now (g.T.Test.holds c.args.test.now) (StepOfLeg g.S.ObjectSpace.meaning g.M.Machine.code log l (world_of c.args.replay.now.world)) (steps_of_leg l)))
    (sym c.in-Thread.is) c.test_thread.ensures.last

pub returns-in-Rounds-clause-last : goal.returns-in-Rounds-clause-last
returns-in-Rounds-clause-last g c =
    let log = g.L.ReadLog.log c.args.replay.now.log in
    subst (λ l. IfOk c.test_rounds.result (IsLastHit g.S.ObjectSpace.meaning g.M.Machine.code log c.args.breaks.now (g.T.Test.holds c.args.test.now) (StepOfLeg g.S.ObjectSpace.meaning g.M.Machine.code log l (world_of c.args.replay.now.world)) (steps_of_leg l)))
    (sym c.in-Rounds.is) c.test_rounds.ensures.last
