use Rattle.std.proofs.Common.{subst}
use Rattle.event_core.specs.World.{WorldAt, world_of}
use Rattle.replay_session.specs.Ways.{LegLeads}
use Rattle.replay_session.proofs.GoingAgain.{never_dry}
use Rattle.replay_session.proofs.going.go_leg.Goals as goal

pub unreachable-requires-else-made : goal.unreachable-requires-else-made
unreachable-requires-else-made g c =
    let space = g.S.ObjectSpace.meaning in
    let code = g.M.Machine.code in
    let log = g.L.ReadLog.log c.args.replay.now.log in
    let w = world_of c.args.replay.now.world in
    never_dry space code g.met.M.Machine.laws log c.in-Rounds.steps w (world_of c.go_rounds.new.replay.world) (c.in_ok-made-in-Rounds.ensures.dry c.if-made.false)
    (subst (λ l. ∥ ((v : WorldAt _ _ _) × LegLeads space code log l w v) ∥₁) c.in-Rounds.is c.requires)
