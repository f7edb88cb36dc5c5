use Rattle.std.proofs.Common.{[], refl}
use Rattle.event_core.specs.World.{world_of}
use Rattle.replay_session.proofs.KeptWays.{stands_first, stands_same}
use Rattle.replay_session.proofs.kept.Kept.at_first.Goals as goal

pub invariant_of-result : goal.invariant_of-result
invariant_of-result g c =
    let replay = c.args.replay in
    record {
      stands = stands_same g.S.ObjectSpace.meaning g.M.Machine.code _ _ _ _ _ _ [] _ _ _ refl refl refl c.new.ensures.items c.with.ensures
          (stands_first g.S.ObjectSpace.meaning g.M.Machine.code g.met.M.Machine.laws (g.L.ReadLog.log replay.log) c.args.first (g.O.OpenWorld.opened replay.opens) (world_of replay.world) c.requires);
    }
