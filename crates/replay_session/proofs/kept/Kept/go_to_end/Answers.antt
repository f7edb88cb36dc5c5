use Rattle.std.proofs.Common.{refl, sym, subst}
use Rattle.std.specs.Prelude.{IfSome}
use Rattle.event_core.specs.World.{world_of}
use Rattle.replay_session.specs.Kept.{IsRest}
use Rattle.replay_session.proofs.KeptWays.{rest_leads, rest_led, leads_same}
use Rattle.replay_session.proofs.kept.Kept.go_to_end.Goals as goal

pub go_way-requires : goal.go_way-requires
go_way-requires g c =
    let space = g.S.ObjectSpace.meaning in
    let code = g.M.Machine.code in
    let kept = c.args.self in
    let log = g.L.ReadLog.log kept.replay.log in
    let is = subst (λ o. IfSome o (λ rest. IsRest kept.legs.items kept.part c.args.way.now rest.items)) c.in-Some.is c.in_ok-rest.ensures in
    leads_same space code log log (world_of kept.replay.world) (world_of kept.replay.world) c.in-Some.rest.items _ refl refl c.as_slice.ensures.value
    (rest_leads space code g.met.M.Machine.laws log kept.legs.items kept.part c.args.way.now c.in-Some.rest.items is (g.O.OpenWorld.opened kept.replay.opens) (world_of kept.replay.world) kept.stands c.requires)

pub returns-clause-leads : goal.returns-clause-leads
returns-clause-leads g c =
    let kept = c.args.self in
    let is = subst (λ o. IfSome o (λ rest. IsRest kept.legs.items kept.part c.args.way.now rest.items)) c.in-Some.is c.in_ok-rest.ensures in
    rest_led g.S.ObjectSpace.meaning g.M.Machine.code g.met.M.Machine.laws (g.L.ReadLog.log kept.replay.log) kept.legs.items kept.part c.args.way.now _ (subst (IsRest kept.legs.items kept.part c.args.way.now) (sym c.as_slice.ensures.value) is) (g.O.OpenWorld.opened kept.replay.opens) (world_of kept.replay.world) kept.stands (world_of c.go_way.new.replay.world) c.in_ok-go_way.ensures.leads
