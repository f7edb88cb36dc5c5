use Rattle.std.proofs.Common.{refl, sym, ap, subst}
use Rattle.std.specs.Prelude.{IfSome}
use Rattle.event_core.specs.World.{world_of}
use Rattle.replay_session.specs.Kept.{IsRest}
use Rattle.replay_session.specs.Legs.{leg_with}
use Rattle.replay_session.proofs.KeptWays.{rest_leads, rest_led, leads_same, stands_next, stands_same}
use Rattle.replay_session.proofs.kept.Kept.enter.Goals as goal

pub go_way-requires : goal.go_way-requires
go_way-requires g c =
    let space = g.S.ObjectSpace.meaning in
    let code = g.M.Machine.code in
    let kept = c.args.self in
    let log = g.L.ReadLog.log kept.replay.log in
    let is = subst (λ o. IfSome o (λ rest. IsRest kept.legs.items kept.part c.args.way.now rest.items)) c.in-Some.is c.in_ok-rest.ensures in
    leads_same space code log log (world_of kept.replay.world) (world_of kept.replay.world) c.in-Some.rest.items _ refl refl c.as_slice.ensures.value
    (rest_leads space code g.met.M.Machine.laws log kept.legs.items kept.part c.args.way.now c.in-Some.rest.items is (g.O.OpenWorld.opened kept.replay.opens) (world_of kept.replay.world) kept.stands c.requires)

pub invariant_of-result : goal.invariant_of-result
invariant_of-result g c =
    let space = g.S.ObjectSpace.meaning in
    let code = g.M.Machine.code in
    let rules = g.met.M.Machine.laws in
    let kept = c.args.self in
    let gone = c.in_ok-go_way.ensures in
    let log = g.L.ReadLog.log kept.replay.log in
    let opened = g.O.OpenWorld.opened kept.replay.opens in
    let u = world_of kept.replay.world in
    let v = world_of c.go_way.new.replay.world in
    let is = subst (λ o. IfSome o (λ rest. IsRest kept.legs.items kept.part c.args.way.now rest.items)) c.in-Some.is c.in_ok-rest.ensures in
    let led = rest_led space code rules log kept.legs.items kept.part c.args.way.now _ (subst (IsRest kept.legs.items kept.part c.args.way.now) (sym c.as_slice.ensures.value) is) opened u kept.stands v gone.leads in
    record {
      stands = stands_same space code _ _ _ _ _ _ c.args.way.now _ (leg_with c.args.next 0) _ (ap g.L.ReadLog.log gone.log) (ap g.O.OpenWorld.opened gone.opens) refl (c.in_ok-legs.ensures.items_if_clones_equal (λ x y same. same)) c.with.ensures
          (stands_next space code rules log c.args.way.now c.args.next opened v led);
    }
