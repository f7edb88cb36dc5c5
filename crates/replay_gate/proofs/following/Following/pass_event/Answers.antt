use Rattle.std.proofs.Common.{◌≡◌, Some, slice_get, sym, ap, ◌∙◌, arith}
use Rattle.std.proofs.lemmas.Option.{same_Some, slice_get_within}
use Rattle.event_core.specs.World.{world_of}
use Rattle.log_pieces.specs.declared.flat.Flat.TheVariants.{Known}
use Rattle.replay_gate.specs.Following.{LogPlace}
use Rattle.replay_gate.proofs.Going.{made_of, nowhere, event_leads}
use Rattle.replay_gate.proofs.following.Following.pass_event.Goals.{in-None, in-Some-event_of+in-Ok, in-Some-event_of+in-Err}
use Rattle.replay_gate.proofs.following.Following.pass_event.Goals as goal

pub returns-clause-passes : goal.returns-clause-passes
returns-clause-passes g c =
    let space = g.S.ObjectSpace.meaning in
    let code = g.M.Machine.code in
    let log = g.L.ReadLog.log c.args.self.now.log in
    let w = world_of c.args.world.now in
    let th = made_of (λ t. code.steps t.state) (slice_get w.threads c.args.thread) c.in-Some.steps (sym c.in-Some.ensures) in
    let tp = made_of (λ t. t.places) (slice_get w.threads c.args.thread) c.in-Some-places.place (sym c.in-Some-places.ensures) in
    let same = same_Some _ _ (sym th.1 ∙ tp.1) in
    let place : th.0.places ≡ c.in-Some-places.place = ap (λ t. t.places) same ∙ tp.2 in
    let seen = ap (λ (x : LogPlace _). (g.L.ReadLog.log x.log).entry c.args.thread c.in-Some-places.place) c.self.view_is in
    let logged : log.entry c.args.thread c.in-Some-places.place ≡ Some (Known c.in-Some-Known.item) = let read = c.read.ensures.holds in let held = c.in-Some-Known.ensures in let is = c.in-Some-Known.field-0-is in cc in
    elim c.match-event_of.branch [
      | in-None w ↦ rw w.world-is (rw w.result-is (nowhere space code log (world_of c.args.world.now)))
      | in-Some-event_of+in-Ok w ↦
          rw w.world-is (rw w.result-is (event_leads space code log (world_of c.args.world.now) _ _ th.0 c.args.end c.in-Some-Known.item _ th.1 c.requires
          (let l = c.if-steps-end.false in let e = th.2 in omega (arith, l, e))
          (let l = c.if-place-end.false in omega (arith, l, place))
          (ap (log.entry c.args.thread) place ∙ logged)
          w.in-Some-event_of.ensures w.in-Ok.ensures.ok))
      | in-Some-event_of+in-Err w ↦ rw w.world-is (rw w.result-is tt)
    ]

pub read-requires-clause-thread : goal.read-requires-clause-thread
read-requires-clause-thread g c =
    let w = world_of c.args.world.now in
    let th = made_of (λ t. g.M.Machine.code.steps t.state) (slice_get w.threads c.args.thread) c.in-Some.steps (sym c.in-Some.ensures) in
    let within = slice_get_within w.threads c.args.thread th.0 th.1 in
    let few = c.args.world.now.sound.few in
    omega (arith, within, few)
