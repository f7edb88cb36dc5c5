use Rattle.std.proofs.Common.{Some, slice_get, sym, ap, ◌∙◌, arith}
use Rattle.std.proofs.lemmas.Option.{slice_get_within}
use Rattle.event_core.specs.World.{world_of}
use Rattle.replay_gate.specs.Needs.{turn_by_needs}
use Rattle.replay_gate.proofs.Going.{made_of}
use Rattle.replay_gate.proofs.Turning.{goes_by_next, goes_to_end}
use Rattle.replay_gate.proofs.Needing.{of_few, turn_of_needs}
use Rattle.replay_gate.proofs.needs.needs_of.Goals as goal

pub returns-in-Some-next-clause-turn : goal.returns-in-Some-next-clause-turn
returns-in-Some-next-clause-turn g c =
    let space = g.S.ObjectSpace.meaning in
    let code = g.M.Machine.code in
    let log = g.L.ReadLog.log c.args.log.now in
    let w = world_of c.args.world.now in
    ap (turn_by_needs space code log w c.args.thread) c.needs_by_next.ensures
    ∙ turn_of_needs space code log w c.args.thread c.in-Some-places.places c.in-Some-Known.end.places c.in-Some-next.next
    ∙ goes_by_next space code log w c.args.thread _ _ _ c.in-Some-Known.end c.in-Some.ensures c.in-Some-places.ensures c.in-Some-next.ensures
    (sym c.in-Some-Known.ensures ∙ ap Some c.in-Some-Known.field-0-is) c.if-steps-end.true

pub returns-in-Some-next-clause-few : goal.returns-in-Some-next-clause-few
returns-in-Some-next-clause-few g c =
    let w = world_of c.args.world.now in
    let th = made_of (λ t. g.M.Machine.code.steps t.state) (slice_get w.threads c.args.thread) c.in-Some.steps (sym c.in-Some.ensures) in
    let within = slice_get_within w.threads c.args.thread th.0 th.1 in
    let few = c.args.world.now.sound.few in
    of_few c.args.thread c.needs_by_next.result (omega (arith, within, few))

pub returns-in-Some-outcome-clause-turn : goal.returns-in-Some-outcome-clause-turn
returns-in-Some-outcome-clause-turn g c =
    c.turn_at_end.ensures
    ∙ goes_to_end g.S.ObjectSpace.meaning g.M.Machine.code (g.L.ReadLog.log c.args.log.now) (world_of c.args.world.now) c.args.thread c.in-Some.steps c.in-Some-places.places c.in-Some-outcome.outcome c.in-Some-Known.end c.in-Some.ensures c.in-Some-places.ensures
    c.in-Some-outcome.ensures (sym c.in-Some-Known.ensures ∙ ap Some c.in-Some-Known.field-0-is) c.if-steps-end.false
