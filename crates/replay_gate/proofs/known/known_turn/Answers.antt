use Rattle.std.proofs.Common.{◌<◌, length, Some, ap, ◌∙◌, arith}
use Rattle.std.proofs.lemmas.Option.{slice_get-get_or}
use Rattle.event_core.specs.World.{world_of}
use Rattle.replay_gate.specs.declared.known.Known.TheVariants as known
use Rattle.replay_gate.proofs.KnownTurns.{set_same, known_set, rests_again}
use Rattle.replay_gate.proofs.known.known_turn.Goals as goal

pub returns-in-Rests-clause-rests : goal.returns-in-Rests-clause-rests
returns-in-Rests-clause-rests g c =
    let within : c.args.thread < length c.args.all.now = let e = c.told-all in let l = c.requires.few in omega (arith, e, l) in
    c.requires.known c.args.thread (known.Rests c.in-Rests.taken) (slice_get-get_or c.args.all.now c.args.thread known.Nothing within ∙ ap Some c.in-Rests.is)

pub returns-then-rests_still-clause-known : goal.returns-then-rests_still-clause-known
returns-then-rests_still-clause-known g c =
    let space = g.S.ObjectSpace.meaning in
    let code = g.M.Machine.code in
    let log = g.L.ReadLog.log c.args.replay.now.log in
    let w = world_of c.args.replay.now.world in
    let t = c.args.thread in
    let within : t < length c.args.all.now = let e = c.told-all in let l = c.requires.few in omega (arith, e, l) in
    let r = c.requires.known t (known.Rested c.in-Rested.taken) (slice_get-get_or c.args.all.now t known.Nothing within ∙ ap Some c.in-Rested.is) in
    known_set space code log w c.args.all.now t (known.Rests c.in-Rested.taken) c.requires.known
    (rests_again space code log w t c.in-Rested.taken r (c.rests_still.ensures.rests c.if-rests_still.true r.world r.same r.rests.0)) within

pub returns-then-rests_still-clause-rests : goal.returns-then-rests_still-clause-rests
returns-then-rests_still-clause-rests g c =
    let space = g.S.ObjectSpace.meaning in
    let code = g.M.Machine.code in
    let log = g.L.ReadLog.log c.args.replay.now.log in
    let w = world_of c.args.replay.now.world in
    let t = c.args.thread in
    let within : t < length c.args.all.now = let e = c.told-all in let l = c.requires.few in omega (arith, e, l) in
    let r = c.requires.known t (known.Rested c.in-Rested.taken) (slice_get-get_or c.args.all.now t known.Nothing within ∙ ap Some c.in-Rested.is) in
    rests_again space code log w t c.in-Rested.taken r (c.rests_still.ensures.rests c.if-rests_still.true r.world r.same r.rests.0)

pub returns-else-rests_still-clause-known : goal.returns-else-rests_still-clause-known
returns-else-rests_still-clause-known g c =
    known_set g.S.ObjectSpace.meaning g.M.Machine.code (g.L.ReadLog.log c.args.replay.now.log) (world_of c.args.replay.now.world) c.args.all.now c.args.thread known.Nothing c.requires.known tt
    (let e = c.told-all in let l = c.requires.few in omega (arith, e, l))

pub returns-else-rests_still-clause-none : goal.returns-else-rests_still-clause-none
returns-else-rests_still-clause-none g c = λ none. set_same c.args.all.now c.args.thread known.Nothing (let e = c.told-all in let l = c.requires.few in omega (arith, e, l))
