use Rattle.std.proofs.Common.{refl, subst, arith}
use Rattle.event_core.specs.World.{world_of}
use Rattle.replay_laws.specs.Turns.{turn_of}
use Rattle.replay_gate.specs.Free.{IsFree}
use Rattle.replay_gate.specs.Stops.{TurnTakes}
use Rattle.replay_gate.specs.declared.known.Known.TheVariants as known
use Rattle.replay_gate.specs.declared.running.Taken.TheVariants as taken
use Rattle.replay_gate.proofs.FreeSteps.{turned_free}
use Rattle.replay_gate.proofs.KnownTurns.{known_behind, known_set, known_same, taken_known}
use Rattle.replay_gate.proofs.running.turn_slowly.Goals as goal

pub returns-in-Ok-Step-clause-free : goal.returns-in-Ok-Step-clause-free
returns-in-Ok-Step-clause-free g c =
    let space = g.S.ObjectSpace.meaning in
    let code = g.M.Machine.code in
    let log = g.L.ReadLog.log c.args.replay.now.log in
    let v = world_of c.take_turn.new.replay.world in
    let t = c.args.thread in
    let breaks = c.args.breaks.now in
    turned_free space code log breaks (world_of c.args.replay.now.world) v t c.free_steps.result c.args.turns.now.free c.requires.free
    (subst (λ y. IsFree code (g.L.ReadLog.log y) v breaks t c.free_steps.result) c.take_turn.ensures.log c.free_steps.ensures) c.in-Ok-Step.ensures.takes.world
    (let e = c.told-turns in let a = c.told-turns2 in let f = c.requires.few in omega (arith, e, a, f))

pub returns-in-Ok-Step-clause-known : goal.returns-in-Ok-Step-clause-known
returns-in-Ok-Step-clause-known g c =
    let space = g.S.ObjectSpace.meaning in
    let code = g.M.Machine.code in
    let log = g.L.ReadLog.log c.args.replay.now.log in
    let w = world_of c.args.replay.now.world in
    known_behind space code log w (world_of c.take_turn.new.replay.world) c.args.turns.now.all c.all_known_later.new.all c.args.thread (turn_of space code log w c.args.thread) c.requires.known c.requires.nothing c.in-Ok-Step.ensures.takes.world
    c.all_known_later.ensures

pub returns-in-Ok-Done-clause-known : goal.returns-in-Ok-Done-clause-known
returns-in-Ok-Done-clause-known g c =
    let space = g.S.ObjectSpace.meaning in
    let code = g.M.Machine.code in
    let log = g.L.ReadLog.log c.args.replay.now.log in
    let w = world_of c.args.replay.now.world in
    let v = world_of c.take_turn.new.replay.world in
    let t = c.args.thread in
    let takes = subst (TurnTakes space code log w t c.args.breaks.now v) c.in-Ok-Done.field-0-is c.in-Ok-Done.ensures.takes in
    let k = taken_known space code log w v t c.args.breaks.now taken.Done takes refl in
    known_set space code log v c.args.turns.now.all t (known.Rests taken.Done) (known_same space code log w v c.args.turns.now.all k.0 c.requires.known) k.1 (let e = c.told-turns in let a = c.told-turns2 in let f = c.requires.few in omega (arith, e, a, f))

pub returns-in-Ok-Held-clause-known : goal.returns-in-Ok-Held-clause-known
returns-in-Ok-Held-clause-known g c =
    let space = g.S.ObjectSpace.meaning in
    let code = g.M.Machine.code in
    let log = g.L.ReadLog.log c.args.replay.now.log in
    let w = world_of c.args.replay.now.world in
    let v = world_of c.take_turn.new.replay.world in
    let t = c.args.thread in
    let takes = subst (TurnTakes space code log w t c.args.breaks.now v) c.in-Ok-Held.field-0-is c.in-Ok-Held.ensures.takes in
    let k = taken_known space code log w v t c.args.breaks.now taken.Held takes refl in
    known_set space code log v c.args.turns.now.all t (known.Rests taken.Held) (known_same space code log w v c.args.turns.now.all k.0 c.requires.known) k.1 (let e = c.told-turns in let a = c.told-turns2 in let f = c.requires.few in omega (arith, e, a, f))
