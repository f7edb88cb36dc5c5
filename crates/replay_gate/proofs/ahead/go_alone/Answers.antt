use Rattle.std.proofs.Common.{slice_index_or, subst, arith}
use Rattle.event_core.specs.World.{world_of}
use Rattle.replay_gate.specs.Clear.{AreClear}
use Rattle.replay_gate.proofs.GoingAlone.{alone_ahead, alone_free}
use Rattle.replay_gate.proofs.KnownTurns.{known_still}
use Rattle.replay_gate.proofs.ahead.go_alone.Goals as goal

pub returns-then-left-gt0-clause-ahead : goal.returns-then-left-gt0-clause-ahead
returns-then-left-gt0-clause-ahead g c =
    let code = g.M.Machine.code in
    let w = world_of c.args.replay.now.world in
    let few = c.local_steps-made.ensures.few in
    let all_few = c.clear_of_all-clear.ensures.few in
    alone_ahead g.S.ObjectSpace.meaning code g.met.M.Machine.laws (g.L.ReadLog.log c.args.replay.now.log) w (world_of c.local_steps-made.new.self.world) c.args.breaks.now c.args.thread (slice_index_or c.args.free.now c.args.thread 0) c.local_steps-made.result
    c.local_steps-made.ensures.goes c.if-left-gt0.true (omega (arith, few, all_few)) (c.requires.free c.args.thread) c.args.all.now c.requires.lone c.requires.known c.clear_of_all-clear.result few
    (subst (λ x. AreClear code (world_of x) c.clear_of_all-clear.result c.args.breaks.now) c.world.ensures.same c.clear_of_all-clear.ensures.clear)

pub returns-then-left-gt0-clause-free : goal.returns-then-left-gt0-clause-free
returns-then-left-gt0-clause-free g c =
    let w = world_of c.args.replay.now.world in
    let few = c.local_steps-made.ensures.few in
    let all_few = c.clear_of_all-clear.ensures.few in
    let lone = c.requires.lone in
    alone_free g.S.ObjectSpace.meaning g.M.Machine.code g.met.M.Machine.laws (g.L.ReadLog.log c.args.replay.now.log) w (world_of c.local_steps-made.new.self.world) c.args.breaks.now c.args.thread (slice_index_or c.args.free.now c.args.thread 0) c.local_steps-made.result
    c.local_steps-made.ensures.goes c.if-left-gt0.true (omega (arith, few, all_few)) (c.requires.free c.args.thread) c.args.free.now c.requires.free
    (let l = Rattle.std.proofs.lemmas.Option.slice_get_within c.args.all.now c.args.thread _ lone.nothing in let e = c.told-free in let f = c.told-all in omega (arith, l, e, f))

pub returns-then-left-gt0-clause-known : goal.returns-then-left-gt0-clause-known
returns-then-left-gt0-clause-known g c =
    known_still g.S.ObjectSpace.meaning g.M.Machine.code (g.L.ReadLog.log c.args.replay.now.log) (world_of c.args.replay.now.world) (world_of c.local_steps-made.new.self.world) c.args.all.now c.args.thread c.requires.known c.requires.lone.nothing
    c.local_steps-made.ensures.goes.others c.local_steps-made.ensures.goes.memory
