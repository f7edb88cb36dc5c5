use Rattle.std.proofs.Common.{◌≡◌, subst, arith}
use Rattle.event_core.specs.World.{world_of}
use Rattle.replay_gate.specs.Clear.{IsClear}
use Rattle.replay_gate.proofs.LocalRounds.{fewer_clear}
use Rattle.replay_gate.proofs.FreeRounds.{free_still, stays_still}
use Rattle.replay_gate.proofs.KnownTurns.{known_same}
use Rattle.replay_gate.proofs.ahead.go_together.Goals as goal

pub returns-then-made-gt0-clause-clear : goal.returns-then-made-gt0-clause-clear
returns-then-made-gt0-clause-clear g c = λ j b is.
    let code = g.M.Machine.code in
    fewer_clear code (world_of c.args.replay.now.world) c.clear_of_all-clear.result c.local_rounds-made.result b c.local_rounds-made.ensures.few
    (subst (λ w. IsClear code (world_of w) c.clear_of_all-clear.result b) c.world.ensures.same (c.clear_of_all-clear.ensures.clear j b is))

pub returns-else-made-gt0-clause-clear : goal.returns-else-made-gt0-clause-clear
returns-else-made-gt0-clause-clear g c = λ j b is.
    let code = g.M.Machine.code in
    fewer_clear code (world_of c.args.replay.now.world) c.clear_of_all-clear.result c.local_rounds-made.result b c.local_rounds-made.ensures.few
    (subst (λ w. IsClear code (world_of w) c.clear_of_all-clear.result b) c.world.ensures.same (c.clear_of_all-clear.ensures.clear j b is))

pub returns-else-made-gt0-clause-free : goal.returns-else-made-gt0-clause-free
returns-else-made-gt0-clause-free g c =
    let none : c.local_rounds-made.result ≡ 0 = let h = c.if-made-gt0.false in omega (arith, h) in
    free_still g.S.ObjectSpace.meaning g.M.Machine.code (g.L.ReadLog.log c.args.replay.now.log) c.args.breaks.now c.args.turns.now.free c.local_rounds-made.result (world_of c.args.replay.now.world) (world_of c.local_rounds-made.new.self.world)
    none c.local_rounds-made.ensures.rounds c.requires.free

pub returns-else-made-gt0-clause-known : goal.returns-else-made-gt0-clause-known
returns-else-made-gt0-clause-known g c =
    let none : c.local_rounds-made.result ≡ 0 = let h = c.if-made-gt0.false in omega (arith, h) in
    let log = g.L.ReadLog.log c.args.replay.now.log in
    let w = world_of c.args.replay.now.world in
    let v = world_of c.local_rounds-made.new.self.world in
    known_same g.S.ObjectSpace.meaning g.M.Machine.code log w v c.args.turns.now.all (stays_still g.S.ObjectSpace.meaning g.M.Machine.code log c.local_rounds-made.result w v none c.local_rounds-made.ensures.rounds) c.requires.known
