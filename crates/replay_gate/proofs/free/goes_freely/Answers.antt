use Rattle.std.proofs.Common.{◌<◌, slice_index, subst, arith}
use Rattle.event_core.specs.World.{world_of}
use Rattle.replay_gate.specs.Ready.{IsReady}
use Rattle.replay_gate.proofs.FreeEvents.{event_free}
use Rattle.replay_gate.proofs.FreeSteps.{none_hits, freely_free}
use Rattle.replay_gate.proofs.free.goes_freely.Goals as goal

pub returns-in-Ok-Local-clause-goes : goal.returns-in-Ok-Local-clause-goes
returns-in-Ok-Local-clause-goes g c =
    let space = g.S.ObjectSpace.meaning in
    let code = g.M.Machine.code in
    let log = g.L.ReadLog.log c.args.replay.now.log in
    let w = world_of c.args.replay.now.world in
    let t = c.args.thread in
    let left = slice_index c.args.free.now t in
    let some : 0 < left = let l = c.if-left-eq0.false in omega (arith, l) in
    let is = subst (λ r. IsReady space code log w t r (g.L.ReadLog.holds c.ready_turn.new.reader t) (world_of c.ready_turn.new.self.world)) c.in-Ok-Local.field-0-is c.in-Ok-Local.ensures.ready in
    (is.0, none_hits space code g.met.M.Machine.laws log (g.met.L.ReadLog.limits c.args.replay.now.log) c.args.breaks.now w t left some (c.requires.free t) is.0, is.1)

pub returns-in-Ok-Local-clause-free : goal.returns-in-Ok-Local-clause-free
returns-in-Ok-Local-clause-free g c =
    let space = g.S.ObjectSpace.meaning in
    let code = g.M.Machine.code in
    let log = g.L.ReadLog.log c.args.replay.now.log in
    let w = world_of c.args.replay.now.world in
    let t = c.args.thread in
    let left = slice_index c.args.free.now t in
    let some : 0 < left = let l = c.if-left-eq0.false in omega (arith, l) in
    let is = subst (λ r. IsReady space code log w t r (g.L.ReadLog.holds c.ready_turn.new.reader t) (world_of c.ready_turn.new.self.world)) c.in-Ok-Local.field-0-is c.in-Ok-Local.ensures.ready in
    freely_free space code g.met.M.Machine.laws log (g.met.L.ReadLog.limits c.args.replay.now.log) c.args.breaks.now w t left some (c.requires.free t) is.0 (world_of c.ready_turn.new.self.world) c.args.free.now is.1 c.requires.free
    (let e = c.told-free in let f = c.requires.few in omega (arith, e, f))

pub returns-in-Ok-Event-clause-free : goal.returns-in-Ok-Event-clause-free
returns-in-Ok-Event-clause-free g c =
    let space = g.S.ObjectSpace.meaning in
    let code = g.M.Machine.code in
    let log = g.L.ReadLog.log c.args.replay.now.log in
    let w = world_of c.args.replay.now.world in
    let t = c.args.thread in
    let left = slice_index c.args.free.now t in
    let some : 0 < left = let l = c.if-left-eq0.false in omega (arith, l) in
    let held = g.L.ReadLog.holds c.ready_turn.new.reader t in
    let is = subst (λ r. IsReady space code log w t r held (world_of c.ready_turn.new.self.world)) c.in-Ok-Event.field-0-is c.in-Ok-Event.ensures.ready in
    event_free space code g.met.M.Machine.laws log (g.met.L.ReadLog.limits c.args.replay.now.log) c.args.breaks.now w (world_of c.ready_turn.new.self.world) t left held is c.args.free.now some (c.requires.free t) c.requires.free
    (let e = c.told-free in let f = c.requires.few in omega (arith, e, f))
