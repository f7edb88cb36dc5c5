use Rattle.std.proofs.Common.{sym, ap, ◌∙◌, subst}
use Rattle.event_core.specs.World.{world_of}
use Rattle.replay_laws.specs.Turns.{turn_of, world_after_turn}
use Rattle.replay_gate.specs.Marks.{AreMarks}
use Rattle.replay_gate.specs.Tests.{IsFirst, HoldsNone}
use Rattle.replay_gate.specs.Notes.{HasNoted, note_by}
use Rattle.replay_gate.proofs.Noting.{looked_noted}
use Rattle.replay_gate.proofs.Testing.{all_tell}
use Rattle.replay_gate.proofs.BreakTaking.{fault_stops, first_hits, passed_takes, done_is, done_takes, step_takes}
use Rattle.replay_gate.proofs.running.take_turn.Goals as goal

pub returns-else-is_passed_over-clause-stops : goal.returns-else-is_passed_over-clause-stops
returns-else-is_passed_over-clause-stops g c = (
  fault_stops g.S.ObjectSpace.meaning g.M.Machine.code (g.L.ReadLog.log c.args.replay.now.log) (world_of c.args.replay.now.world) c.args.thread c.in-Err.fault c.in-Err.ensures.refused (sym c.is_passed_over.ensures ∙ c.if-is_passed_over.false),
  c.in-Err.ensures.unchanged,
)

pub returns-in-Some-clause-stops : goal.returns-in-Some-clause-stops
returns-in-Some-clause-stops g c =
    let space = g.S.ObjectSpace.meaning in
    let code = g.M.Machine.code in
    let w = world_of c.args.replay.now.world in
    let v = world_of c.turn_by.new.self.world in
    let t = c.args.thread in
    let d = c.in-Ok.turned in
    let marks = c.marks_of-marks.result in
    let m = all_tell space code w t (turn_of space code (g.L.ReadLog.log c.args.replay.now.log) w t) marks (subst (λ x. AreMarks space code (world_of x) t marks) c.world-2.ensures.same c.marks_of-marks.ensures) in
    let first = subst (λ x. IsFirst code c.args.breaks.now t d marks (world_of x) c.in-Some.index) c.world-else-is_done-2.ensures.same c.in-Some.ensures.some in (
      first_hits space code (g.L.ReadLog.log c.args.replay.now.log) w t d marks v m c.in-Ok.ensures.ok c.in-Ok.ensures.world c.args.breaks.now c.in-Some.index (sym c.is_done.ensures ∙ c.if-is_done.false) first,
      c.in-Ok.ensures.world,
    )

pub returns-in-None-clause-takes : goal.returns-in-None-clause-takes
returns-in-None-clause-takes g c =
    let space = g.S.ObjectSpace.meaning in
    let code = g.M.Machine.code in
    let w = world_of c.args.replay.now.world in
    let v = world_of c.turn_by.new.self.world in
    let t = c.args.thread in
    let d = c.in-Ok.turned in
    let marks = c.marks_of-marks.result in
    let m = all_tell space code w t (turn_of space code (g.L.ReadLog.log c.args.replay.now.log) w t) marks (subst (λ x. AreMarks space code (world_of x) t marks) c.world-2.ensures.same c.marks_of-marks.ensures) in
    let none = subst (λ x. HoldsNone code c.args.breaks.now t d marks (world_of x)) c.world-else-is_done-2.ensures.same (c.first_that_holds.ensures.none c.in-None.is) in
    step_takes space code (g.L.ReadLog.log c.args.replay.now.log) w t d marks v m c.in-Ok.ensures.ok c.in-Ok.ensures.world c.args.breaks.now (sym c.is_done.ensures ∙ c.if-is_done.false) none

pub returns-then-is_passed_over-clause-takes : goal.returns-then-is_passed_over-clause-takes
returns-then-is_passed_over-clause-takes g c =
    passed_takes g.S.ObjectSpace.meaning g.M.Machine.code (g.L.ReadLog.log c.args.replay.now.log) (world_of c.args.replay.now.world) c.args.thread c.in-Err.fault c.args.breaks.now (world_of c.turn_by.new.self.world) c.in-Err.ensures.refused
    (sym c.is_passed_over.ensures ∙ c.if-is_passed_over.true) c.in-Err.ensures.unchanged

pub returns-then-is_done-clause-takes : goal.returns-then-is_done-clause-takes
returns-then-is_done-clause-takes g c =
    let space = g.S.ObjectSpace.meaning in
    let code = g.M.Machine.code in
    let log = g.L.ReadLog.log c.args.replay.now.log in
    let w = world_of c.args.replay.now.world in
    let is = done_is (turn_of space code log w c.args.thread) c.in-Ok.turned c.in-Ok.ensures.ok (sym c.is_done.ensures ∙ c.if-is_done.true) in
    done_takes space code log w c.args.thread c.args.breaks.now (world_of c.turn_by.new.self.world) is (c.in-Ok.ensures.world ∙ ap (world_after_turn space code w c.args.thread) is)

pub returns-then-is_done-clause-noted : goal.returns-then-is_done-clause-noted
returns-then-is_done-clause-noted g c =
    let space = g.S.ObjectSpace.meaning in
    let code = g.M.Machine.code in
    let w = world_of c.args.replay.now.world in
    let is = done_is (turn_of space code (g.L.ReadLog.log c.args.replay.now.log) w c.args.thread) c.in-Ok.turned c.in-Ok.ensures.ok (sym c.is_done.ensures ∙ c.if-is_done.true) in
    subst (HasNoted g.W.Watch.asked g.W.Watch.whole g.W.Watch.notes c.args.watch.now c.look.new.self) (ap (note_by space code (g.W.Watch.note (g.W.Watch.asked c.args.watch.now)) w c.args.thread) (sym is)) c.look.ensures.noted

pub returns-in-Some-clause-stopped : goal.returns-in-Some-clause-stopped
returns-in-Some-clause-stopped g c =
    let space = g.S.ObjectSpace.meaning in
    let code = g.M.Machine.code in
    let w = world_of c.args.replay.now.world in
    let t = c.args.thread in
    looked_noted space code g.W.Watch.asked g.W.Watch.whole g.W.Watch.notes g.W.Watch.note c.args.watch.now c.look.new.self c.note_turn.new.watch w (world_of c.world.result.now) (world_of c.turn_by.new.self.world) (world_of c.world-else-is_done.result.now) t
    (turn_of space code (g.L.ReadLog.log c.args.replay.now.log) w t) c.in-Ok.turned (ap (λ x. world_of x) c.world.ensures.same) (ap (λ x. world_of x) c.world-else-is_done.ensures.same) c.in-Ok.ensures.ok c.in-Ok.ensures.world c.look.ensures.noted
    (c.note_turn.ensures (world_of c.world.result.now) c.look.ensures.looked)

pub returns-in-None-clause-noted : goal.returns-in-None-clause-noted
returns-in-None-clause-noted g c =
    let space = g.S.ObjectSpace.meaning in
    let code = g.M.Machine.code in
    let w = world_of c.args.replay.now.world in
    let t = c.args.thread in
    looked_noted space code g.W.Watch.asked g.W.Watch.whole g.W.Watch.notes g.W.Watch.note c.args.watch.now c.look.new.self c.note_turn.new.watch w (world_of c.world.result.now) (world_of c.turn_by.new.self.world) (world_of c.world-else-is_done.result.now) t
    (turn_of space code (g.L.ReadLog.log c.args.replay.now.log) w t) c.in-Ok.turned (ap (λ x. world_of x) c.world.ensures.same) (ap (λ x. world_of x) c.world-else-is_done.ensures.same) c.in-Ok.ensures.ok c.in-Ok.ensures.world c.look.ensures.noted
    (c.note_turn.ensures (world_of c.world.result.now) c.look.ensures.looked)
