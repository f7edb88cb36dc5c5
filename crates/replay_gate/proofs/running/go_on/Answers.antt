use Rattle.std.proofs.Common.{[], sym, ap, ◌∙◌, subst, refl, inr}
use Rattle.std.proofs.lemmas.Bool.{eqb-true}
use Rattle.event_core.specs.declared.pick.Input.TheVariants.{Go}
use Rattle.event_core.specs.World.{step_of_pick}
use Rattle.replay_laws.specs.Turns.{pick_of}
use Rattle.replay_gate.specs.declared.marks.Marks.{Marks}
use Rattle.event_core.specs.World.{world_of}
use Rattle.rw_objects.specs.Memory.{entry_of}
use Rattle.replay_laws.specs.Turns.{turn_of, world_after_turn}
use Rattle.replay_gate.specs.declared.answers.Turned.TheVariants as turned
use Rattle.replay_gate.specs.Turned.{answer_of_turn}
use Rattle.replay_gate.specs.Free.{GoesFreely}
use Rattle.replay_gate.specs.Marks.{marks_of_step}
use Rattle.replay_gate.specs.Tests.{IsFirst, HoldsNone}
use Rattle.replay_gate.proofs.Marking.{found_marks}
use Rattle.replay_gate.proofs.BreakTaking.{first_hits, none_holds, step_takes}
use Rattle.replay_gate.proofs.Testing.{MarksTell}
use Rattle.replay_gate.proofs.running.go_on.Goals as goal

pub returns-then-is_empty-clause-goes : goal.returns-then-is_empty-clause-goes
returns-then-is_empty-clause-goes g c =
    let space = g.S.ObjectSpace.meaning in
    let code = g.M.Machine.code in
    let log = g.L.ReadLog.log c.args.replay.now.log in
    let w = world_of c.args.replay.now.world in
    let v = world_of c.goes_freely.new.replay.world in
    let t = c.args.thread in
    let breaks = c.args.breaks.now in
    let event = subst (λ r. GoesFreely space code log breaks t w r (g.L.ReadLog.holds c.goes_freely.new.reader t) v) c.in-Ok-Event.field-0-is c.in-Ok-Event.ensures.goes in
    let after = event.leads ∙ ap (world_after_turn space code w t) (sym event.is) in
    let marks : Marks = record { goes = marks_of_step space w.memory.counts (step_of_pick space code w (pick_of t Go)); times_out = [] } in
    let m : MarksTell space code w t (turn_of space code log w t) marks = record { goes = refl; out = inr (refl, event.is) } in
    let none = none_holds code breaks t turned.Event marks v (eqb-true _ 0 (sym c.is_empty.ensures ∙ c.if-is_empty.true)) in
    step_takes space code log w t turned.Event marks v m (ap answer_of_turn event.is) after breaks refl none

pub returns-in-Some-clause-stops : goal.returns-in-Some-clause-stops
returns-in-Some-clause-stops g c =
    let space = g.S.ObjectSpace.meaning in
    let code = g.M.Machine.code in
    let log = g.L.ReadLog.log c.args.replay.now.log in
    let w = world_of c.args.replay.now.world in
    let v = world_of c.goes_freely.new.replay.world in
    let t = c.args.thread in
    let breaks = c.args.breaks.now in
    let marks = c.marks_of_item-marks.result in
    let event = subst (λ r. GoesFreely space code log breaks t w r (g.L.ReadLog.holds c.goes_freely.new.reader t) v) c.in-Ok-Event.field-0-is c.in-Ok-Event.ensures.goes in
    let after = event.leads ∙ ap (world_after_turn space code w t) (sym event.is) in
    let m : MarksTell space code w t (turn_of space code log w t) marks = record {
      goes = c.marks_of_item-marks.ensures.goes (entry_of space w.memory event.op) (c.held.ensures ∙ event.holds) ∙ found_marks (space.touches event.op) w.memory.counts ∙ ap (marks_of_step space w.memory.counts) (sym event.step);
      out = inr (c.marks_of_item-marks.ensures.times_out, event.is);
    } in
    let first = subst (λ x. IsFirst code breaks t turned.Event marks (world_of x) c.in-Some.index) c.world-in-Ok-Event-2.ensures.same c.in-Some.ensures.some in
    (first_hits space code log w t turned.Event marks v m (ap answer_of_turn event.is) after breaks c.in-Some.index refl first, after)

pub returns-in-None-clause-goes : goal.returns-in-None-clause-goes
returns-in-None-clause-goes g c =
    let space = g.S.ObjectSpace.meaning in
    let code = g.M.Machine.code in
    let log = g.L.ReadLog.log c.args.replay.now.log in
    let w = world_of c.args.replay.now.world in
    let v = world_of c.goes_freely.new.replay.world in
    let t = c.args.thread in
    let breaks = c.args.breaks.now in
    let marks = c.marks_of_item-marks.result in
    let event = subst (λ r. GoesFreely space code log breaks t w r (g.L.ReadLog.holds c.goes_freely.new.reader t) v) c.in-Ok-Event.field-0-is c.in-Ok-Event.ensures.goes in
    let after = event.leads ∙ ap (world_after_turn space code w t) (sym event.is) in
    let m : MarksTell space code w t (turn_of space code log w t) marks = record {
      goes = c.marks_of_item-marks.ensures.goes (entry_of space w.memory event.op) (c.held.ensures ∙ event.holds) ∙ found_marks (space.touches event.op) w.memory.counts ∙ ap (marks_of_step space w.memory.counts) (sym event.step);
      out = inr (c.marks_of_item-marks.ensures.times_out, event.is);
    } in
    let none = subst (λ x. HoldsNone code breaks t turned.Event marks (world_of x)) c.world-in-Ok-Event-2.ensures.same (c.first_that_holds.ensures.none c.in-None.is) in
    step_takes space code log w t turned.Event marks v m (ap answer_of_turn event.is) after breaks refl none
