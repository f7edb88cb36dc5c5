-- The part that is kept is changed, and no other.
use Rattle.std.proofs.Common.{◌∙◌, sym, ap}
use Rattle.shared_parts.specs.Ones.{lane_of}
use Rattle.shared_parts.proofs.Ones.{totals_with_call}
use Rattle.shared_parts.proofs.one.OnePartKeeps.advance.Goals as goal
use Rattle.shared_parts.proofs.one.OnePartKeeps.advance.Goals.{in-Zero, in-One, in-Two, in-Three, in-Four, in-Five, in-Six, in-Seven}

pub returns : goal.returns
returns g c =
    elim c.match-part.branch [
      | in-Zero w ↦ w.written-is ∙ totals_with_call g.S.ObjectSpace.meaning 0 w.advance.new.written c.args.self.now c.args.before.now c.args.latest.now c.args.op.now c.requires.covers c.requires.step.grown (ap lane_of (sym c.self.view_is ∙ w.in-Zero.is)) (c.written.view_is ∙ c.requires.totals) w.advance.ensures.total
      | in-One w ↦ w.written-is ∙ totals_with_call g.S.ObjectSpace.meaning 1 w.advance-in-One.new.written c.args.self.now c.args.before.now c.args.latest.now c.args.op.now c.requires.covers c.requires.step.grown (ap lane_of (sym c.self.view_is ∙ w.in-One.is)) (c.written.view_is ∙ c.requires.totals) w.advance-in-One.ensures.total
      | in-Two w ↦ w.written-is ∙ totals_with_call g.S.ObjectSpace.meaning 2 w.advance-in-Two.new.written c.args.self.now c.args.before.now c.args.latest.now c.args.op.now c.requires.covers c.requires.step.grown (ap lane_of (sym c.self.view_is ∙ w.in-Two.is)) (c.written.view_is ∙ c.requires.totals) w.advance-in-Two.ensures.total
      | in-Three w ↦ w.written-is ∙ totals_with_call g.S.ObjectSpace.meaning 3 w.advance-in-Three.new.written c.args.self.now c.args.before.now c.args.latest.now c.args.op.now c.requires.covers c.requires.step.grown (ap lane_of (sym c.self.view_is ∙ w.in-Three.is)) (c.written.view_is ∙ c.requires.totals) w.advance-in-Three.ensures.total
      | in-Four w ↦ w.written-is ∙ totals_with_call g.S.ObjectSpace.meaning 4 w.advance-in-Four.new.written c.args.self.now c.args.before.now c.args.latest.now c.args.op.now c.requires.covers c.requires.step.grown (ap lane_of (sym c.self.view_is ∙ w.in-Four.is)) (c.written.view_is ∙ c.requires.totals) w.advance-in-Four.ensures.total
      | in-Five w ↦ w.written-is ∙ totals_with_call g.S.ObjectSpace.meaning 5 w.advance-in-Five.new.written c.args.self.now c.args.before.now c.args.latest.now c.args.op.now c.requires.covers c.requires.step.grown (ap lane_of (sym c.self.view_is ∙ w.in-Five.is)) (c.written.view_is ∙ c.requires.totals) w.advance-in-Five.ensures.total
      | in-Six w ↦ w.written-is ∙ totals_with_call g.S.ObjectSpace.meaning 6 w.advance-in-Six.new.written c.args.self.now c.args.before.now c.args.latest.now c.args.op.now c.requires.covers c.requires.step.grown (ap lane_of (sym c.self.view_is ∙ w.in-Six.is)) (c.written.view_is ∙ c.requires.totals) w.advance-in-Six.ensures.total
      | in-Seven w ↦ w.written-is ∙ totals_with_call g.S.ObjectSpace.meaning 7 w.advance-in-Seven.new.written c.args.self.now c.args.before.now c.args.latest.now c.args.op.now c.requires.covers c.requires.step.grown (ap lane_of (sym c.self.view_is ∙ w.in-Seven.is)) (c.written.view_is ∙ c.requires.totals) w.advance-in-Seven.ensures.total
    ]
