use Rattle.std.proofs.Common.{sym, refl, ap, ◌∙◌}
use Rattle.event_core.specs.World.{world_of}
use Rattle.replay_session.proofs.Reaching.{stands, stays, same_right, same_free}
use Rattle.replay_session.proofs.session.Session.go_to.Goals as goal

pub returns-then-is_break-clause-stops : goal.returns-then-is_break-clause-stops
returns-then-is_break-clause-stops g c =
    let session = c.args.self.now in
    let opened = c.in_ok-other.ensures in
    let ran = c.in_ok-stopped.ensures in
    stands g.S.ObjectSpace.meaning g.M.Machine.code _ _ _ _ (ap g.L.ReadLog.log (opened.log ∙ sym session.same_log)) (opened.world ∙ ap g.O.OpenWorld.opened (sym session.same_opens)) c.args.breaks.now (world_of session.replay.world) _ session.legs.items _ c.in_ok-stopped.stopped c.in_ok-other.other.legs.items
    (sym c.is_break.ensures ∙ c.if-is_break.true) ran.stops opened.legs ran.legs

pub returns-else-is_break-clause-stops : goal.returns-else-is_break-clause-stops
returns-else-is_break-clause-stops g c =
    let session = c.args.self.now in
    let opened = c.in_ok-other.ensures in
    stays g.S.ObjectSpace.meaning g.M.Machine.code _ _ _ _ (ap g.L.ReadLog.log (opened.log ∙ sym session.same_log)) (opened.world ∙ ap g.O.OpenWorld.opened (sym session.same_opens)) c.args.breaks.now (world_of session.replay.world) _ session.legs.items _ c.in_ok-stopped.stopped _
    (sym c.is_break.ensures ∙ c.if-is_break.false) c.in_ok-stopped.ensures.stops refl refl

pub returns-then-is_break-clause-right : goal.returns-then-is_break-clause-right
returns-then-is_break-clause-right g c =
    let session = c.args.self.now in
    let opened = c.in_ok-other.ensures in
    same_right g.S.ObjectSpace.meaning g.M.Machine.code _ _ _ _ (ap g.L.ReadLog.log (opened.log ∙ sym session.same_log)) (ap g.O.OpenWorld.opened (opened.opens ∙ sym session.same_opens)) c.in_ok-stopped.stopped c.in_ok-stopped.ensures.right

pub returns-then-is_break-clause-free : goal.returns-then-is_break-clause-free
returns-then-is_break-clause-free g c =
    let session = c.args.self.now in
    let opened = c.in_ok-other.ensures in
    same_free g.S.ObjectSpace.meaning g.M.Machine.code _ _ _ _ (ap g.L.ReadLog.log (opened.log ∙ sym session.same_log)) (ap g.O.OpenWorld.opened (opened.opens ∙ sym session.same_opens)) c.in_ok-stopped.stopped c.in_ok-stopped.ensures.free

pub returns-else-is_break-clause-right : goal.returns-else-is_break-clause-right
returns-else-is_break-clause-right g c =
    let session = c.args.self.now in
    let opened = c.in_ok-other.ensures in
    same_right g.S.ObjectSpace.meaning g.M.Machine.code _ _ _ _ (ap g.L.ReadLog.log (opened.log ∙ sym session.same_log)) (ap g.O.OpenWorld.opened (opened.opens ∙ sym session.same_opens)) c.in_ok-stopped.stopped c.in_ok-stopped.ensures.right

pub returns-else-is_break-clause-free : goal.returns-else-is_break-clause-free
returns-else-is_break-clause-free g c =
    let session = c.args.self.now in
    let opened = c.in_ok-other.ensures in
    same_free g.S.ObjectSpace.meaning g.M.Machine.code _ _ _ _ (ap g.L.ReadLog.log (opened.log ∙ sym session.same_log)) (ap g.O.OpenWorld.opened (opened.opens ∙ sym session.same_opens)) c.in_ok-stopped.stopped c.in_ok-stopped.ensures.free
