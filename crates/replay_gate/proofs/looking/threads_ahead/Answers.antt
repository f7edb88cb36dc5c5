use Rattle.std.proofs.Common.{length, slice_get, sym, ap, ◌∙◌, subst, arith, inl, inr}
use Rattle.event_core.specs.World.{world_of}
use Rattle.replay_gate.specs.LocalRounds.{IsAhead}
use Rattle.replay_gate.proofs.Putting.{length_more, get_pushed}
use Rattle.replay_gate.proofs.looking.threads_ahead.Goals as goal

pub loop-thread-preserved : goal.loop-thread-preserved
loop-thread-preserved g c =
    let inv = c.loop-thread.invariant in
    let items = c.loop-thread.aheads.items in
    let x = c.in-Ok.ahead in
    let pushed = c.in-Ok-push.ensures.items in
    let is_ahead = IsAhead g.S.ObjectSpace.meaning g.M.Machine.code g.M.Machine.state (g.L.ReadLog.log c.args.log.now) c.args.rounds (world_of c.args.world.now) in
    record {
      len = let e = ap length pushed ∙ length_more items x in let l = inv.len in omega (arith, e, l);
      each = λ t a h.
          elim (get_pushed items x a t (ap (λ xs. slice_get xs t) (sym pushed) ∙ h)) [
            | inl e ↦ inv.each t a e
            | inr e ↦ subst (λ i. is_ahead i a) (sym (e.0 ∙ inv.len)) (subst (is_ahead c.loop-thread.thread) (sym e.1) c.in-Ok.ensures.ahead)
          ];
    }
