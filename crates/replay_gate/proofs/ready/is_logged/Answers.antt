use Rattle.std.proofs.Common.{◌≡◌, Some, slice_get, sym, ap, ◌∙◌}
use Rattle.std.specs.Prelude.{option_copied}
use Rattle.event_core.specs.World.{world_of}
use Rattle.log_pieces.specs.declared.flat.Flat.TheVariants.{Known}
use Rattle.replay_gate.proofs.Going.{made_of}
use Rattle.replay_gate.proofs.Readying.{logged_entry}
use Rattle.replay_gate.proofs.ready.is_logged.Goals as goal

pub returns-in-Some-Known-held-clause-logged : goal.returns-in-Some-Known-held-clause-logged
returns-in-Some-Known-held-clause-logged g c = λ yes.
    let space = g.S.ObjectSpace.meaning in
    let log = g.L.ReadLog.log c.args.log.now in
    let w = world_of c.args.world.now in
    let th = made_of (λ t. t.places) (slice_get w.threads c.args.thread) c.in-Some.place (sym c.in-Some.ensures) in
    let same = logged_entry space w.memory c.args.op.now c.in-Some-Known-held.item c.versions.ensures (c.logs.ensures.0 yes) in
    let held : option_copied c.held.result ≡ Some (Known c.in-Some-Known-held.item) = ap option_copied c.in-Some-Known-held.is ∙ ap Some c.in-Some-Known-held.field-0-is in
    let is = sym c.held.ensures ∙ held ∙ ap (λ e. Some (Known e)) (sym same) in
    record {
      thread = th.0;
      exists = th.1;
      end = c.in-Some-Known.end;
      is_known = sym c.end.ensures ∙ c.in-Some-Known.is ∙ ap Some c.in-Some-Known.field-0-is;
      below = let l = c.if-place-end.false in let e = th.2 in omega (Rattle.std.proofs.Common.arith, l, e);
      claimed = ap (log.entry c.args.thread) th.2 ∙ sym c.read.ensures.holds ∙ is;
      holds = is;
    }
