-- One touch more is counted: it is the first of those that were left.
use Rattle.std.proofs.Common.{◌≡◌, ◌+◌, ◌∷◌, length, List, drop, get_or, append_assoc, sym, ap, ◌∙◌, subst, arith}
use Rattle.std.proofs.lemmas.List.{length-append, length-set}
use Rattle.rw_objects.specs.declared.touch.Touch.{Touch}
use Rattle.rw_objects.specs.declared.touch.Mode.TheVariants.{Read}
use Rattle.rw_objects.specs.Counts.{CanCountAll}
use Rattle.rw_objects.specs.Space.{RisesFrom, AllBelow}
use Rattle.rw_objects.proofs.CountingTouches.{drop_here, counts_step, found_step, room_step, below_len, touched}
use Rattle.rw_objects.proofs.versions.Versions.touch_all.Goals as goal

pub loop-touch-preserved : goal.loop-touch-preserved
loop-touch-preserved c =
    let all : List Touch = c.as_slice-touch-items.result.now in
    let i = c.loop-touch.touch-index in
    let t : Touch = get_or all i (record { object = 0; mode = Read }) in
    let ts : List Touch = drop (i + 1) all in
    let here : drop i all ≡ t ∷ ts = drop_here all i _ c.loop-touch-test.true in
    let old = c.loop-touch.self in
    let inv = c.loop-touch.invariant in
    let rises : RisesFrom inv.rises.0 (t ∷ ts) = subst (λ us. RisesFrom inv.rises.0 us) here inv.rises.1 in
    let below : AllBelow (length old) (t ∷ ts) = subst (λ us. AllBelow (length old) us) here inv.below in
    let room : CanCountAll (t ∷ ts) old = subst (λ us. CanCountAll us old) here inv.room in
    let new : c.touch.new.self ≡ touched t old = c.touch.ensures.counts in
    let len : length c.touch.new.self ≡ length old = ap length new ∙ length-set old t.object _ in
    record {
      found = rw (c.push.ensures, c.touch.ensures.found, new, found_step (t.object + 1) t ts old (omega arith) rises.1, append_assoc) (rw here at inv.found);
      counts = λ o. rw new (counts_step t ts old o below.0 rises.1 ∙ rw here at (inv.counts o));
      len = len ∙ inv.len;
      some = rw c.push.ensures (rw length-append (omega (arith, inv.some)));
      rises = (t.object + 1, rises.1);
      below = below_len ts _ _ (sym len) below.1;
      room = subst (λ cs. CanCountAll ts cs) (sym new) (room_step (t.object + 1) t ts old (omega arith) rises.1 room);
    }
