-- One object more is put.
use Rattle.std.proofs.Common.{◌++◌, ◌∙◌, ap, refl, length, arith}
use Rattle.std.specs.List.{flat_map}
use Rattle.std.proofs.lemmas.List.{take_all}
use Rattle.rw_objects.specs.declared.touch.Found.{Found}
use Rattle.rw_objects.specs.declared.touch.Found.TheVariants.{Read}
use Rattle.rw_objects.specs.Touch.{object_of}
use Rattle.log_pieces.proofs.Loop.{put_more}
use Rattle.replica.specs.Objects.{touched_text}
use Rattle.replica.proofs.objects.put_touches.Goals as goal

pub loop-found-preserved : goal.loop-found-preserved
loop-found-preserved c =
    let text = c.put_touched.ensures.text ∙ ap (λ o. c.loop-found.room ++ touched_text c.args.block o) (c.object.ensures) in
    record {
      text = put_more (λ (f : Found). touched_text c.args.block (object_of f)) c.as_slice-found-items.result.now c.loop-found.found-index _ (Read 0 0) c.args.room.now c.loop-found.room _ c.loop-found-test.true refl c.loop-found.invariant.text text;
      short = omega (arith, c.loop-found.invariant.short, c.put_touched.ensures.short);
    }

pub returns : goal.returns
returns c =
    let all = take_all c.loop-found.found-index c.as_slice-found-items.result.now c.loop-found-test.false in
    record {
      text = c.loop-found.invariant.text ∙ ap (λ fs. c.args.room.now ++ flat_map (λ f. touched_text c.args.block (object_of f)) fs) (all ∙ c.as_slice-found-items.ensures.items);
      short = omega (arith, c.loop-found.invariant.short, c.loop-found.auto.found-index-end, c.as_slice-found-items.ensures.few, ap length c.as_slice-found-items.ensures.items);
    }
