use Rattle.std.proofs.Common.{length, ap, refl, arith}
use Rattle.rw_objects.specs.declared.touch.Found.TheVariants.{Read}
use Rattle.log_pieces.specs.Spelling.{touch_bytes}
use Rattle.log_pieces.specs.Widths.{FitsTouch}
use Rattle.log_pieces.proofs.Loop.{put_more, fits_more}
use Rattle.log_pieces.proofs.writing.put_touches.Goals as goal

pub loop-touch-preserved : goal.loop-touch-preserved
loop-touch-preserved c = record {
  put = put_more touch_bytes c.as_slice-found.result.now c.loop-touch.touch-index _ (Read 0 0) c.extend_from_slice.new.self.items _ _ c.loop-touch-test.true refl c.loop-touch.invariant.put c.in_ok-put_touch.ensures.put;
  fits = fits_more FitsTouch c.as_slice-found.result.now c.loop-touch.touch-index _ (Read 0 0) c.loop-touch-test.true refl c.loop-touch.invariant.fits c.put_touch.ensures.fits;
  few =
      let before = c.loop-touch.invariant.few in
      let one = c.in_ok-put_touch.ensures.few in
      let here = c.loop-touch-test.true in
      let three = c.as_slice-found.ensures.few in
      let same = c.as_slice-found.ensures.items in
      omega (arith, before, one, here, three, ap length same);
  capacity = let before = c.loop-touch.invariant.capacity in let one = c.put_touch.ensures.capacity in omega (arith, before, one);
}
