use Rattle.log_pieces.specs.Spelling.{entry_bytes}
use Rattle.log_pieces.specs.Widths.{FitsEntry}
use Rattle.log_pieces.proofs.Loop.{put_more, fits_more}
use Rattle.log_pieces.proofs.writing.put_entries.Goals as goal

pub loop-entry-preserved : goal.loop-entry-preserved
loop-entry-preserved c = record {
  put = put_more entry_bytes c.args.entries.now c.loop-entry.entry-index c.entry-item.result _ c.args.out.now.items _ _ c.loop-entry-test.true c.entry-item.is c.loop-entry.invariant.put c.in_ok-put_entry.ensures.put;
  fits = fits_more FitsEntry c.args.entries.now c.loop-entry.entry-index c.entry-item.result _ c.loop-entry-test.true c.entry-item.is c.loop-entry.invariant.fits c.in_ok-put_entry.ensures.fits;
}
