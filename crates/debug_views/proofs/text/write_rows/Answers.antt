use Rattle.std.specs.Prelude.{string_bytes}
use Rattle.debug_views.proofs.Texts.{row_more}
use Rattle.debug_views.proofs.text.write_rows.Goals as goal

pub loop-row-preserved : goal.loop-row-preserved
loop-row-preserved c =
    row_more c.args.from c.from.result c.args.bytes.now (string_bytes c.args.text.now) (string_bytes c.loop-row.text) (string_bytes c.put_row.new.text) c.loop-row.row c.min-end.result
    c.loop-row.invariant c.from.ensures c.min-end.ensures c.in_ok-put_row.ensures
