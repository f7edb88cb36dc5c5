use Rattle.std.specs.Prelude.{string_bytes}
use Rattle.rw_objects.specs.Counts.{count_at}
use Rattle.debug_views.proofs.Texts.{object_more}
use Rattle.debug_views.proofs.text.write_objects.Goals as goal

pub loop-index-preserved : goal.loop-index-preserved
loop-index-preserved c =
    object_more (count_at c.args.versions.now) (string_bytes c.args.text.now) (string_bytes c.loop-index.text) (string_bytes c.write_object.new.text) c.args.blocks.first c.loop-index.index c.at-count.result
    c.loop-index.invariant c.at-count.ensures c.in_ok-write_object.ensures
