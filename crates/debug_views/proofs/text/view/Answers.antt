use Rattle.std.proofs.Common.{map, ◌∙◌, arith}
use Rattle.std.specs.Prelude.{string_bytes}
use Rattle.event_core.specs.World.{world_of}
use Rattle.debug_views.specs.Values.{memory_bytes}
use Rattle.debug_views.proofs.Texts.{is_view, short_range}
use Rattle.debug_views.proofs.text.view.Goals as goal

pub write_rows-requires : goal.write_rows-requires
write_rows-requires g c =
    short_range c.as_slice.result.now (memory_bytes g.S.ObjectSpace.meaning (world_of c.args.world.now)) c.args.range.from c.args.range.len
    (c.as_slice.ensures.value ∙ c.in_ok-bytes.ensures.bytes) (omega arith)

pub returns-clause-view : goal.returns-clause-view
returns-clause-view g c =
    is_view g.S.ObjectSpace.meaning g.M.Machine.code (world_of c.args.world.now) c.args.block c.args.stopped c.args.breaks.now (map string_bytes c.args.notes.now) c.args.range.from c.args.range.len c.blocks_of_range-blocks.result _ _ _ _ _ _
    c.blocks_of_range-blocks.ensures.holding c.versions.ensures (c.as_slice.ensures.value ∙ c.in_ok-bytes.ensures.bytes)
    c.in_ok-text.ensures c.in_ok-write_threads.ensures c.in_ok-write_objects.ensures c.in_ok-write_rows.ensures
