use Rattle.std.proofs.Common.{◌+◌, ap, ◌∙◌, slice_set}
use Rattle.std.specs.Prelude.{Some, slice_index_or}
use Rattle.wasm_types.proofs.Putting.{put_next}
use Rattle.wasm_types.proofs.table.put_functions.Goals as goal

pub loop-index-preserved : goal.loop-index-preserved
loop-index-preserved c =
    ap (λ x. slice_set x (c.args.at + c.loop-index.index) (Some (slice_index_or c.args.functions.now c.loop-index.index 0))) c.loop-index.invariant
    ∙ put_next c.args.at c.loop-index.index c.args.functions.now c.args.table.now.items 0 c.requires c.loop-index-test.true
