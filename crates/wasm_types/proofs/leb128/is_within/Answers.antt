use Rattle.wasm_types.proofs.Powers.{is_within_true}
use Rattle.wasm_types.proofs.leb128.is_within.Goals as goal

pub returns-then-bits-ge7 : goal.returns-then-bits-ge7
returns-then-bits-ge7 c = is_within_true c.args.byte c.args.bits c.requires c.if-bits-ge7.true
