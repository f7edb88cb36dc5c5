use Rattle.wasm_types.proofs.Powers.{signed_fits}
use Rattle.wasm_types.proofs.leb128.is_within_signed.Goals as goal

pub returns-then-bits-ge7 : goal.returns-then-bits-ge7
returns-then-bits-ge7 c = signed_fits c.args.byte c.args.bits c.requires.byte c.if-bits-ge7.true
