use Rattle.wasm_types.proofs.leb128.+signed_front.Given as goal

abbrev pub decreases-signed_front : goal.decreases-signed_front
decreases-signed_front l = l.bits
