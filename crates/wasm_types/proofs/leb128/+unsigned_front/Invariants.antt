use Rattle.wasm_types.proofs.leb128.+unsigned_front.Given as goal

abbrev pub decreases-unsigned_front : goal.decreases-unsigned_front
decreases-unsigned_front l = l.bits
