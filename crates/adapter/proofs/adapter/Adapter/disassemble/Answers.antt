use Rattle.std.proofs.Common.{rules}
use Rattle.std.specs.Int.{w64}
use Rattle.std.proofs.lemmas.Int.{to_z-of_z}
use Rattle.adapter.proofs.Keeping.{tells}
use Rattle.adapter.proofs.adapter.Adapter.disassemble.Goals as goal

pub returns : goal.returns
returns c =
    tells c.disassembly_reply.result c.args.self.now.debugger.valid.now c.module-module.result.now (record { reference = c.args.reference.now; offset = c.args.offset }) c.args.instructions c.args.count c.place_of-found.result
    (search rules) (rw (to_z-of_z w64 c.args.offset (search rules)) at c.place_of-found.ensures) (rw (to_z-of_z w64 c.args.instructions (search rules)) at c.disassembly_reply.ensures)
