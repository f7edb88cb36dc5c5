-- The definitions computed.
use Rattle.std.proofs.Common.{refl}
use Rattle.wasm_types.specs.Leb128Reading.{unsigned_at, signed_at}
use Rattle.binary_decoder.specs.Reading.{items_at}
use Rattle.binary_decoder.specs.Opcodes.{opcode_at, control_at, memory_at, numeric_at, atomic_at}
use Rattle.binary_decoder.specs.Reader.{val_type_at, group_at, constant_at, atomic_operands_at, prefixed_at, simple_at, operands_at, instr_at}
use Rattle.binary_decoder.specs.Names.{whole_items, part_at}
use Rattle.binary_decoder.specs.Offsets.{offset_at, body_offsets_at, section_end_at}
use Rattle.binary_decoder.proofs.offset_example.example_has_these_offsets.Goals as goal

pub returns-clause-all : goal.returns-clause-all
unfolding unsigned_at signed_at items_at opcode_at control_at memory_at numeric_at atomic_at val_type_at group_at constant_at atomic_operands_at prefixed_at simple_at operands_at instr_at whole_items part_at offset_at body_offsets_at section_end_at
returns-clause-all c = refl

pub returns-clause-one : goal.returns-clause-one
unfolding unsigned_at signed_at items_at opcode_at control_at memory_at numeric_at atomic_at val_type_at group_at constant_at atomic_operands_at prefixed_at simple_at operands_at instr_at whole_items part_at offset_at body_offsets_at section_end_at
returns-clause-one c = refl

pub returns-clause-past_end : goal.returns-clause-past_end
unfolding unsigned_at signed_at items_at opcode_at control_at memory_at numeric_at atomic_at val_type_at group_at constant_at atomic_operands_at prefixed_at simple_at operands_at instr_at whole_items part_at offset_at body_offsets_at section_end_at
returns-clause-past_end c = refl

pub returns-clause-no_body : goal.returns-clause-no_body
unfolding unsigned_at signed_at items_at opcode_at control_at memory_at numeric_at atomic_at val_type_at group_at constant_at atomic_operands_at prefixed_at simple_at operands_at instr_at whole_items part_at offset_at body_offsets_at section_end_at
returns-clause-no_body c = refl
