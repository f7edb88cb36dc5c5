-- The locals of a function, one by one. WebAssembly Core 1.0, binary format, code section.
use Rattle.std.specs.Prelude.{List, replicate}
use Rattle.std.specs.List.{flat_map}
use Rattle.wasm_types.specs.declared.value.ValType.{ValType}
use Rattle.wasm_types.specs.declared.modules.LocalGroup.{LocalGroup}

-- the locals of one group
abbrev pub locals_in : LocalGroup → List ValType
locals_in group = replicate group.count group.val_type

-- the locals of all groups
abbrev pub locals_of : List LocalGroup → List ValType
locals_of groups = flat_map locals_in groups
