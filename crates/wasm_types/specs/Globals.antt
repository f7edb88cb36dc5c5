-- The globals with which a module opens. WebAssembly Core 1.0, execution, instantiation.
use Rattle.std.specs.Prelude.{List, map}
use Rattle.wasm_types.specs.declared.value.Value.{Value}
use Rattle.wasm_types.specs.declared.modules.Module.{Module}

abbrev pub opening_globals : Module → List Value
opening_globals m = map (λ g. g.value) m.globals
