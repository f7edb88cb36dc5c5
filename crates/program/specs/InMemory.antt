-- What the program answers of files over memory.
use Rattle.std.specs.Prelude.{ℕ, List}
use Rattle.wasm_types.specs.declared.modules.Module.{Module}
use Rattle.validator.specs.Valid.{WellTyped}
use Rattle.commands.specs.declared.memory.MemoryFile.{MemoryFile}
use Rattle.commands.specs.Memory.{HoldsBytes, file_at}
use Rattle.commands.specs.Checks.{IsModule}

-- the bytes of the file at the path spell a module within the limits, which is well typed
pub record HasValidModule (files : List MemoryFile) (path : List ℕ) : Type 0 where
  pub bytes : List ℕ
  pub held : HoldsBytes (file_at files path) bytes
  pub m : Module
  pub is_module : IsModule bytes m
  pub typed : WellTyped m
