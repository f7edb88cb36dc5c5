-- Files over memory.
use Rattle.std.specs.Prelude.{◌≡◌, ◌≢◌, ℕ, List, [], ◌∷◌, Option, Some, None, cond}
use Rattle.std.specs.Str.{bytes_eq}
use Rattle.commands.specs.declared.memory.MemoryFile.{MemoryFile}

-- the first of the files that is at the path
abbrev pub file_at : List MemoryFile → List ℕ → Option MemoryFile
file_at [] path = None
file_at (file ∷ files) path = cond (bytes_eq file.path.now path) (Some file) (file_at files path)

-- the file that is found has these bytes
abbrev pub HoldsBytes : Option MemoryFile → List ℕ → Type 0
HoldsBytes None bytes = ⊥
HoldsBytes (Some file) bytes = bytes ≡ file.bytes.now

-- no file is found, or it is made to fail at some call
abbrev pub Fails : Option MemoryFile → Type 0
Fails None = Unit {0}
Fails (Some file) = file.fails_at ≢ None
