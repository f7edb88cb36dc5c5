-- What is read of a file, at once or as a stream.
use Rattle.std.specs.Prelude.{◌≡◌, ◌<◌, ℕ, List, ◌++◌, Option, Some, None, take}
use Rattle.commands.specs.declared.files.FileFault.{FileFault}
use Rattle.commands.specs.declared.files.FileFault.TheVariants.{NotRead, NoMemory}

-- the file's bytes, or the first of them where there is a limit
abbrev pub IsRead : (List ℕ → Type 0) → Option ℕ → List ℕ → Type 0
IsRead holds None bytes = holds bytes
IsRead holds (Some most) bytes = (whole : List ℕ) × holds whole × (bytes ≡ take most whole)

-- why a file is not read, where it fails so
abbrev pub IsFileFault : Type 0 → FileFault → Type 0
IsFileFault fails NotRead = fails
IsFileFault fails NoMemory = Unit {0}

module _ {Stream : Type 0} (brings : Stream → List ℕ → Stream → Type 0) (failed : Stream → ℕ) (ended : Stream → Type 0) where
  -- the stream stands at the first byte of a file: what it brings begins the file, and is the whole file where nothing
  -- more comes; the file may fail where the stream comes to a state in which more calls failed than when it was opened
  pub record IsOpened (holds : List ℕ → Type 0) (fails : Type 0) (stream : Stream) : Type 0 where
    pub begins : (came : List ℕ) (later : Stream) → brings stream came later → (rest : List ℕ) × holds (came ++ rest)
    pub whole : (came : List ℕ) (later : Stream) → brings stream came later → ended later → holds came
    pub none_failed : failed stream ≡ 0
    pub breaks : (came : List ℕ) (later : Stream) → brings stream came later → failed stream < failed later → fails
