-- What the check of a module answers, by what its file may hold.
use Rattle.std.specs.Prelude.{◌≡◌, ◌⊎◌, ℕ, List, ◌++◌, codes}
use Rattle.wasm_types.specs.declared.modules.Module.{Module}
use Rattle.binary_decoder.specs.declared.fault.DecodeFault.{DecodeFault}
use Rattle.binary_decoder.specs.declared.fault.DecodeFault.TheVariants as decoding
use Rattle.binary_decoder.specs.Grammar.{Spells}
use Rattle.binary_decoder.specs.First.{IsFirst}
use Rattle.wasm_types.specs.Limits.{Within}
use Rattle.binary_decoder.specs.Summary.{summary_text}
use Rattle.validator.specs.Valid.{WellTyped, Refuses}
use Rattle.commands.specs.Files.{IsFileFault}
use Rattle.commands.specs.declared.files.InputFile.TheVariants as input
use Rattle.commands.specs.declared.fault.Fault.{Fault}
use Rattle.commands.specs.declared.fault.Fault.TheVariants.{File, Decode, Valid, NoMemory}

-- the bytes spell this module within the limits
pub record IsModule (bytes : List ℕ) (m : Module) : Type 0 where
  pub spells : Spells m bytes
  pub within : Within m

-- why no module is read from the bytes, be it the grammar or a limit that they pass first
abbrev pub IsDecodeFault : List ℕ → DecodeFault → Type 0
IsDecodeFault bytes (decoding.Refused offset place cause) = IsFirst bytes (decoding.Refused offset place cause) × ((m : Module) → Spells m bytes → ⊥)
IsDecodeFault bytes (decoding.TooLarge limit count place) = IsFirst bytes (decoding.TooLarge limit count place) × ((m : Module) → IsModule bytes m → ⊥)
IsDecodeFault bytes decoding.NoMemory = Unit {0}

-- the summary of a module that is well typed, and the line `valid`
abbrev pub valid_text : Module → List ℕ
valid_text m = summary_text m ++ codes "valid\n"

module _ (holds : List ℕ → Type 0) where
  -- the file's module, which is well typed
  pub record IsValidFile (m : Module) : Type 0 where
    pub bytes : List ℕ
    pub held : holds bytes
    pub is_module : IsModule bytes m
    pub typed : WellTyped m

  -- when each fault is answered for a module: the file is read, then decoded, then typed
  abbrev pub IsModuleRefused : Type 0 → Fault → Type 0
  IsModuleRefused fails (File fault of) = (of ≡ input.Module) × IsFileFault fails fault
  IsModuleRefused fails (Decode fault names) = (bytes : List ℕ) × holds bytes × IsDecodeFault bytes fault
  IsModuleRefused fails (Valid fault) = (bytes : List ℕ) × (m : Module) × holds bytes × IsModule bytes m × Refuses m fault
  IsModuleRefused fails _ = ⊥

  -- the text of the file's module, which is well typed
  abbrev pub IsChecked : List ℕ → Type 0
  IsChecked text = (m : Module) × IsValidFile m × (text ≡ valid_text m)

  -- the module is refused, or there is no memory for the text
  abbrev pub IsCheckRefused : Type 0 → Fault → Type 0
  IsCheckRefused fails fault = IsModuleRefused fails fault ⊎ (fault ≡ NoMemory)
