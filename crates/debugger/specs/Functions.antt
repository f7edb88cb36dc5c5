-- Functions of a module by what they are called: by their numbers, and by their names.
use Rattle.std.specs.Prelude.{◌≡◌, ◌⊎◌, ℕ, ◌<◌, ◌&&◌, ◌||◌, Bool, true, false, nat_lt, List, length, Option, Some, None, slice_get}
use Rattle.std.specs.Fmt.{decimal}
use Rattle.std.specs.Str.{bytes_eq}
use Rattle.wasm_types.specs.declared.modules.Body.{Body}
use Rattle.wasm_types.specs.declared.modules.Module.{Module}
use Rattle.debug_views.specs.Names.{function_name}
use Rattle.debug_views.specs.Printable.{fits_line}
use Rattle.wasm_world.specs.CodePlace.{CodePlace}
use Rattle.debugger.specs.declared.word.Word.{Word}
use Rattle.debugger.specs.Lines.{word_of}

abbrev pub is_word : Word → Option Word → Bool
is_word w None = false
is_word w (Some v) = bytes_eq v.bytes w.bytes

-- a name that may be put into a line
abbrev pub is_named : Word → Option (List ℕ) → Bool
is_named w None = false
is_named w (Some name) = fits_line name && is_word w (word_of name)

-- a function is called so by its number, or by its name
abbrev pub is_called : Word → Option (List ℕ) → ℕ → Bool
is_called w name f = is_word w (word_of (decimal f)) || is_named w name

-- of functions below `count`
module _ (source : List ℕ) (w : Word) where
  abbrev pub NoneCalled : ℕ → Type 0
  NoneCalled count = (g : ℕ) → g < count → is_called w (function_name source g) g ≡ false

  -- the first that is called so
  pub record IsFirstCalled (count f : ℕ) : Type 0 where
    pub there : f < count
    pub called : is_called w (function_name source f) f ≡ true
    pub first : NoneCalled f

  abbrev pub IsFound : ℕ → Option ℕ → Type 0
  IsFound count None = NoneCalled count
  IsFound count (Some f) = IsFirstCalled count f

abbrev pub body_has : Option Body → ℕ → Bool
body_has None n = false
body_has (Some b) n = nat_lt n (length b.code)

-- the function's body has an instruction of that number
abbrev pub has_instruction : Module → CodePlace → Bool
has_instruction m p = body_has (slice_get m.bodies p.function) p.instruction

-- instruction n of the first function that is called so
pub record IsMeant (m : Module) (w : Word) (n : ℕ) (p : CodePlace) : Type 0 where
  pub function : IsFirstCalled m.source w (length m.functions) p.function
  pub instruction : p.instruction ≡ n
  pub there : has_instruction m p ≡ true

-- there is none, since the first function that is called so is shorter
pub record IsShort (m : Module) (w : Word) (n : ℕ) : Type 0 where
  pub function : ℕ
  pub first : IsFirstCalled m.source w (length m.functions) function
  pub short : has_instruction m (record { function = function; instruction = n }) ≡ false

-- its first instruction, where a text calls it; a text that is no word calls none
abbrev pub IsEntryBy : Module → Option Word → Option CodePlace → Type 0
IsEntryBy m None found = found ≡ None
IsEntryBy m (Some w) None = NoneCalled m.source w (length m.functions) ⊎ IsShort m w 0
IsEntryBy m (Some w) (Some p) = IsMeant m w 0 p

abbrev pub IsEntry : Module → List ℕ → Option CodePlace → Type 0
IsEntry m text found = IsEntryBy m (word_of text) found
