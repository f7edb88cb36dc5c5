-- What lines ask a debugger for.
use Rattle.std.specs.Prelude.{◌≢◌, ℕ, ◌-◌, ◌==◌, Bool, false, true, List, [], ◌∷◌, ◌++◌, All, Option, Some, None, codes, length, nat_le, replicate, if◌then◌else◌}
use Rattle.std.specs.List.{flat_map}
use Rattle.std.specs.Str.{bytes_eq}
use Rattle.std.specs.Str.Parse.{signed_digits_value, starts_with_minus}
use Rattle.text_lines.specs.Integers.{is_decimal, bits_of}
use Rattle.text_lines.specs.Parts.{words}
use Rattle.wasm_types.specs.declared.range.ByteRange.{ByteRange}
use Rattle.wasm_types.specs.declared.width.Width.{Width}
use Rattle.wasm_types.specs.declared.width.Width.TheVariants.{One, Two, Four, Eight}
use Rattle.debugger.specs.declared.command.Command.{Command}
use Rattle.debugger.specs.declared.command.Command.TheVariants.{Step, Event, Finish, Continue, Again, Back, Reverse, Goto, GotoWriter, Place, Function, Write, Watch, Delete, Threads, Where, Locals, Stack, Waits, Around, Object, Writer, Readers, Bytes, Way, Order, Help, Quit}
use Rattle.debugger.specs.declared.word.Word.{Word}
use Rattle.debugger.specs.declared.command.Line.{Line}
use Rattle.debugger.specs.declared.command.Line.TheVariants as line

-- the number from 0 to 2 ^ 32 - 1 that a word is in decimal
abbrev pub number_of : List ℕ → Option ℕ
number_of word = if starts_with_minus word then None else (if is_decimal word then bits_of 32 (signed_digits_value 10 word) else None)

-- the same up to 2 ^ 64 - 1
abbrev pub number_64_of : List ℕ → Option ℕ
number_64_of word = if starts_with_minus word then None else (if is_decimal word then bits_of 64 (signed_digits_value 10 word) else None)

-- the command of one word
abbrev pub alone : List ℕ → Option Command
alone word =
    if bytes_eq word (codes "continue") then Some Continue else (
    if bytes_eq word (codes "back") then Some (Back 1) else (
    if bytes_eq word (codes "reverse") then Some Reverse else (
    if bytes_eq word (codes "delete") then Some Delete else (
    if bytes_eq word (codes "threads") then Some Threads else (
    if bytes_eq word (codes "way") then Some Way else (
    if bytes_eq word (codes "order") then Some Order else (
    if bytes_eq word (codes "help") then Some Help else (
    if bytes_eq word (codes "quit") then Some Quit else None))))))))

-- a word of at most 64 bytes, with zeros behind it
abbrev pub word_of : List ℕ → Option Word
word_of text = if nat_le (length text) 64 then Some (record { bytes = text ++ replicate (64 - length text) 0 }) else None

-- of a thread
abbrev pub of_thread : List ℕ → ℕ → Option Command
of_thread word n =
    if bytes_eq word (codes "step") then Some (Step n 1) else (
    if bytes_eq word (codes "event") then Some (Event n 1) else (
    if bytes_eq word (codes "finish") then Some (Finish n) else (
    if bytes_eq word (codes "where") then Some (Where n) else (
    if bytes_eq word (codes "locals") then Some (Locals n 0) else (
    if bytes_eq word (codes "stack") then Some (Stack n 0) else (
    if bytes_eq word (codes "waits") then Some (Waits n) else (
    if bytes_eq word (codes "around") then Some (Around n 5) else None)))))))

-- of anything else
abbrev pub of_number : List ℕ → ℕ → Option Command
of_number word n =
    if bytes_eq word (codes "again") then Some (Again n) else (
    if bytes_eq word (codes "back") then Some (Back n) else (
    if bytes_eq word (codes "object") then Some (Object n) else (
    if bytes_eq word (codes "writer") then Some (Writer n) else (
    if bytes_eq word (codes "writer!") then Some (GotoWriter n) else (
    if bytes_eq word (codes "readers") then Some (Readers n) else None)))))

abbrev pub or_of_number : Option Command → List ℕ → ℕ → Option Command
or_of_number (Some command) word n = Some command
or_of_number None word n = of_number word n

-- the command of a word and a number
abbrev pub with_number : List ℕ → Option ℕ → Option Command
with_number word None = None
with_number word (Some n) = or_of_number (of_thread word n) word n

-- a break at an instruction of a function that is called so
abbrev pub function_break : Option Word → Option ℕ → Option Command
function_break None n = None
function_break (Some name) None = None
function_break (Some name) (Some n) = Some (Function name n)

-- the command of two words
abbrev pub with_one : List ℕ → List ℕ → Option Command
with_one word first = if bytes_eq word (codes "break") then function_break (word_of first) (Some 0) else with_number word (number_of first)

-- of a thread and a number
abbrev pub of_thread_with : List ℕ → (thread n : ℕ) → Option Command
of_thread_with word thread n =
    if bytes_eq word (codes "step") then Some (Step thread n) else (
    if bytes_eq word (codes "event") then Some (Event thread n) else (
    if bytes_eq word (codes "goto") then Some (Goto thread n) else (
    if bytes_eq word (codes "place") then Some (Place thread n) else (
    if bytes_eq word (codes "locals") then Some (Locals thread n) else (
    if bytes_eq word (codes "stack") then Some (Stack thread n) else (
    if bytes_eq word (codes "around") then Some (Around thread n) else None))))))

-- the width of so many bytes
abbrev pub width_of_length : ℕ → Option Width
width_of_length len = if len == 1 then Some One else (if len == 2 then Some Two else (if len == 4 then Some Four else (if len == 8 then Some Eight else None)))

-- a break at the changes of a number that stands there, or of whether it is this one
abbrev pub watch_at : ℕ → Option Width → Option ℕ → Option Command
watch_at address None value = None
watch_at address (Some width) value = Some (Watch (record { address = address; width = width; value = value }))

abbrev pub watch_of : ByteRange → Option ℕ → Option Command
watch_of range value = watch_at range.from (width_of_length range.len) value

-- of a range of bytes
abbrev pub of_range : List ℕ → ByteRange → Option Command
of_range word range =
    if bytes_eq word (codes "write") then Some (Write range) else (
    if bytes_eq word (codes "bytes") then Some (Bytes range) else (
    if bytes_eq word (codes "watch") then watch_of range None else None))

abbrev pub or_of_range : Option Command → List ℕ → ByteRange → Option Command
or_of_range (Some command) word range = Some command
or_of_range None word range = of_range word range

-- the command of a word and two numbers
abbrev pub with_numbers : List ℕ → Option ℕ → Option ℕ → Option Command
with_numbers word None second = None
with_numbers word (Some n) None = None
with_numbers word (Some n) (Some k) = or_of_range (of_thread_with word n k) word (record { from = n; len = k })

-- the command of three words
abbrev pub with_two : List ℕ → List ℕ → List ℕ → Option Command
with_two word first second =
    if bytes_eq word (codes "break") then function_break (word_of first) (number_of second) else with_numbers word (number_of first) (number_of second)

-- the command of four words
abbrev pub watch_with : (from len value : Option ℕ) → Option Command
watch_with None len value = None
watch_with (Some from) None value = None
watch_with (Some from) (Some len) None = None
watch_with (Some from) (Some len) (Some n) = watch_of (record { from = from; len = len }) (Some n)

abbrev pub with_three : (word first second third : List ℕ) → Option Command
with_three word first second third = if bytes_eq word (codes "watch") then watch_with (number_of first) (number_of second) (number_64_of third) else None

-- the command of these words
abbrev pub command_of : List (List ℕ) → Option Command
command_of [] = None
command_of (word ∷ []) = alone word
command_of (word ∷ first ∷ []) = with_one word first
command_of (word ∷ first ∷ second ∷ []) = with_two word first second
command_of (word ∷ first ∷ second ∷ third ∷ []) = with_three word first second third
command_of (word ∷ first ∷ second ∷ third ∷ more ∷ others) = None

abbrev pub line_by : Option Command → Line
line_by None = line.Unknown
line_by (Some command) = line.Command command

-- what a line without its end is; one of more than 1,024 bytes is no command
abbrev pub line_of : List ℕ → Line
line_of [] = line.Empty
line_of (b ∷ bs) = if nat_le (length (b ∷ bs)) 1024 then line_by (command_of (words (b ∷ bs))) else line.Unknown

-- whether a line asks for the end
abbrev pub ends : Command → Bool
ends (Step thread steps) = false
ends (Event thread events) = false
ends (Finish thread) = false
ends Continue = false
ends (Again passes) = false
ends (Back steps) = false
ends Reverse = false
ends (Goto thread place) = false
ends (GotoWriter address) = false
ends (Place thread place) = false
ends (Function name instruction) = false
ends (Write range) = false
ends (Watch k) = false
ends Delete = false
ends Threads = false
ends (Where thread) = false
ends (Locals thread depth) = false
ends (Stack thread depth) = false
ends (Waits thread) = false
ends (Around thread events) = false
ends (Object object) = false
ends (Writer address) = false
ends (Readers address) = false
ends (Bytes range) = false
ends Way = false
ends Order = false
ends Help = false
ends Quit = true

abbrev pub is_end : Line → Bool
is_end line.Empty = false
is_end (line.Command command) = ends command
is_end line.Unknown = false

-- no byte is a line end
abbrev pub HasNoEnd : List ℕ → Type 0
HasNoEnd text = All (λ b. b ≢ 10) text

-- lines with their ends
abbrev pub text_of : List (List ℕ) → List ℕ
text_of lines = flat_map (λ line. line ++ 10 ∷ []) lines
