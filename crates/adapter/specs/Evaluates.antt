-- Expressions that are evaluated: commands of the debugger.
use Rattle.std.specs.Prelude.{◌≡◌, ℕ, Bool, true, false, List, [], ◌∷◌, codes, length, min}
use Rattle.adapter_messages.specs.declared.body.Body.TheVariants.{Evaluated}
use Rattle.adapter_messages.specs.declared.event.EventKind.{EventKind}
use Rattle.adapter_messages.specs.declared.event.StopReason.TheVariants.{Pause}
use Rattle.adapter_messages.specs.declared.reply.Reply.{Reply}
use Rattle.debugger.specs.declared.command.Command.{Command}
use Rattle.debugger.specs.declared.command.Command.TheVariants.{Step, Event, Finish, Continue, Again, Back, Reverse, Goto, GotoWriter, Place, Function, Write, Watch, Delete, Threads, Where, Locals, Stack, Waits, Around, Object, Writer, Readers, Bytes, Way, Order, Help, Quit}
use Rattle.debugger.specs.declared.command.Line.{Line}
use Rattle.debugger.specs.declared.command.Line.TheVariants as line
use Rattle.debugger.specs.Lines.{ends}
use Rattle.debugger.specs.Replies.{Replies}
use Rattle.adapter.specs.Replies.{failure, stopped, success}
use Rattle.adapter.specs.State.{AdapterAt}

-- whether a command may lead elsewhere on the way
abbrev pub moves : Command → Bool
moves (Step thread steps) = true
moves (Event thread events) = true
moves (Finish thread) = true
moves Continue = true
moves (Again passes) = true
moves (Back steps) = true
moves Reverse = true
moves (Goto thread place) = true
moves (GotoWriter address) = true
moves (Place thread place) = false
moves (Function name n) = false
moves (Write range) = false
moves (Watch k) = false
moves Delete = false
moves Threads = false
moves (Where thread) = false
moves (Locals thread depth) = false
moves (Stack thread depth) = false
moves (Waits thread) = false
moves (Around thread n) = false
moves (Object object) = false
moves (Writer address) = false
moves (Readers address) = false
moves (Bytes range) = false
moves Way = false
moves Order = false
moves Help = false
moves Quit = false

-- the client is told that every thread stands, perhaps elsewhere than before
abbrev pub told_if : Bool → List EventKind
told_if true = stopped Pause 1 ∷ []
told_if false = []

-- a command that the debugger answers; breaks that it takes away are no function breakpoints any more
pub record Obeys (c : Command) (s : AdapterAt) (r : Reply) (u : AdapterAt) : Type 0 where
  pub text : List ℕ
  pub replies : Replies c s.debugger text u.debugger
  pub functions : u.functions ≡ min s.functions (length u.debugger.instructions)
  pub reply : r ≡ success (Evaluated text 0) (told_if (moves c))

abbrev pub quit_refused : List ℕ
quit_refused = codes "error: the session ends by disconnect"

abbrev pub no_command : List ℕ
no_command = codes "error: no such command, try help"

abbrev pub Refuses : List ℕ → AdapterAt → Reply → AdapterAt → Type 0
Refuses message s r u = (r ≡ failure message) × (u ≡ s)

abbrev pub EvaluatesCommand : Bool → Command → AdapterAt → Reply → AdapterAt → Type 0
EvaluatesCommand true c s r u = Refuses quit_refused s r u
EvaluatesCommand false c s r u = Obeys c s r u

abbrev pub EvaluatesLine : Line → AdapterAt → Reply → AdapterAt → Type 0
EvaluatesLine line.Empty s r u = Refuses no_command s r u
EvaluatesLine (line.Command c) s r u = EvaluatesCommand (ends c) c s r u
EvaluatesLine line.Unknown s r u = Refuses no_command s r u
