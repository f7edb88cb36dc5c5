-- What a debugger of a replay answers to its commands.
use Rattle.std.specs.Prelude.{◌≡◌, ◌⊎◌, ℕ, zero, suc, ◌+◌, ◌-◌, ◌/◌, ◌<◌, ◌≤◌, Bool, true, false, List, [], ◌∷◌, ◌++◌, Option, Some, None, Ok, codes, length, map, nat_lt, slice_get, if◌then◌else◌}
use Rattle.std.specs.List.{flat_map}
use Rattle.std.specs.Fmt.{decimal}
use Rattle.wasm_types.specs.declared.range.ByteRange.{ByteRange}
use Rattle.wasm_types.specs.declared.value.Value.{Value}
use Rattle.wasm_types.specs.declared.modules.Module.{Module}
use Rattle.wasm_types.specs.Memories.{block_power}
use Rattle.rw_objects.specs.declared.count.Count.{Count}
use Rattle.wasm_world.specs.Objects.{block_of, block_object}
use Rattle.wasm_world.specs.SharedMemory.{shared_memory}
use Rattle.event_core.specs.declared.pick.Pick.{Pick}
use Rattle.event_core.specs.Threads.{ThreadAt, all_steps}
use Rattle.pick_schedule.specs.Schedule.{schedule_of}
use Rattle.wasm_world.specs.CodePlace.{CodePlace}
use Rattle.wasm_world.specs.Standing.{locals_at, operands_at}
use Rattle.wasm_world.specs.Opening.{WasmWorld}
use Rattle.wasm_world.specs.Plans.{PlanValue}
use Rattle.wasm_world.specs.ThreadCode.{thread_code, ThreadAt as CodeThread}
use Rattle.replica.specs.declared.log.Log.{Log as GatheredLog}
use Rattle.replica.specs.Log.{key_of}
use Rattle.replica.specs.declared.diverging.EventAt.{EventAt}
use Rattle.replay_gate.specs.declared.answers.ReplayFault.{ReplayFault}
use Rattle.replay_gate.specs.declared.answers.ReplayFault.TheVariants as fault
use Rattle.replay_gate.specs.Shows.{ShowsRecorded}
use Rattle.replay_gate.specs.Turned.{IsRightRefusal, IsFreeRefusal}
use Rattle.replay_gate.specs.declared.breaks.Break.{Break}
use Rattle.replay_gate.specs.declared.breaks.Break.TheVariants as break
use Rattle.replay_gate.specs.declared.breaks.Stopped.{Stopped}
use Rattle.replay_gate.specs.declared.breaks.Stopped.TheVariants as stopped
use Rattle.replay_gate.specs.Stops.{StopsRight, StopsFree}
use Rattle.replay_session.specs.declared.legs.Leg.{Leg}
use Rattle.replay_session.specs.declared.legs.Leg.TheVariants as leg
use Rattle.replay_session.specs.declared.gone.Ceased.{Ceased}
use Rattle.replay_session.specs.declared.gone.Ceased.TheVariants as ceased
use Rattle.replay_session.specs.declared.gone.Gone.{Gone}
use Rattle.replay_session.specs.declared.paused.Met.{Met}
use Rattle.replay_session.specs.declared.paused.Met.TheVariants as met
use Rattle.replay_session.specs.declared.paused.Paused.{Paused}
use Rattle.replay_session.specs.declared.paused.Paused.TheVariants as paused
use Rattle.replay_session.specs.Events.{EventsCease, events_on}
use Rattle.replay_session.specs.Gone.{CeasesSo, IfFault}
use Rattle.replay_session.specs.Legs.{steps_of_way, with_thread, with_rounds, without_last}
use Rattle.replay_session.specs.Pauses.{PausesAt, PausesRight, PausesFree}
use Rattle.replay_session.specs.Picks.{PicksLead}
use Rattle.replay_session.specs.Reaching.{GoesTo}
use Rattle.replay_session.specs.Reverse.{GoesBackUntil}
use Rattle.replay_session.specs.Until.{UntilCeases}
use Rattle.replay_session.specs.Ways.{ThreadLeads, WayLeads}
use Rattle.wasm_replay.specs.Replays.{Opens, gathered_log}
use Rattle.debug_views.specs.Blocks.{AreHolding}
use Rattle.debug_views.specs.declared.blocks.BlockRange.{BlockRange}
use Rattle.debug_views.specs.Standing.{PlaceForm, note_of}
use Rattle.debug_views.specs.Text.{thread_text, objects_text, rows_text, stop_words}
use Rattle.debug_views.specs.Threads.{view_of_thread}
use Rattle.debug_views.specs.Values.{memory_bytes, bytes_of_range, count_of_object}
use Rattle.debug_views.specs.Writes.{IsWriteOfRange}
use Rattle.debugger.specs.Answers.{memory_line}
use Rattle.debugger.specs.Around.{around_text}
use Rattle.debugger.specs.CodeTests.{depth_in, is_behind, is_out}
use Rattle.debugger.specs.Functions.{IsMeant, IsShort, NoneCalled}
use Rattle.debugger.specs.Locals.{locals_text, operands_text}
use Rattle.debugger.specs.Touched.{events_of, object_text, sought_line, IsFirstEvent, NoEvent}
use Rattle.debugger.specs.Waits.{waits_text}
use Rattle.debugger.specs.Watches.{seen_now}
use Rattle.debugger.specs.declared.watching.WatchedNumber.{WatchedNumber}
use Rattle.debugger.specs.declared.word.Word.{Word}
use Rattle.debugger.specs.declared.command.Command.{Command}
use Rattle.debugger.specs.declared.command.Command.TheVariants.{Step, Event, Finish, Continue, Again, Back, Reverse, Goto, GotoWriter, Place, Function, Write, Watch, Delete, Threads, Where, Locals, Stack, Waits, Around, Object, Writer, Readers, Bytes, Way, Order, Help, Quit}
use Rattle.debugger.specs.declared.touched.Events.TheVariants.{Made}
use Rattle.debugger.specs.declared.touched.Role.{Role}
use Rattle.debugger.specs.declared.touched.Role.TheVariants as role
use Rattle.debugger.specs.declared.touched.Sought.{Sought}

-- where a debugger stands: the module, the log, how places in code are written, blocks of 2 ^ power bytes and the
-- opening world, which stay; the way that it has gone, the world to which that leads, and its breaks, those at
-- instructions and numbers that are watched apart
pub record DebugAt : Type 0 where
  pub code : Module
  pub log : GatheredLog
  pub form : PlaceForm
  pub power : ℕ
  pub opening : WasmWorld
  pub legs : List Leg
  pub world : WasmWorld
  pub breaks : List Break
  pub instructions : List CodePlace
  pub watches : List WatchedNumber

-- before the first command
pub record IsOpening (m : Module) (plan : PlanValue) (log : GatheredLog) (s : DebugAt) : Type 0 where
  pub code_is : s.code ≡ m
  pub log_is : s.log ≡ log
  pub source : s.form.source ≡ m.source
  pub offsets : s.form.offsets ≡ true
  pub power : s.power ≡ block_power (key_of log).profile
  pub opens : Opens m plan log s.opening
  pub world : s.world ≡ s.opening
  pub legs : s.legs ≡ []
  pub breaks : s.breaks ≡ []
  pub instructions : s.instructions ≡ []
  pub watches : s.watches ≡ []

-- elsewhere on the way; with other breaks
abbrev pub moved : DebugAt → List Leg → WasmWorld → DebugAt
moved s legs world = record s { legs = legs; world = world }

abbrev pub with_breaks : DebugAt → List Break → DebugAt
with_breaks s breaks = record s { breaks = breaks }

abbrev pub with_instructions : DebugAt → List CodePlace → DebugAt
with_instructions s places = record s { instructions = places }

abbrev pub with_watches : DebugAt → List WatchedNumber → DebugAt
with_watches s watches = record s { watches = watches }

abbrev pub without_breaks : DebugAt → DebugAt
without_breaks s = record s { breaks = []; instructions = []; watches = [] }

-- how many breaks there are, but for numbers that are watched
abbrev pub break_count : DebugAt → ℕ
break_count s = length s.breaks + length s.instructions

-- what holds behind steps from here on: a thread stands at one of the instructions, or a number that is watched is other
-- than here
abbrev pub is_behind_from : DebugAt → WasmWorld → ℕ → Option ℕ
is_behind_from s w t = is_behind s.instructions (map (seen_now s.world) s.watches) w t

-- threads that are numbered from `thread` on: how each stands, and in which functions
abbrev pub thread_line : PlaceForm → ℕ → ThreadAt CodeThread → List ℕ
thread_line form thread t = thread_text thread (view_of_thread thread_code t) (note_of form t.state)

abbrev pub thread_lines : PlaceForm → ℕ → List (ThreadAt CodeThread) → List ℕ
thread_lines form thread [] = []
thread_lines form thread (t ∷ ts) = thread_line form thread t ++ thread_lines form (thread + 1) ts

abbrev pub standing_text : PlaceForm → WasmWorld → List ℕ
standing_text form w = thread_lines form 0 w.threads

-- a way, leg by leg
abbrev pub leg_line : Leg → List ℕ
leg_line (leg.Thread thread steps) = codes "thread " ++ (decimal thread ++ (codes " steps " ++ (decimal steps ++ 10 ∷ [])))
leg_line (leg.Rounds steps) = codes "rounds steps " ++ (decimal steps ++ 10 ∷ [])

abbrev pub way_text : List Leg → List ℕ
way_text legs = flat_map leg_line legs

-- the range's blocks, and its bytes
abbrev pub bytes_text : WasmWorld → BlockRange → ByteRange → List ℕ
bytes_text w blocks r = objects_text w.memory.counts blocks.first (blocks.past - blocks.first) ++ rows_text r.from (bytes_of_range (memory_bytes shared_memory w) r.from r.len) ((length (bytes_of_range (memory_bytes shared_memory w) r.from r.len) + 15) / 16)

abbrev pub fault_words : ReplayFault → List ℕ
fault_words (fault.Clash thread place) = codes " clash\n"
fault_words (fault.Missing thread place) = codes " missing\n"
fault_words fault.Shut = codes " shut\n"
fault_words (fault.Diverged thread place) = codes " diverged\n"
fault_words fault.NoMemory = codes " memory\n"
fault_words fault.Stuck = codes " stuck\n"

abbrev pub ceased_words : Ceased → List ℕ
ceased_words ceased.All = codes "\n"
ceased_words ceased.Done = codes " done\n"
ceased_words (ceased.Fault f) = fault_words f

-- how many steps of a thread were made, and why no more
abbrev pub gone_line : Gone → List ℕ
gone_line gone = codes "stepped " ++ (decimal gone.steps ++ ceased_words gone.ceased)

-- where all threads stopped
abbrev pub stopped_line : Stopped → List Break → List ℕ
stopped_line (stopped.Break index) breaks = stop_words (stopped.Break index) breaks ++ 10 ∷ []
stopped_line stopped.Finished breaks = codes "finished\n"
stopped_line stopped.Stuck breaks = codes "stuck\n"
stopped_line (stopped.Fault f) breaks = codes "stopped" ++ fault_words f

abbrev pub test_words : (index n : ℕ) → List ℕ
test_words index n = if nat_lt index n then codes "stopped instruction\n" else codes "stopped watch\n"

-- the same where they may have stopped at a break at one of so many instructions, or at a number that is watched
abbrev pub paused_line : Paused → List Break → ℕ → List ℕ
paused_line (paused.Met (met.Break index)) breaks n = stopped_line (stopped.Break index) breaks
paused_line (paused.Met (met.Test index)) breaks n = test_words index n
paused_line paused.Finished breaks n = stopped_line stopped.Finished breaks
paused_line paused.Stuck breaks n = stopped_line stopped.Stuck breaks
paused_line (paused.Fault f) breaks n = stopped_line (stopped.Fault f) breaks

-- at a break of the list, or at none
abbrev pub IsPauseOf : Paused → List Break → Type 0
IsPauseOf (paused.Met (met.Break index)) breaks = index < length breaks
IsPauseOf (paused.Met (met.Test index)) breaks = Unit {0}
IsPauseOf paused.Finished breaks = Unit {0}
IsPauseOf paused.Stuck breaks = Unit {0}
IsPauseOf (paused.Fault f) breaks = Unit {0}

-- whether a break stopped them
abbrev pub is_met : Paused → Bool
is_met (paused.Met m) = true
is_met paused.Finished = false
is_met paused.Stuck = false
is_met (paused.Fault f) = false

-- a stop at a break of the list, or at none
abbrev pub IsStopOf : Stopped → List Break → Type 0
IsStopOf (stopped.Break index) breaks = index < length breaks
IsStopOf stopped.Finished breaks = Unit {0}
IsStopOf stopped.Stuck breaks = Unit {0}
IsStopOf (stopped.Fault f) breaks = Unit {0}

abbrev pub back_line : List ℕ
back_line = codes "back\n"

-- at which break a move back ends
abbrev pub reverse_line : Option Met → List Break → ℕ → List ℕ
reverse_line (Some m) breaks n = paused_line (paused.Met m) breaks n
reverse_line None breaks n = codes "no break before\n"

-- a break by its number, from 0
abbrev pub break_line : ℕ → List ℕ
break_line number = codes "break " ++ (decimal number ++ 10 ∷ [])

-- a number that is watched, by its number, from 0
abbrev pub watch_line : ℕ → List ℕ
watch_line number = codes "watch " ++ (decimal number ++ 10 ∷ [])

abbrev pub no_breaks : List ℕ
no_breaks = codes "no breaks\n"

abbrev pub no_function : List ℕ
no_function = codes "error: no such function\n"

abbrev pub no_instruction : List ℕ
no_instruction = codes "error: no such instruction\n"

abbrev pub no_object : List ℕ
no_object = codes "error: no such object\n"

abbrev pub nobody_line : List ℕ
nobody_line = codes "error: nobody wrote it\n"

abbrev pub no_bytes : List ℕ
no_bytes = codes "error: the memory ends before\n"

abbrev pub no_thread : List ℕ
no_thread = codes "error: no such thread\n"

abbrev pub not_in_function : List ℕ
not_in_function = codes "error: the thread is in no such function\n"

-- that a place was not reached, and where all threads stopped
abbrev pub unreached_line : Stopped → List Break → List ℕ
unreached_line stopped breaks = codes "error: no such place: " ++ stopped_line stopped breaks

-- these lines, or that memory could not be had for them
abbrev pub IsBody : List ℕ → List ℕ → Type 0
IsBody lines body = (body ≡ lines) ⊎ (body ≡ memory_line)

-- a line, and how threads stand behind it
pub record IsMove (line : List ℕ) (form : PlaceForm) (w : WasmWorld) (text : List ℕ) : Type 0 where
  pub body : List ℕ
  pub is_body : IsBody (standing_text form w) body
  pub is : text ≡ line ++ body

-- the way leads there from the opening world; on a log below that of a run, its values and threads are recorded ones
-- alone
pub record IsLed (s : DebugAt) : Type 0 where
  pub leads : ∥ WayLeads shared_memory thread_code (gathered_log s.log) s.legs s.opening s.world ∥₁
  pub recorded : ShowsRecorded shared_memory thread_code (gathered_log s.log) s.opening s.world

-- a move to state u, of which the text says what the line says
pub record Moves (s : DebugAt) (line text : List ℕ) (u : DebugAt) : Type 0 where
  pub same : u ≡ moved s u.legs u.world
  pub led : IsLed u
  pub is : IsMove line s.form u.world text

-- steps of a thread, at most so many: on a log below that of a run nothing clashes and no thread diverges, and on the
-- whole log of a run a shut gate alone stops them
pub record GoesSteps (s : DebugAt) (thread most : ℕ) (gone : Gone) (u : DebugAt) : Type 0 where
  pub few : gone.steps ≤ most
  pub leads : ThreadLeads shared_memory thread_code (gathered_log s.log) thread gone.steps s.world u.world
  pub ceased : CeasesSo shared_memory thread_code (gathered_log s.log) thread gone.steps most u.world gone.ceased
  pub right : IfFault gone.ceased (IsRightRefusal shared_memory thread_code (gathered_log s.log) s.opening)
  pub free : IfFault gone.ceased (IsFreeRefusal shared_memory thread_code (gathered_log s.log) s.opening)
  pub legs : u.legs ≡ with_thread s.legs thread gone.steps
  pub same : u ≡ moved s u.legs u.world

pub record Steps (s : DebugAt) (thread most : ℕ) (text : List ℕ) (u : DebugAt) : Type 0 where
  pub gone : Gone
  pub goes : GoesSteps s thread most gone u
  pub moves : Moves s (gone_line gone) text u

-- steps of a thread, up to behind so many events of it
pub record MakesEvents (s : DebugAt) (thread most : ℕ) (text : List ℕ) (u : DebugAt) : Type 0 where
  pub gone : Gone
  pub few : events_on shared_memory thread_code (gathered_log s.log) thread s.world gone.steps ≤ most
  pub leads : ThreadLeads shared_memory thread_code (gathered_log s.log) thread gone.steps s.world u.world
  pub ceased : EventsCease shared_memory thread_code (gathered_log s.log) thread gone.steps most s.world u.world gone.ceased
  pub right : IfFault gone.ceased (IsRightRefusal shared_memory thread_code (gathered_log s.log) s.opening)
  pub free : IfFault gone.ceased (IsFreeRefusal shared_memory thread_code (gathered_log s.log) s.opening)
  pub legs : u.legs ≡ with_thread s.legs thread gone.steps
  pub moves : Moves s (gone_line gone) text u

-- steps of a thread, up to behind the first after which it is in fewer functions
pub record GoesOut (s : DebugAt) (thread : ℕ) (gone : Gone) (u : DebugAt) : Type 0 where
  pub leads : ThreadLeads shared_memory thread_code (gathered_log s.log) thread gone.steps s.world u.world
  pub ceased : UntilCeases shared_memory thread_code (gathered_log s.log) (is_out (depth_in s.world thread)) thread gone.steps s.world u.world gone.ceased
  pub right : IfFault gone.ceased (IsRightRefusal shared_memory thread_code (gathered_log s.log) s.opening)
  pub free : IfFault gone.ceased (IsFreeRefusal shared_memory thread_code (gathered_log s.log) s.opening)
  pub legs : u.legs ≡ with_thread s.legs thread gone.steps
  pub same : u ≡ moved s u.legs u.world

pub record Finishes (s : DebugAt) (thread : ℕ) (text : List ℕ) (u : DebugAt) : Type 0 where
  pub gone : Gone
  pub goes : GoesOut s thread gone u
  pub moves : Moves s (gone_line gone) text u

-- turns of all threads in rounds from state s to state u, up to a break: on a log below that of a run no thread
-- diverges, and on the whole log of a run they are never stuck
pub record RunsOn (s u : DebugAt) (how : Paused) : Type 0 where
  pub pauses : PausesAt shared_memory thread_code (gathered_log s.log) s.breaks (is_behind_from s) s.world u.world how
  pub right : PausesRight shared_memory thread_code (gathered_log s.log) s.opening how
  pub free : PausesFree shared_memory thread_code (gathered_log s.log) s.opening how
  pub legs : u.legs ≡ with_rounds s.legs (all_steps thread_code u.world.threads - all_steps thread_code s.world.threads)
  pub same : u ≡ moved s u.legs u.world

pub record Continues (s : DebugAt) (text : List ℕ) (u : DebugAt) : Type 0 where
  pub how : Paused
  pub runs : RunsOn s u how
  pub moves : Moves s (paused_line how s.breaks (length s.instructions)) text u

-- n breaks stopped the threads on the way from state s to state x
abbrev pub Passed : ℕ → DebugAt → DebugAt → Type 0
Passed zero s x = x ≡ s
Passed (suc n) s x = (y : DebugAt) × (m : Met) × Passed n s y × RunsOn y x (paused.Met m)

-- from state s past n breaks: fewer stopped the threads only where something else did behind them; where memory for the
-- way is wanting they stay at the last
pub record RunsPast (s : DebugAt) (n : ℕ) (u : DebugAt) (how : Paused) : Type 0 where
  pub passed : ℕ
  pub few : passed ≤ n
  pub last : DebugAt
  pub way : Passed passed s last
  pub runs : RunsOn last u how ⊎ ((u ≡ last) × (how ≡ paused.Fault fault.NoMemory))
  pub all : is_met how ≡ true → passed ≡ n

pub record Passes (s : DebugAt) (n : ℕ) (text : List ℕ) (u : DebugAt) : Type 0 where
  pub how : Paused
  pub runs : RunsPast s n u how
  pub moves : Moves s (paused_line how s.breaks (length s.instructions)) text u

-- the way without its last steps
pub record GoesBackBy (s : DebugAt) (steps : ℕ) (u : DebugAt) : Type 0 where
  pub legs : u.legs ≡ without_last steps s.legs
  pub same : u ≡ moved s u.legs u.world
  pub led : IsLed u

pub record GoesBack (s : DebugAt) (steps : ℕ) (text : List ℕ) (u : DebugAt) : Type 0 where
  pub goes : GoesBackBy s steps u
  pub moves : Moves s back_line text u

-- back to behind the last step, before the one that led here, behind which a break holds
pub record ReversesTo (s u : DebugAt) (found : Option Met) : Type 0 where
  pub back : GoesBackUntil shared_memory thread_code (gathered_log s.log) s.breaks (is_behind_from s) s.opening s.legs u.legs found
  pub same : u ≡ moved s u.legs u.world
  pub led : IsLed u

pub record Reverses (s : DebugAt) (text : List ℕ) (u : DebugAt) : Type 0 where
  pub found : Option Met
  pub goes : ReversesTo s u found
  pub moves : Moves s (reverse_line found s.breaks (length s.instructions)) text u

-- the move to a place, by the break there; or that the replay does not come there, and nothing changed
abbrev pub IsToldOf : Stopped → List Break → DebugAt → List ℕ → DebugAt → Type 0
IsToldOf (stopped.Break index) breaks s text u = Moves s (stopped_line (stopped.Break index) breaks) text u
IsToldOf stopped.Finished breaks s text u = (text ≡ unreached_line stopped.Finished breaks) × (u ≡ s)
IsToldOf stopped.Stuck breaks s text u = (text ≡ unreached_line stopped.Stuck breaks) × (u ≡ s)
IsToldOf (stopped.Fault f) breaks s text u = (text ≡ unreached_line (stopped.Fault f) breaks) × (u ≡ s)

-- from the opening world on turns of all threads in rounds, up to behind the event of a thread that has then made so
-- many
pub record Reaches (s : DebugAt) (thread place : ℕ) (text : List ℕ) (u : DebugAt) : Type 0 where
  pub stopped : Stopped
  pub goes : GoesTo shared_memory thread_code (gathered_log s.log) s.opening (break.Place thread place ∷ []) s.world u.world s.legs u.legs stopped
  pub right : StopsRight shared_memory thread_code (gathered_log s.log) s.opening stopped
  pub free : StopsFree shared_memory thread_code (gathered_log s.log) s.opening stopped
  pub told : IsToldOf stopped (break.Place thread place ∷ []) s text u

-- one more break
pub record Breaks (s : DebugAt) (b : Break) (text : List ℕ) (u : DebugAt) : Type 0 where
  pub is : text ≡ break_line (break_count s)
  pub more : u ≡ with_breaks s (s.breaks ++ b ∷ [])

-- one more break, at an instruction
pub record BreaksAt (s : DebugAt) (place : CodePlace) (text : List ℕ) (u : DebugAt) : Type 0 where
  pub is : text ≡ break_line (break_count s)
  pub more : u ≡ with_instructions s (s.instructions ++ place ∷ [])

-- one more number that is watched
pub record Watches (s : DebugAt) (k : WatchedNumber) (text : List ℕ) (u : DebugAt) : Type 0 where
  pub is : text ≡ watch_line (length s.watches)
  pub more : u ≡ with_watches s (s.watches ++ k ∷ [])

-- that of the first function that is called so
abbrev pub BreaksIn : DebugAt → Word → ℕ → List ℕ → DebugAt → Type 0
BreaksIn s name n text u = (place : CodePlace) × IsMeant s.code name n place × BreaksAt s place text u

-- or there is none, and nothing changed
abbrev pub IsNoInstruction : DebugAt → Word → ℕ → List ℕ → DebugAt → Type 0
IsNoInstruction s name n text u =
    ((NoneCalled s.code.source name (length s.code.functions) × (text ≡ no_function)) ⊎ (IsShort s.code name n × (text ≡ no_instruction))) × (u ≡ s)

-- the range is shown, as far as memory can be had; or it passes the memory's end
pub record AreShown (s : DebugAt) (r : ByteRange) (text : List ℕ) : Type 0 where
  pub within : r.from + r.len ≤ length (memory_bytes shared_memory s.world)
  pub is : ((blocks : BlockRange) × AreHolding s.power r.from r.len blocks × (text ≡ bytes_text s.world blocks r)) ⊎ (text ≡ memory_line)

pub record ArePast (s : DebugAt) (r : ByteRange) (text : List ℕ) : Type 0 where
  pub past : length (memory_bytes shared_memory s.world) < r.from + r.len
  pub is : text ≡ no_bytes

-- how a thread stands, if there is one of that number
abbrev pub IsWhere : PlaceForm → ℕ → Option (ThreadAt CodeThread) → List ℕ → Type 0
IsWhere form thread None text = text ≡ no_thread
IsWhere form thread (Some t) text = IsBody (thread_line form thread t) text

-- the locals of a function that a thread is in, if it is in as many; its operands
abbrev pub IsLocalsOf : Option (List Value) → List ℕ → Type 0
IsLocalsOf None text = text ≡ not_in_function
IsLocalsOf (Some values) text = IsBody (locals_text values) text

abbrev pub IsLocals : ℕ → Option (ThreadAt CodeThread) → List ℕ → Type 0
IsLocals depth None text = text ≡ no_thread
IsLocals depth (Some t) text = IsLocalsOf (locals_at t.state.state depth) text

abbrev pub IsOperandsOf : Option (List ℕ) → List ℕ → Type 0
IsOperandsOf None text = text ≡ not_in_function
IsOperandsOf (Some words) text = IsBody (operands_text words) text

abbrev pub IsOperands : ℕ → Option (ThreadAt CodeThread) → List ℕ → Type 0
IsOperands depth None text = text ≡ no_thread
IsOperands depth (Some t) text = IsOperandsOf (operands_at t.state.state depth) text

-- which events ahead a thread's next event waits for, if there is a thread of that number
abbrev pub AreAwaited : GatheredLog → WasmWorld → ℕ → Option (ThreadAt CodeThread) → List ℕ → Type 0
AreAwaited log w thread None text = text ≡ no_thread
AreAwaited log w thread (Some t) text = IsBody (waits_text (gathered_log log) w.threads w.memory.counts thread t.places) text

-- what the log has of the last n events of a thread, and of its next, if there is one of that number
abbrev pub IsAround : GatheredLog → ℕ → ℕ → Option (ThreadAt CodeThread) → List ℕ → Type 0
IsAround log thread n None text = text ≡ no_thread
IsAround log thread n (Some t) text = IsBody (around_text (gathered_log log) thread t.places n) text

-- the version of the block that holds a byte
abbrev pub sought_at : DebugAt → Role → ℕ → Sought
sought_at s r address = record {
  role = r;
  object = block_object (block_of s.power address);
  version = (s.world.memory.counts (block_object (block_of s.power address))).version;
}

-- which of the events made so far wrote it, or read it
pub record AreTold (s : DebugAt) (r : Role) (address : ℕ) (text : List ℕ) : Type 0 where
  pub within : address + 1 ≤ length (memory_bytes shared_memory s.world)
  pub is : IsBody (sought_line (sought_at s r address) (events_of (gathered_log s.log) (sought_at s r address) Made 0 s.world.threads)) text

-- what an object is, if there is one of that number
abbrev pub IsObject : DebugAt → ℕ → Option Count → List ℕ → Type 0
IsObject s object None text = text ≡ no_object
IsObject s object (Some c) text = IsBody (object_text (gathered_log s.log) s.power s.world.threads object c) text

abbrev pub counted : DebugAt → ℕ → Option Count
counted s object = count_of_object (shared_memory.objects s.world.memory.fixed) s.world.memory.counts object

-- a byte alone
abbrev pub byte_at : ℕ → ByteRange
byte_at address = record { from = address; len = 1 }

-- memory could not be had, and nothing changed
abbrev pub Wants : DebugAt → List ℕ → DebugAt → Type 0
Wants s text u = (text ≡ memory_line) × (u ≡ s)

-- to behind the event that wrote a byte's block last; or nobody did, and nothing changed
pub record GoesToWriter (s : DebugAt) (address : ℕ) (text : List ℕ) (u : DebugAt) : Type 0 where
  pub within : address + 1 ≤ length (memory_bytes shared_memory s.world)
  pub goes : ((e : EventAt) × IsFirstEvent (gathered_log s.log) (sought_at s role.Writer address) s.world.threads e × (Reaches s e.thread (e.place + 1) text u ⊎ Wants s text u))
      ⊎ (NoEvent (gathered_log s.log) (sought_at s role.Writer address) s.world.threads × (text ≡ nobody_line) × (u ≡ s))

-- the lines of a schedule by which a run that the log lets pass comes here
pub record IsOrder (s : DebugAt) (text : List ℕ) : Type 0 where
  pub picks : List Pick
  pub lines : schedule_of text ≡ Ok picks
  pub comes : ∥ PicksLead shared_memory thread_code (gathered_log s.log) (steps_of_way s.legs) picks s.opening s.world ∥₁

-- a schedule has no more picks
pub record IsTooLong (s : DebugAt) (text : List ℕ) : Type 0 where
  pub many : 1000000 < steps_of_way s.legs
  pub is : text ≡ codes "error: more than 1000000 steps\n"

abbrev pub Replies : Command → DebugAt → List ℕ → DebugAt → Type 0
Replies (Step thread steps) s text u = Steps s thread steps text u
Replies (Event thread events) s text u = MakesEvents s thread events text u
Replies (Finish thread) s text u = Finishes s thread text u
Replies Continue s text u = Continues s text u ⊎ Wants s text u
Replies (Again passes) s text u = Passes s passes text u
Replies (Back steps) s text u = GoesBack s steps text u ⊎ Wants s text u
Replies Reverse s text u = Reverses s text u ⊎ Wants s text u
Replies (Goto thread place) s text u = Reaches s thread place text u ⊎ Wants s text u
Replies (GotoWriter address) s text u = GoesToWriter s address text u ⊎ (ArePast s (byte_at address) text × (u ≡ s))
Replies (Function name n) s text u = BreaksIn s name n text u ⊎ (IsNoInstruction s name n text u ⊎ Wants s text u)
Replies (Place thread place) s text u = Breaks s (break.Place thread place) text u ⊎ Wants s text u
Replies (Write range) s text u = ((b : Break) × IsWriteOfRange s.power range.from range.len b × Breaks s b text u) ⊎ Wants s text u
Replies (Watch k) s text u = Watches s k text u ⊎ Wants s text u
Replies Delete s text u = (text ≡ no_breaks) × (u ≡ without_breaks s)
Replies Threads s text u = IsBody (standing_text s.form s.world) text × (u ≡ s)
Replies (Where thread) s text u = IsWhere s.form thread (slice_get s.world.threads thread) text × (u ≡ s)
Replies (Locals thread depth) s text u = IsLocals depth (slice_get s.world.threads thread) text × (u ≡ s)
Replies (Stack thread depth) s text u = IsOperands depth (slice_get s.world.threads thread) text × (u ≡ s)
Replies (Waits thread) s text u = AreAwaited s.log s.world thread (slice_get s.world.threads thread) text × (u ≡ s)
Replies (Around thread n) s text u = IsAround s.log thread n (slice_get s.world.threads thread) text × (u ≡ s)
Replies (Object object) s text u = IsObject s object (counted s object) text × (u ≡ s)
Replies (Writer address) s text u = (AreTold s role.Writer address text ⊎ ArePast s (byte_at address) text) × (u ≡ s)
Replies (Readers address) s text u = (AreTold s role.Reader address text ⊎ ArePast s (byte_at address) text) × (u ≡ s)
Replies (Bytes range) s text u = (AreShown s range text ⊎ ArePast s range text) × (u ≡ s)
Replies Way s text u = IsBody (way_text s.legs) text × (u ≡ s)
Replies Order s text u = (IsOrder s text ⊎ (IsTooLong s text ⊎ (text ≡ memory_line))) × (u ≡ s)
Replies Help s text u = u ≡ s
Replies Quit s text u = ⊥
