-- What an explanation says for certain: where the cause of the refusal stands, and of a piece line of another run what
-- differs in its key. Its other words are open.
use Rattle.std.specs.Prelude.{◌≡◌, ◌++◌, ℕ, List, codes, Option, Some, None}
use Rattle.std.specs.Borrow.{Bor}
use Rattle.command_words.specs.declared.requests.Request.{Request}
use Rattle.command_words.specs.declared.requests.Request.TheVariants.{Gather, Check, Record, Hunt, Replay, View, Trace, Debug, Adapter}
use Rattle.command_words.specs.declared.requests.RecordOrder.{RecordOrder}
use Rattle.command_words.specs.declared.requests.RecordOrder.TheVariants as order
use Rattle.binary_decoder.specs.declared.fault.DecodeFault.{DecodeFault}
use Rattle.binary_decoder.specs.declared.fault.DecodeFault.TheVariants as decoding
use Rattle.validator.specs.declared.fault.ValidFault.{ValidFault}
use Rattle.validator.specs.declared.fault.ValidFault.TheVariants as typing
use Rattle.thread_plan.specs.declared.fault.PlanFault.{PlanFault}
use Rattle.thread_plan.specs.declared.fault.PlanFault.TheVariants as planning
use Rattle.pick_schedule.specs.declared.fault.ScheduleFault.{ScheduleFault}
use Rattle.pick_schedule.specs.declared.fault.ScheduleFault.TheVariants as scheduling
use Rattle.replica.specs.declared.fault.GatherFault.{GatherFault}
use Rattle.replica.specs.declared.fault.GatherFault.TheVariants as gathering
use Rattle.replay_gate.specs.declared.answers.ReplayFault.{ReplayFault}
use Rattle.replay_gate.specs.declared.answers.ReplayFault.TheVariants as replaying
use Rattle.wasm_replay.specs.declared.replaying.WasmReplayFault.{WasmReplayFault}
use Rattle.wasm_replay.specs.declared.replaying.WasmReplayFault.TheVariants as refusal
use Rattle.explanations.specs.Differences.{other_line}
use Rattle.commands.specs.declared.files.InputFile.{InputFile}
use Rattle.commands.specs.declared.files.InputFile.TheVariants as input
use Rattle.commands.specs.declared.fault.Fault.{Fault}
use Rattle.commands.specs.declared.fault.Fault.TheVariants as fault
use Rattle.explanations.specs.Places.{at_byte, at_line, at_instruction, at_event}

-- what stands in the place of a file where bytes come from standard input
abbrev pub standard_input : List ℕ
standard_input = codes "standard input"

-- the files that a request names; what it gathers comes from standard input
abbrev pub module_path : Request → List ℕ
module_path (Gather skips form) = standard_input
module_path (Check path plan) = path.now
module_path (Record r) = r.«module».now
module_path (Hunt r) = r.«module».now
module_path (Replay r by_threads names offsets) = r.«module».now
module_path (View v) = v.replay.«module».now
module_path (Trace t) = t.replay.«module».now
module_path (Debug r) = r.«module».now
module_path Adapter = standard_input

-- the plan of a check, if it names one
abbrev pub plan_of : Option (Bor (List ℕ)) → List ℕ
plan_of None = codes "--threads"
plan_of (Some path) = path.now

abbrev pub plan_path : Request → List ℕ
plan_path (Gather skips form) = standard_input
plan_path (Check path plan) = plan_of plan
plan_path (Record r) = r.plan.now
plan_path (Hunt r) = r.plan.now
plan_path (Replay r by_threads names offsets) = r.plan.now
plan_path (View v) = v.replay.plan.now
plan_path (Trace t) = t.replay.plan.now
plan_path (Debug r) = r.plan.now
plan_path Adapter = standard_input

abbrev pub schedule_of : RecordOrder → List ℕ
schedule_of (order.Schedule path) = path.now
schedule_of (order.Threads times_out) = codes "--threads"
schedule_of (order.Random times_out) = codes "--random"

abbrev pub schedule_path : Request → List ℕ
schedule_path (Record r) = schedule_of r.order
schedule_path r = codes "--schedule"

abbrev pub pieces_path : Request → List ℕ
pieces_path (Replay r by_threads names offsets) = r.pieces.now
pieces_path (View v) = v.replay.pieces.now
pieces_path (Trace t) = t.replay.pieces.now
pieces_path (Debug r) = r.pieces.now
pieces_path r = standard_input

abbrev pub path_of : Request → InputFile → List ℕ
path_of r input.Module = module_path r
path_of r input.Plan = plan_path r
path_of r input.Schedule = schedule_path r
path_of r input.Pieces = pieces_path r

abbrev pub in_module : List ℕ → DecodeFault → List ℕ
in_module file (decoding.Refused offset place cause) = at_byte file offset
in_module file fault = file

abbrev pub in_functions : List ℕ → ValidFault → List ℕ
in_functions file (typing.Invalid (Some function) instruction cause) = at_instruction file function instruction
in_functions file fault = file

abbrev pub in_plan : List ℕ → PlanFault → List ℕ
in_plan file (planning.BadLine line cause) = at_line file line
in_plan file (planning.NoExport line cause) = at_line file line
in_plan file (planning.WrongArguments line cause) = at_line file line
in_plan file fault = file

abbrev pub in_schedule : List ℕ → ScheduleFault → List ℕ
in_schedule file (scheduling.BadLine line cause) = at_line file line
in_schedule file fault = file

-- a file that can't be read is told as such; so what can't be read here is standard input
abbrev pub in_lines : List ℕ → GatherFault → List ℕ
in_lines file (gathering.OtherRun line own first) = at_line file line
in_lines file (gathering.BadLine line reason) = at_line file line
in_lines file gathering.SourceFailed = standard_input
in_lines file fault = file

abbrev pub in_events : List ℕ → ReplayFault → List ℕ
in_events file (replaying.Clash thread place) = at_event file thread place
in_events file (replaying.Missing thread place) = at_event file thread place
in_events file (replaying.Diverged thread place) = at_event file thread place
in_events file fault = file

abbrev pub in_log : List ℕ → WasmReplayFault → List ℕ
in_log file (refusal.Replay fault) = in_events file fault
in_log file fault = file

-- where the cause of a refusal stands; where memory is wanted, or an option is at fault, nothing is promised
abbrev pub BeginsWith : Request → Fault → List ℕ → Type 0
BeginsWith r (fault.File f file) place = place ≡ path_of r file
BeginsWith r (fault.Decode f names) place = place ≡ in_module (module_path r) f
BeginsWith r (fault.Valid f) place = place ≡ in_functions (module_path r) f
BeginsWith r (fault.Plan f quote) place = place ≡ in_plan (plan_path r) f
BeginsWith r (fault.Schedule f quote) place = place ≡ in_schedule (schedule_path r) f
BeginsWith r (fault.Gather f) place = place ≡ in_lines (pieces_path r) f
BeginsWith r (fault.Replay refused) place = place ≡ in_log (pieces_path r) refused.fault
BeginsWith r (fault.BadFrame f) place = place ≡ standard_input
BeginsWith r f place = Unit {0}

-- what is said of a piece line of another run: in which parts its key differs from that of the first line
abbrev pub SaysWhy : Fault → List ℕ → Type 0
SaysWhy (fault.Gather (gathering.OtherRun line own first)) words = words ≡ other_line own first
SaysWhy f words = Unit {0}

-- the text begins with the place, and goes on with the reason after a colon
abbrev pub IsExplanation : Request → Fault → List ℕ → Type 0
IsExplanation r f text = (place words : List ℕ) × (text ≡ place ++ (codes ": " ++ words)) × BeginsWith r f place × SaysWhy f words
