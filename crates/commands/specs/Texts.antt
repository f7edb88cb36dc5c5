-- The texts of faults: `refused`, the number, the name, and perhaps numbers in decimal, each after one space; and the
-- text of lines that were passed over.
use Rattle.std.specs.Prelude.{ℕ, List, ◌++◌, ◌∷◌, codes, Some, None}
use Rattle.std.specs.Fmt.{decimal}
use Rattle.binary_decoder.specs.declared.fault.DecodeFault.{DecodeFault}
use Rattle.binary_decoder.specs.declared.fault.DecodeFault.TheVariants as decoding
use Rattle.validator.specs.declared.fault.ValidFault.{ValidFault}
use Rattle.validator.specs.declared.fault.ValidFault.TheVariants as typing
use Rattle.thread_plan.specs.declared.fault.PlanFault.{PlanFault}
use Rattle.thread_plan.specs.declared.fault.PlanFault.TheVariants as planning
use Rattle.pick_schedule.specs.declared.fault.ScheduleFault.{ScheduleFault}
use Rattle.pick_schedule.specs.declared.fault.ScheduleFault.TheVariants as scheduling
use Rattle.replica.specs.declared.fault.GatherFault.{GatherFault}
use Rattle.replica.specs.declared.fault.GatherFault.TheVariants as gathering
use Rattle.replica.specs.declared.skipping.Skipped.{Skipped}
use Rattle.wasm_replay.specs.ReplayFault.{ReplayFault}
use Rattle.wasm_replay.specs.ReplayFault.TheVariants as replaying
use Rattle.wasm_replay.specs.declared.replaying.WasmReplayFault.{WasmReplayFault}
use Rattle.wasm_replay.specs.declared.replaying.WasmReplayFault.TheVariants as refusal
use Rattle.debug_views.specs.declared.fault.ViewFault.{ViewFault}
use Rattle.debug_views.specs.declared.fault.ViewFault.TheVariants as viewing
use Rattle.commands.specs.declared.files.FileFault.{FileFault}
use Rattle.commands.specs.declared.files.FileFault.TheVariants as file
use Rattle.wasm_record.specs.PiecesFault.{PiecesFault}
use Rattle.wasm_record.specs.PiecesFault.TheVariants as cutting
use Rattle.commands.specs.declared.fault.Fault.{Fault}
use Rattle.commands.specs.declared.fault.Fault.TheVariants.{File, Decode, Valid, Plan, Schedule, Pieces, Gather, Replay, View, NotCaught, TooLong, BadFrame, NoMemory, SinkFailed}

-- a name, and two numbers behind it
abbrev pub placed : List ℕ → ℕ → ℕ → List ℕ
placed head first second = head ++ (decimal first ++ 32 ∷ decimal second)

-- how many lines were passed over: bad ones, and those of other runs
abbrev pub skipped_text : Skipped → List ℕ
skipped_text skipped = placed (codes "skipped ") skipped.bad skipped.foreign

abbrev pub file_text : FileFault → List ℕ
file_text file.NotRead = codes "refused 44 SourceFailed"
file_text file.NoMemory = codes "refused 23 NoMemory"

abbrev pub decode_text : DecodeFault → List ℕ
decode_text (decoding.Refused offset place cause) = codes "refused 1 Refused " ++ decimal offset
decode_text (decoding.TooLarge limit count place) = codes "refused 2 TooLarge"
decode_text decoding.NoMemory = codes "refused 3 NoMemory"

abbrev pub valid_text : ValidFault → List ℕ
valid_text (typing.Invalid None instruction cause) = codes "refused 11 Invalid module"
valid_text (typing.Invalid (Some function) instruction cause) = placed (codes "refused 11 Invalid ") function instruction
valid_text typing.NoMemory = codes "refused 12 NoMemory"

abbrev pub plan_text : PlanFault → List ℕ
plan_text (planning.BadLine line cause) = codes "refused 13 BadLine " ++ decimal line
plan_text (planning.NoExport line cause) = codes "refused 14 NoExport " ++ decimal line
plan_text (planning.WrongArguments line cause) = codes "refused 15 WrongArguments " ++ decimal line
plan_text planning.NotShared = codes "refused 16 NotShared"
plan_text planning.SegmentOutOfBounds = codes "refused 17 SegmentOutOfBounds"
plan_text planning.NoMemory = codes "refused 12 NoMemory"

abbrev pub schedule_text : ScheduleFault → List ℕ
schedule_text (scheduling.BadLine line cause) = codes "refused 18 BadSchedule " ++ decimal line
schedule_text scheduling.NoMemory = codes "refused 23 NoMemory"

abbrev pub pieces_text : PiecesFault → List ℕ
pieces_text cutting.Empty = codes "refused 31 Empty"
pieces_text cutting.TooMany = codes "refused 32 TooMany"
pieces_text cutting.NoMemory = codes "refused 23 NoMemory"

abbrev pub gather_text : GatherFault → List ℕ
gather_text (gathering.OtherRun line own first) = codes "refused 41 OtherRun " ++ decimal line
gather_text gathering.NoMemory = codes "refused 42 NoMemory"
gather_text (gathering.BadLine line reason) = codes "refused 43 BadLine " ++ decimal line
gather_text gathering.SourceFailed = codes "refused 44 SourceFailed"
gather_text gathering.SinkFailed = codes "refused 45 SinkFailed"

abbrev pub replay_text : ReplayFault → List ℕ
replay_text (replaying.Clash thread place) = placed (codes "refused 52 Clash ") thread place
replay_text (replaying.Missing thread place) = placed (codes "refused 53 Missing ") thread place
replay_text replaying.Shut = codes "refused 54 Shut"
replay_text (replaying.Diverged thread place) = placed (codes "refused 55 Diverged ") thread place
replay_text replaying.NoMemory = codes "refused 56 NoMemory"
replay_text replaying.Stuck = codes "refused 57 Stuck"

abbrev pub refusal_text : WasmReplayFault → List ℕ
refusal_text refusal.OtherRun = codes "refused 51 OtherRun"
refusal_text refusal.OldProfile = codes "refused 58 OldProfile"
refusal_text (refusal.Replay fault) = replay_text fault

abbrev pub view_text : ViewFault → List ℕ
view_text viewing.OutOfView = codes "refused 61 OutOfView"
view_text viewing.NoMemory = codes "refused 62 NoMemory"

abbrev pub fault_text : Fault → List ℕ
fault_text (File fault of) = file_text fault
fault_text (Decode fault names) = decode_text fault
fault_text (Valid fault) = valid_text fault
fault_text (Plan fault quote) = plan_text fault
fault_text (Schedule fault quote) = schedule_text fault
fault_text (Pieces fault) = pieces_text fault
fault_text (Gather fault) = gather_text fault
fault_text (Replay refused) = refusal_text refused.fault
fault_text (View fault) = view_text fault
fault_text NotCaught = codes "refused 71 NotCaught"
fault_text TooLong = codes "refused 72 TooLong"
fault_text (BadFrame fault) = codes "refused 73 BadFrame"
fault_text NoMemory = codes "refused 23 NoMemory"
fault_text SinkFailed = codes "refused 45 SinkFailed"
