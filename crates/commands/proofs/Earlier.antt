-- What a file may hold and whether it may fail, after other files were read, may have been so before.
use Rattle.std.proofs.Common.{ℕ, List, ◌⊎◌, inl, inr}
use Rattle.wasm_types.specs.declared.modules.Module.{Module}
use Rattle.commands.specs.declared.files.FileFault.{FileFault}
use Rattle.commands.specs.declared.files.FileFault.TheVariants as file
use Rattle.commands.specs.declared.fault.Fault.{Fault}
use Rattle.commands.specs.declared.fault.Fault.TheVariants.{File, Decode, Valid, Plan, Schedule, Pieces, Gather, Replay, View, NotCaught, TooLong, BadFrame, NoMemory, SinkFailed}
use Rattle.commands.specs.Files.{IsFileFault}
use Rattle.commands.specs.Inputs.{IsPlanRefused, IsLinesRefused}
use Rattle.wasm_record.specs.Pick.{Pick}
use Rattle.thread_plan.specs.Plans.{PlanValue}
use Rattle.command_words.specs.declared.requests.RecordOrder.{RecordOrder}
use Rattle.command_words.specs.declared.requests.RecordOrder.TheVariants as order
use Rattle.command_words.specs.declared.requests.RecordRequest.{RecordRequest}
use Rattle.commands.specs.Records.{AnswerAt, IsScheduleFile, IsScheduleRefused, IsRecordRefusal, IsRecordedBy, IsOrderRefused}

module _ {holds later : List ℕ → Type 0} {fails breaks : Type 0} (held : (bytes : List ℕ) → later bytes → holds bytes) (failed : breaks → fails) where
  pub file_earlier : (fault : FileFault) → IsFileFault breaks fault → IsFileFault fails fault
  file_earlier file.NotRead h = failed h
  file_earlier file.NoMemory h = tt

  pub plan_refused_earlier : (m : Module) (fault : Fault) → IsPlanRefused later breaks m fault → IsPlanRefused holds fails m fault
  plan_refused_earlier m (File fault of) h = (h.0, file_earlier fault h.1)
  plan_refused_earlier m (Decode fault names) h = h
  plan_refused_earlier m (Valid fault) h = h
  plan_refused_earlier m (Plan fault quote) h = (h.0, held h.0 h.1, h.2)
  plan_refused_earlier m (Schedule fault quote) h = h
  plan_refused_earlier m (Pieces fault) h = h
  plan_refused_earlier m (Gather fault) h = h
  plan_refused_earlier m (Replay fault) h = h
  plan_refused_earlier m (View fault) h = h
  plan_refused_earlier m NotCaught h = h
  plan_refused_earlier m TooLong h = h
  plan_refused_earlier m (BadFrame fault) h = h
  plan_refused_earlier m NoMemory h = h
  plan_refused_earlier m SinkFailed h = h

  pub lines_refused_earlier : (fault : Fault) → IsLinesRefused later breaks fault → IsLinesRefused holds fails fault
  lines_refused_earlier (File fault of) h = (h.0, file_earlier fault h.1)
  lines_refused_earlier (Decode fault names) h = h
  lines_refused_earlier (Valid fault) h = h
  lines_refused_earlier (Plan fault quote) h = h
  lines_refused_earlier (Schedule fault quote) h = h
  lines_refused_earlier (Pieces fault) h = h
  lines_refused_earlier (Gather fault) h = (h.0, held h.0 h.1, h.2)
  lines_refused_earlier (Replay fault) h = h
  lines_refused_earlier (View fault) h = h
  lines_refused_earlier NotCaught h = h
  lines_refused_earlier TooLong h = h
  lines_refused_earlier (BadFrame fault) h = h
  lines_refused_earlier NoMemory h = h
  lines_refused_earlier SinkFailed h = h

  pub schedule_refused_earlier : (fault : Fault) → IsScheduleRefused later breaks fault → IsScheduleRefused holds fails fault
  schedule_refused_earlier (File fault of) h = (h.0, file_earlier fault h.1)
  schedule_refused_earlier (Decode fault names) h = h
  schedule_refused_earlier (Valid fault) h = h
  schedule_refused_earlier (Plan fault quote) h = h
  schedule_refused_earlier (Schedule fault quote) h = (h.0, held h.0 h.1, h.2)
  schedule_refused_earlier (Pieces fault) h = h
  schedule_refused_earlier (Gather fault) h = h
  schedule_refused_earlier (Replay fault) h = h
  schedule_refused_earlier (View fault) h = h
  schedule_refused_earlier NotCaught h = h
  schedule_refused_earlier TooLong h = h
  schedule_refused_earlier (BadFrame fault) h = h
  schedule_refused_earlier NoMemory h = h
  schedule_refused_earlier SinkFailed h = h

module _ {holds later : List ℕ → List ℕ → Type 0} (held : (path bytes : List ℕ) → later path bytes → holds path bytes) where
  pub recorded_earlier : (m : Module) (plan : PlanValue) (request : RecordRequest) (o : RecordOrder) (answer : AnswerAt) → IsRecordedBy later m plan request o answer → IsRecordedBy holds m plan request o answer
  recorded_earlier m plan request (order.Schedule path) answer h = (h.0, (h.1.0, held path.now h.1.0 h.1.1, h.1.2), h.2)
  recorded_earlier m plan request (order.Threads times_out) answer h = h
  recorded_earlier m plan request (order.Random times_out) answer h = h

  module _ {fails breaks : List ℕ → Type 0} (failed : (path : List ℕ) → breaks path → fails path) where
    schedule_order_earlier : (path : List ℕ) (size : ℕ) (fault : Fault) → IsScheduleRefused (later path) (breaks path) fault ⊎ ((picks : List Pick) × IsScheduleFile (later path) picks × IsRecordRefusal size fault)
        → IsScheduleRefused (holds path) (fails path) fault ⊎ ((picks : List Pick) × IsScheduleFile (holds path) picks × IsRecordRefusal size fault)
    schedule_order_earlier path size fault (inl h) = inl (schedule_refused_earlier (held path) (failed path) fault h)
    schedule_order_earlier path size fault (inr h) = inr (h.0, (h.1.0, held path h.1.0 h.1.1, h.1.2), h.2)

    pub order_refused_earlier : (request : RecordRequest) (o : RecordOrder) (fault : Fault) → IsOrderRefused later breaks request o fault → IsOrderRefused holds fails request o fault
    order_refused_earlier request (order.Schedule path) fault h = schedule_order_earlier path.now request.size fault h
    order_refused_earlier request (order.Threads times_out) fault h = h
    order_refused_earlier request (order.Random times_out) fault h = h
