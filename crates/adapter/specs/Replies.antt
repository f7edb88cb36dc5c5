-- Replies to requests.
use Rattle.std.specs.Prelude.{codes, ℕ, true, false, List, []}
use Rattle.adapter_messages.specs.declared.body.Body.{Body}
use Rattle.adapter_messages.specs.declared.event.EventKind.{EventKind}
use Rattle.adapter_messages.specs.declared.event.EventKind.TheVariants.{Output, Stopped}
use Rattle.adapter_messages.specs.declared.event.Category.TheVariants.{Important}
use Rattle.adapter_messages.specs.declared.event.StopReason.{StopReason}
use Rattle.adapter_messages.specs.declared.response.Outcome.TheVariants.{Success, Failure}
use Rattle.adapter_messages.specs.declared.reply.Reply.{Reply}

abbrev pub success : Body → List EventKind → Reply
success body told = record { outcome = Success body; told = told; goes_on = true }

abbrev pub failure : List ℕ → Reply
failure message = record { outcome = Failure message; told = []; goes_on = true }

-- a success with nothing to say, which ends the exchange
abbrev pub ended : Body → Reply
ended body = record { outcome = Success body; told = []; goes_on = false }

-- every thread stands
abbrev pub stopped : StopReason → (id : ℕ) → EventKind
stopped reason id = Stopped reason id true

-- a line is put out
abbrev pub put_out : List ℕ → EventKind
put_out line = Output Important line

abbrev pub bad_arguments : List ℕ
bad_arguments = codes "error: the arguments do not fit"
