-- Messages that go, and their numbers: Debug Adapter Protocol, "Base Protocol", "ProtocolMessage"
-- (https://microsoft.github.io/debug-adapter-protocol/specification#Base_Protocol_ProtocolMessage).
use Rattle.std.specs.Prelude.{ℕ, ◌+◌, ◌-◌, ◌^◌, List, [], ◌∷◌, ◌++◌, Result, Ok, Err, codes, min}
use Rattle.serde_json.specs.Written.{compact_text}
use Rattle.adapter_messages.specs.Events.{event_json}
use Rattle.adapter_messages.specs.Frames.{frame_of}
use Rattle.adapter_messages.specs.Responses.{response_json}
use Rattle.adapter_messages.specs.declared.event.Category.TheVariants.{Important}
use Rattle.adapter_messages.specs.declared.event.Event.{Event}
use Rattle.adapter_messages.specs.declared.event.EventKind.{EventKind}
use Rattle.adapter_messages.specs.declared.event.EventKind.TheVariants.{Output}
use Rattle.adapter_messages.specs.declared.response.Response.{Response}
use Rattle.adapter_messages.specs.declared.reply.Reply.{Reply}
use Rattle.adapter_messages.specs.declared.replying.SendFault.{SendFault}
use Rattle.adapter_messages.specs.declared.replying.SendFault.TheVariants.{SinkFailed, NoMemory}

-- the number of the message behind one of that number; behind the largest number it is this number again
abbrev pub number_after : ℕ → ℕ
number_after n = min (n + 1) (2 ^ 64 - 1)

-- the number behind events, of which the first has that number
abbrev pub number_behind : ℕ → List EventKind → ℕ
number_behind n [] = n
number_behind n (kind ∷ kinds) = number_behind (number_after n) kinds

unfoldable pub response_frame : Response → List ℕ
response_frame response = frame_of (compact_text (response_json response))

unfoldable pub event_frame : Event → List ℕ
event_frame event = frame_of (compact_text (event_json event))

-- the frames of events, of which the first has that number
abbrev pub event_frames : ℕ → List EventKind → List ℕ
event_frames n [] = []
event_frames n (kind ∷ kinds) = event_frame (record { seq = n; kind = kind }) ++ event_frames (number_after n) kinds

-- the response to a request of that number and command, and its events, of which the first message has the number n
abbrev pub reply_text : (n request_seq : ℕ) → List ℕ → Reply → List ℕ
reply_text n request_seq command reply = response_frame (record { seq = n; request_seq = request_seq; command = command; outcome = reply.outcome }) ++ event_frames (number_after n) reply.told

-- the number behind them
abbrev pub number_behind_reply : ℕ → Reply → ℕ
number_behind_reply n reply = number_behind (number_after n) reply.told

-- what is told of a content that is no request
abbrev pub complaint_of : ℕ → Event
complaint_of n = record { seq = n; kind = Output Important (codes "error: a message that is no request\n") }

-- how many calls of a sink failed
abbrev pub failures_of : SendFault → ℕ
failures_of SinkFailed = 1
failures_of NoMemory = 0

abbrev pub failures_in : {X : Type 0} → Result X SendFault → ℕ
failures_in (Ok x) = 0
failures_in (Err fault) = failures_of fault
