-- Requests: Debug Adapter Protocol, "Base Protocol", "ProtocolMessage" and "Request"
-- (https://microsoft.github.io/debug-adapter-protocol/specification#Base_Protocol_Request).
use Rattle.std.specs.Prelude.{ℕ, List, Option, Some, None, codes, option_and_then, option_map}
use Rattle.serde_json.specs.Data.{Data}
use Rattle.serde_json.specs.Find.{get, as_str}
use Rattle.adapter_messages.specs.Arguments.{number_of}
use Rattle.adapter_messages.specs.CommandNames.{name_of}
use Rattle.adapter_messages.specs.Commands.{with, with_arguments}
use Rattle.adapter_messages.specs.declared.command_name.CommandName.{CommandName}
use Rattle.adapter_messages.specs.declared.request.Command.{Command}
use Rattle.adapter_messages.specs.declared.request.Command.TheVariants.{Unknown, BadArguments}
use Rattle.adapter_messages.specs.declared.request.Request.{Request}

abbrev pub or_bad : Option Command → Command
or_bad None = BadArguments
or_bad (Some asked) = asked

abbrev pub or_unknown : Option CommandName → Data → Command
or_unknown None message = Unknown
or_unknown (Some command) message = or_bad (with_arguments command message)

-- what a message asks for whose command is called so
abbrev pub command_of : List ℕ → Data → Command
command_of name message = or_unknown (name_of name) message

abbrev pub request : ℕ → List ℕ → Data → Request
request number called message = record { seq = number; name = called; command = command_of called message }

-- the request that a message is, if it has a number and the name of a command
abbrev pub request_of : Data → Option Request
request_of message =
    with (option_and_then number_of (get (codes "seq") message)) (λ number.
    option_map (λ called. request number called message) (option_and_then as_str (get (codes "command") message)))
