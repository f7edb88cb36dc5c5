-- What attendants of tests hold back.
use Rattle.std.specs.Prelude.{Bool, true, false}
use Rattle.adapter_messages.specs.declared.request.Command.{Command}
use Rattle.adapter_messages.specs.declared.request.Command.TheVariants.{Launch}

abbrev pub is_launch : Command → Bool
is_launch (Launch module_text plan pieces) = true
is_launch _ = false
