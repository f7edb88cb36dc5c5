-- Names of commands: Debug Adapter Protocol, "Requests"
-- (https://microsoft.github.io/debug-adapter-protocol/specification#Requests).
use Rattle.std.specs.Prelude.{ℕ, List, Option, Some, None, codes, if◌then◌else◌}
use Rattle.std.specs.Str.{bytes_eq}
use Rattle.adapter_messages.specs.declared.command_name.CommandName.{CommandName}
use Rattle.adapter_messages.specs.declared.command_name.CommandName.TheVariants as name
use Rattle.adapter_messages.specs.declared.request.Motion.{Motion}
use Rattle.adapter_messages.specs.declared.request.Motion.TheVariants.{Next, StepIn, StepOut, StepBack, Continue, ReverseContinue, Pause}

abbrev pub motion_of : List ℕ → Option Motion
motion_of text =
    if bytes_eq text (codes "next") then Some Next else (
    if bytes_eq text (codes "stepIn") then Some StepIn else (
    if bytes_eq text (codes "stepOut") then Some StepOut else (
    if bytes_eq text (codes "stepBack") then Some StepBack else (
    if bytes_eq text (codes "continue") then Some Continue else (
    if bytes_eq text (codes "reverseContinue") then Some ReverseContinue else (
    if bytes_eq text (codes "pause") then Some Pause else None))))))

abbrev pub breakpoints_of : List ℕ → Option CommandName
breakpoints_of text =
    if bytes_eq text (codes "setBreakpoints") then Some name.SetBreakpoints else (
    if bytes_eq text (codes "setFunctionBreakpoints") then Some name.SetFunctionBreakpoints else (
    if bytes_eq text (codes "setInstructionBreakpoints") then Some name.SetInstructionBreakpoints else (
    if bytes_eq text (codes "dataBreakpointInfo") then Some name.DataBreakpointInfo else (
    if bytes_eq text (codes "setDataBreakpoints") then Some name.SetDataBreakpoints else (
    if bytes_eq text (codes "setExceptionBreakpoints") then Some name.SetExceptionBreakpoints else None)))))

abbrev pub other_of : List ℕ → Option CommandName
other_of text =
    if bytes_eq text (codes "initialize") then Some name.Initialize else (
    if bytes_eq text (codes "launch") then Some name.Launch else (
    if bytes_eq text (codes "configurationDone") then Some name.ConfigurationDone else (
    if bytes_eq text (codes "threads") then Some name.Threads else (
    if bytes_eq text (codes "stackTrace") then Some name.StackTrace else (
    if bytes_eq text (codes "scopes") then Some name.Scopes else (
    if bytes_eq text (codes "variables") then Some name.Variables else (
    if bytes_eq text (codes "readMemory") then Some name.ReadMemory else (
    if bytes_eq text (codes "disassemble") then Some name.Disassemble else (
    if bytes_eq text (codes "evaluate") then Some name.Evaluate else (
    if bytes_eq text (codes "disconnect") then Some name.Disconnect else (
    if bytes_eq text (codes "terminate") then Some name.Terminate else None)))))))))))

abbrev pub or_other : Option CommandName → List ℕ → Option CommandName
or_other (Some command) text = Some command
or_other None text = other_of text

abbrev pub or_breakpoints : Option Motion → List ℕ → Option CommandName
or_breakpoints (Some motion) text = Some (name.Move motion)
or_breakpoints None text = or_other (breakpoints_of text) text

-- the command that is called so
abbrev pub name_of : List ℕ → Option CommandName
name_of text = or_breakpoints (motion_of text) text
