-- What commands ask for: Debug Adapter Protocol, "Requests"
-- (https://microsoft.github.io/debug-adapter-protocol/specification#Requests). Each is None where the arguments do not fit.
use Rattle.std.specs.Prelude.{Option, Some, None, codes, option_and_then}
use Rattle.serde_json.specs.Data.{Data}
use Rattle.adapter_messages.specs.ArgumentLists.{breakpoints, count_or_zero, texts}
use Rattle.adapter_messages.specs.Arguments.{integer_or_zero, number, number_or_zero, text}
use Rattle.adapter_messages.specs.declared.command_name.CommandName.{CommandName}
use Rattle.adapter_messages.specs.declared.command_name.CommandName.TheVariants as name
use Rattle.adapter_messages.specs.declared.request.Motion.{Motion}
use Rattle.adapter_messages.specs.declared.request.Command.{Command}
use Rattle.adapter_messages.specs.declared.request.Command.TheVariants as command

-- `let x = o; ..`, where o may be nothing
abbrev pub with : {X Y : Type 0} → Option X → (X → Option Y) → Option Y
with o f = option_and_then f o

abbrev pub launch : Data → Option Command
launch m =
    with (text (codes "module") m) (λ module_text.
    with (text (codes "plan") m) (λ plan.
    with (texts None (codes "pieces") m) (λ pieces.
    Some (command.Launch module_text plan pieces))))

abbrev pub stack_trace : Data → Option Command
stack_trace m =
    with (number (codes "threadId") m) (λ thread.
    with (number_or_zero (codes "startFrame") m) (λ start_frame.
    with (number_or_zero (codes "levels") m) (λ levels.
    Some (command.StackTrace thread start_frame levels))))

abbrev pub scopes : Data → Option Command
scopes m = with (number (codes "frameId") m) (λ frame. Some (command.Scopes frame))

abbrev pub variables : Data → Option Command
variables m = with (number (codes "variablesReference") m) (λ reference. Some (command.Variables reference))

abbrev pub read_memory : Data → Option Command
read_memory m =
    with (text (codes "memoryReference") m) (λ reference.
    with (integer_or_zero (codes "offset") m) (λ offset.
    with (number (codes "count") m) (λ count.
    Some (command.ReadMemory reference offset count))))

abbrev pub disassemble : Data → Option Command
disassemble m =
    with (text (codes "memoryReference") m) (λ reference.
    with (integer_or_zero (codes "offset") m) (λ offset.
    with (integer_or_zero (codes "instructionOffset") m) (λ instruction_offset.
    with (number (codes "instructionCount") m) (λ instruction_count.
    Some (command.Disassemble reference offset instruction_offset instruction_count)))))

abbrev pub set_breakpoints : Data → Option Command
set_breakpoints m = with (count_or_zero (codes "breakpoints") m) (λ count. Some (command.SetBreakpoints count))

abbrev pub function_breakpoints : Data → Option Command
function_breakpoints m = with (texts (Some (codes "name")) (codes "breakpoints") m) (λ names. Some (command.SetFunctionBreakpoints names))

abbrev pub instruction_breakpoints : Data → Option Command
instruction_breakpoints m = with (breakpoints (codes "breakpoints") m) (λ found. Some (command.SetInstructionBreakpoints found))

abbrev pub data_breakpoint_info : Data → Option Command
data_breakpoint_info m =
    with (text (codes "name") m) (λ called.
    with (number_or_zero (codes "variablesReference") m) (λ reference.
    Some (command.DataBreakpointInfo called reference)))

abbrev pub data_breakpoints : Data → Option Command
data_breakpoints m = with (texts (Some (codes "dataId")) (codes "breakpoints") m) (λ data_ids. Some (command.SetDataBreakpoints data_ids))

abbrev pub move_thread : Motion → Data → Option Command
move_thread kind m = with (number (codes "threadId") m) (λ thread. Some (command.Move kind thread))

abbrev pub evaluate : Data → Option Command
evaluate m = with (text (codes "expression") m) (λ expression. Some (command.Evaluate expression))

-- what a command of that name asks for
abbrev pub with_arguments : CommandName → Data → Option Command
with_arguments name.Initialize m = Some command.Initialize
with_arguments name.Launch m = launch m
with_arguments name.ConfigurationDone m = Some command.ConfigurationDone
with_arguments name.Threads m = Some command.Threads
with_arguments name.StackTrace m = stack_trace m
with_arguments name.Scopes m = scopes m
with_arguments name.Variables m = variables m
with_arguments name.ReadMemory m = read_memory m
with_arguments name.Disassemble m = disassemble m
with_arguments name.SetBreakpoints m = set_breakpoints m
with_arguments name.SetFunctionBreakpoints m = function_breakpoints m
with_arguments name.SetInstructionBreakpoints m = instruction_breakpoints m
with_arguments name.DataBreakpointInfo m = data_breakpoint_info m
with_arguments name.SetDataBreakpoints m = data_breakpoints m
with_arguments name.SetExceptionBreakpoints m = Some command.SetExceptionBreakpoints
with_arguments (name.Move kind) m = move_thread kind m
with_arguments name.Evaluate m = evaluate m
with_arguments name.Disconnect m = Some command.Disconnect
with_arguments name.Terminate m = Some command.Terminate
