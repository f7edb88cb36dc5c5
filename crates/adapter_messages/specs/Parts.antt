-- What the bodies of responses are made of: Debug Adapter Protocol, "Types"
-- (https://microsoft.github.io/debug-adapter-protocol/specification#Types).
use Rattle.std.specs.Prelude.{[], ◌∷◌, codes, false}
use Rattle.serde_json.specs.Data.{Data, boolean, string}
use Rattle.adapter_messages.specs.Json.{fields, natural}
use Rattle.adapter_messages.specs.declared.parts.Breakpoint.{Breakpoint}
use Rattle.adapter_messages.specs.declared.parts.Capabilities.{Capabilities}
use Rattle.adapter_messages.specs.declared.parts.Instruction.{Instruction}
use Rattle.adapter_messages.specs.declared.parts.Scope.{Scope}
use Rattle.adapter_messages.specs.declared.parts.StackFrame.{StackFrame}
use Rattle.adapter_messages.specs.declared.parts.Thread.{Thread}
use Rattle.adapter_messages.specs.declared.parts.Variable.{Variable}

abbrev pub thread_json : Thread → Data
thread_json t = fields ((codes "id", natural t.id) ∷ (codes "name", string t.name) ∷ [])

abbrev pub stack_frame_json : StackFrame → Data
stack_frame_json f = fields (
    (codes "id", natural f.id) ∷ (codes "name", string f.name) ∷ (codes "line", natural 0) ∷ (codes "column", natural 0)
    ∷ (codes "instructionPointerReference", string f.instruction) ∷ [])

abbrev pub scope_json : Scope → Data
scope_json s = fields ((codes "name", string s.name) ∷ (codes "variablesReference", natural s.reference) ∷ (codes "expensive", boolean false) ∷ [])

abbrev pub variable_json : Variable → Data
variable_json v = fields ((codes "name", string v.name) ∷ (codes "value", string v.value) ∷ (codes "variablesReference", natural v.reference) ∷ [])

abbrev pub instruction_json : Instruction → Data
instruction_json i = fields ((codes "address", string i.address) ∷ (codes "instruction", string i.text) ∷ [])

abbrev pub breakpoint_json : Breakpoint → Data
breakpoint_json b = fields ((codes "id", natural b.id) ∷ (codes "verified", boolean b.is_verified) ∷ (codes "message", string b.message) ∷ [])

abbrev pub capabilities_json : Capabilities → Data
capabilities_json c = fields (
    (codes "supportsConfigurationDoneRequest", boolean c.configuration_done) ∷ (codes "supportsFunctionBreakpoints", boolean c.function_breakpoints)
    ∷ (codes "supportsStepBack", boolean c.step_back) ∷ (codes "supportsDataBreakpoints", boolean c.data_breakpoints)
    ∷ (codes "supportsReadMemoryRequest", boolean c.read_memory) ∷ (codes "supportsDisassembleRequest", boolean c.disassemble)
    ∷ (codes "supportsInstructionBreakpoints", boolean c.instruction_breakpoints) ∷ (codes "supportsTerminateRequest", boolean c.terminate) ∷ [])
