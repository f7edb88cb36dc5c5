-- Bodies of responses: Debug Adapter Protocol, "Requests", the response of each
-- (https://microsoft.github.io/debug-adapter-protocol/specification#Requests).
use Rattle.std.specs.Prelude.{◌≡◌, ℕ, List, [], ◌∷◌, Option, Some, None, Bool, false, ◌||◌, codes}
use Rattle.std.proofs.Common.{refl, ap}
use Rattle.base64.specs.Engines.{standard}
use Rattle.base64.specs.GeneralPurpose.{encode_of}
use Rattle.serde_json.specs.Data.{Data, boolean, string}
use Rattle.serde_json.specs.Written.{has_float}
use Rattle.adapter_messages.specs.Json.{fields, natural, list, list_no_float, text_or_null}
use Rattle.adapter_messages.specs.Parts.{thread_json, stack_frame_json, scope_json, variable_json, instruction_json, breakpoint_json, capabilities_json}
use Rattle.adapter_messages.specs.declared.body.Body.{Body}
use Rattle.adapter_messages.specs.declared.body.Body.TheVariants.{Empty, Capabilities, Threads, StackTrace, Scopes, Variables, Memory, Instructions, Breakpoints, DataBreakpoint, Evaluated, Continued}
use Rattle.adapter_messages.specs.declared.parts.StackFrame.{StackFrame}

abbrev pub stack_trace_json : List StackFrame → ℕ → Data
stack_trace_json frames total = fields ((codes "stackFrames", list stack_frame_json frames) ∷ (codes "totalFrames", natural total) ∷ [])

-- bytes in base64 (RFC 4648, 4)
abbrev pub memory_json : (address bytes : List ℕ) → ℕ → Data
memory_json address bytes unreadable = fields ((codes "address", string address) ∷ (codes "data", string (encode_of standard bytes)) ∷ (codes "unreadableBytes", natural unreadable) ∷ [])

abbrev pub data_breakpoint_json : Option (List ℕ) → List ℕ → Data
data_breakpoint_json data_id description = fields ((codes "dataId", text_or_null data_id) ∷ (codes "description", string description) ∷ [])

abbrev pub body_json : Body → Data
body_json Empty = fields []
body_json (Capabilities c) = capabilities_json c
body_json (Threads ts) = fields ((codes "threads", list thread_json ts) ∷ [])
body_json (StackTrace frames total) = stack_trace_json frames total
body_json (Scopes ss) = fields ((codes "scopes", list scope_json ss) ∷ [])
body_json (Variables vs) = fields ((codes "variables", list variable_json vs) ∷ [])
body_json (Memory address bytes unreadable) = memory_json address bytes unreadable
body_json (Instructions is) = fields ((codes "instructions", list instruction_json is) ∷ [])
body_json (Breakpoints bs) = fields ((codes "breakpoints", list breakpoint_json bs) ∷ [])
body_json (DataBreakpoint data_id description) = data_breakpoint_json data_id description
body_json (Evaluated result reference) = fields ((codes "result", string result) ∷ (codes "variablesReference", natural reference) ∷ [])
body_json (Continued all_threads) = fields ((codes "allThreadsContinued", boolean all_threads) ∷ [])

-- a list has no float, and so with what stands behind it
or_no_float : {X : Type 0} (json : X → Data) → ((x : X) → has_float (json x) ≡ false) → (xs : List X) → (has_float (list json xs) || false) ≡ false
or_no_float json no_float xs = ap (λ (b : Bool). b || false) (list_no_float json no_float xs)

no_float_or_null : (data_id : Option (List ℕ)) → has_float (text_or_null data_id) ≡ false
no_float_or_null None = refl
no_float_or_null (Some text) = refl

pub body_no_float : (b : Body) → has_float (body_json b) ≡ false
body_no_float Empty = refl
body_no_float (Capabilities c) = refl
body_no_float (Threads ts) = or_no_float thread_json (λ _. refl) ts
body_no_float (StackTrace frames total) = or_no_float stack_frame_json (λ _. refl) frames
body_no_float (Scopes ss) = or_no_float scope_json (λ _. refl) ss
body_no_float (Variables vs) = or_no_float variable_json (λ _. refl) vs
body_no_float (Memory address bytes unreadable) = refl
body_no_float (Instructions is) = or_no_float instruction_json (λ _. refl) is
body_no_float (Breakpoints bs) = or_no_float breakpoint_json (λ _. refl) bs
body_no_float (DataBreakpoint data_id description) = ap (λ (b : Bool). b || false) (no_float_or_null data_id)
body_no_float (Evaluated result reference) = refl
body_no_float (Continued all_threads) = refl
