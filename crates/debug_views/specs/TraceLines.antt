-- A line of a trace: which thread made which event, where in the code, what it did, and the numbers in memory before
-- and behind it.
use Rattle.std.specs.Prelude.{ℕ, ◌==◌, nat_lt, false, cond, List, [], ◌∷◌, ◌++◌, codes, Option, Some, None}
use Rattle.std.specs.Int.{Width, w8, w16, w32, w64, w128}
use Rattle.std.specs.Fmt.{decimal, radix_digits}
use Rattle.wasm_types.specs.declared.instruction.RmwOp.{RmwOp}
use Rattle.wasm_types.specs.declared.instruction.RmwOp.TheVariants.{Add, Subtract, And, Or, Xor, Exchange}
use Rattle.wasm_types.specs.declared.operation.Action.{Action}
use Rattle.wasm_types.specs.declared.operation.Action.TheVariants as act
use Rattle.wasm_types.specs.declared.outcome.Outcome.{Outcome}
use Rattle.wasm_types.specs.declared.outcome.Outcome.TheVariants.{Running, Waiting, Done, Trapped}
use Rattle.wasm_types.specs.Accesses.{access_width, load_width, type_width}
use Rattle.wasm_types.specs.Text.{outcome_text}

-- a number below 65,536 in decimal, any other in hexadecimal
abbrev pub number_text : ℕ → List ℕ
number_text n = cond (nat_lt n 65536) (decimal n) (codes "0x" ++ radix_digits 16 false n)

-- the integer of a width in bits; no access has the last
abbrev pub width_text : Width → List ℕ
width_text w8 = codes "i8"
width_text w16 = codes "i16"
width_text w32 = codes "i32"
width_text w64 = codes "i64"
width_text w128 = codes "i128"

abbrev pub found_text : Option ℕ → List ℕ
found_text None = []
found_text (Some n) = 32 ∷ number_text n

-- what was found, and what was left
abbrev pub changed_text : Option ℕ → Option ℕ → List ℕ
changed_text found None = found_text found
changed_text found (Some left) = found_text found ++ (codes " ->" ++ found_text (Some left))

-- the number that was looked for, where another was found
abbrev pub unlike_text : Option ℕ → ℕ → List ℕ
unlike_text None n = []
unlike_text (Some found) n = cond (found == n) [] (codes " not " ++ number_text n)

-- an access at an address
abbrev pub access_text : List ℕ → ℕ → Width → List ℕ
access_text word address w = word ++ (32 ∷ (decimal address ++ (32 ∷ width_text w)))

abbrev pub rmw_word : RmwOp → List ℕ
rmw_word Add = codes "add"
rmw_word Subtract = codes "sub"
rmw_word And = codes "and"
rmw_word Or = codes "or"
rmw_word Xor = codes "xor"
rmw_word Exchange = codes "xchg"

-- what an action did: by the number at its address, or the pages, before and behind it
abbrev pub action_text : Action → Option ℕ → Option ℕ → List ℕ
action_text (act.Load load address) found left = access_text (codes "load") address (load_width load) ++ found_text found
action_text (act.Store access address operand) found left = access_text (codes "store") address (access_width access) ++ changed_text found left
action_text (act.Rmw op access address operand) found left = access_text (rmw_word op) address (access_width access) ++ changed_text found left
action_text (act.CompareExchange access address expected replacement) found left =
    access_text (codes "cmpxchg") address (access_width access) ++ (changed_text found left ++ unlike_text found expected)
action_text act.Size found left = codes "size" ++ found_text found
action_text (act.Grow by) found left = codes "grow " ++ (decimal by ++ changed_text found left)
action_text (act.Wait width thread address expected) found left = access_text (codes "wait") address (type_width width) ++ (found_text found ++ unlike_text found expected)
action_text (act.Notify address count) found left = codes "notify " ++ (decimal address ++ (32 ∷ decimal count))
action_text (act.Resume thread address) found left = codes "woken " ++ decimal address
action_text (act.TimeOut thread address) found left = codes "timed out " ++ decimal address

-- how the thread stands behind the event, unless it runs
abbrev pub stopped_text : Outcome → List ℕ
stopped_text Running = []
stopped_text Waiting = 32 ∷ outcome_text Waiting
stopped_text (Done value) = 32 ∷ outcome_text (Done value)
stopped_text (Trapped trap) = 32 ∷ outcome_text (Trapped trap)

abbrev pub done_text : Action → Option ℕ → Option ℕ → Outcome → List ℕ
done_text action found left outcome = action_text action found left ++ (stopped_text outcome ++ 10 ∷ [])

-- the event's thread and place, where it stands in the code, which ends with a space or is empty, and what it did
abbrev pub event_line : ℕ → ℕ → List ℕ → Action → Option ℕ → Option ℕ → Outcome → List ℕ
event_line thread number standing action found left outcome =
    decimal thread ++ (codes "." ++ (decimal number ++ (32 ∷ (standing ++ done_text action found left outcome))))
