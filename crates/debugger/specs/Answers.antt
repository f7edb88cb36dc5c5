-- What is answered to a line, as bytes.
use Rattle.std.specs.Prelude.{ℕ, List, ◌++◌, Result, Ok, Err, codes, String, string_bytes}
use Rattle.std.specs.Global.{Global}
use Rattle.wasm_types.specs.declared.no_memory.NoMemory.{NoMemory}
use Rattle.debugger.specs.declared.answer.Answer.{Answer}

-- what is said where memory could not be had
abbrev pub memory_line : List ℕ
memory_line = codes "error: memory\n"

abbrev pub body_text : Result (String Global) NoMemory → List ℕ
body_text (Ok text) = string_bytes text
body_text (Err error) = memory_line

abbrev pub answer_text : Answer → List ℕ
answer_text answer = answer.head.bytes ++ body_text answer.body
