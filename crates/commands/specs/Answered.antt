-- The text that a recording answers.
use Rattle.std.specs.Prelude.{ℕ, List}
use Rattle.commands.specs.declared.record_answer.AnswerForm.{AnswerForm}
use Rattle.commands.specs.declared.record_answer.AnswerForm.TheVariants.{Text, Lines}

abbrev pub form_text : AnswerForm → List ℕ
form_text (Text text) = text.items
form_text (Lines lines) = lines
