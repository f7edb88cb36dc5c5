use Rattle.std.proofs.Common.{List, ◌∙◌, length, min, refl, ap}
use Rattle.wasm_world.specs.CodePlace.{CodePlace}
use Rattle.debugger.specs.Answers.{answer_text}
use Rattle.adapter.proofs.Keeping.{err_so}
use Rattle.adapter.proofs.adapter.Adapter.obey.Goals as goal

pub returns-in_err-result-clause-wanting : goal.returns-in_err-result-clause-wanting
returns-in_err-result-clause-wanting c = err_so c.from_residual.result (_, record { text = answer_text c.respond-answer.result; replies = c.respond-answer.ensures.replies; functions = c.min-self.ensures ∙ ap (λ (l : List CodePlace). min c.args.self.now.functions (length l)) c.instructions.ensures; reply = refl })
