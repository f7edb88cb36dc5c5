use Rattle.thread_words.proofs.Threads.{at_has_parts}
use Rattle.thread_words.proofs.functions.groups_of_function.Goals as goal

pub returns : goal.returns
returns c = λ f e. c.in-Some.ensures.groups f.body (at_has_parts c.args.valid.now c.args.function f e).1
