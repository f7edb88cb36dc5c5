use Rattle.std.proofs.lemmas.Result.{on_ok_weaker}
use Rattle.thread_words.proofs.Entering.{calling}
use Rattle.thread_words.proofs.calls.call.Goals as goal

pub call_function-requires : goal.call_function-requires
call_function-requires c = let k = c.requires.1 in (k.0, k.1, calling c.args.valid.now c.requires.0 c.args.function k.0 k.1 c.args.m.now k.2)

pub returns-clause-ok : goal.returns-clause-ok
returns-clause-ok c = on_ok_weaker c.call_function.result (λ p instance s after k. p s after (calling c.args.valid.now instance c.args.function s after c.args.m.now k)) c.call_function.ensures.ok
