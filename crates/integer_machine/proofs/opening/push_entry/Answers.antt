use Rattle.std.proofs.lemmas.Result.{on_ok_weaker}
use Rattle.integer_machine.proofs.Beginning.{put_entry}
use Rattle.integer_machine.proofs.opening.push_entry.Goals as goal

pub returns-clause-words : goal.returns-clause-words
returns-clause-words c =
    on_ok_weaker c.put_zeros.result (λ h. put_entry c.args.body.now c.args.arguments.now c.args.words.now.items c.push_values.new.words.items c.put_zeros.new.words.items c.in_ok-declared.declared c.in_ok-push_values.ensures.words h c.in_ok-declared.ensures.ok) c.put_zeros.ensures.ok
