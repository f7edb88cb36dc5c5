use Rattle.std.proofs.Common.{rules, ◌≡◌, ◌+◌, true}
use Rattle.std.specs.Prelude.{string_bytes}
use Rattle.program.proofs.Told.{told_words, told_none}
use Rattle.program.proofs.refusing.refuse_request.Goals as goal

pub returns-in-Ok-clause-tells : goal.returns-in-Ok-clause-tells
returns-in-Ok-clause-tells g c =
    let asked : c.args.why ≡ true = search rules in
    told_words (λ text. g.E.Sink.takes c.args.errors.now text c.refuse_in_words.new.errors) (g.E.Sink.failed c.refuse_in_words.new.errors ≡ g.E.Sink.failed c.args.errors.now + 1)
    c.args.why c.args.request.now c.args.fault.now asked (string_bytes c.in-Ok.words) c.as_str.result.now (search rules) c.in-Ok.ensures c.refuse_in_words.ensures.tells

pub returns-in-Err-clause-tells : goal.returns-in-Err-clause-tells
returns-in-Err-clause-tells g c =
    let asked : c.args.why ≡ true = search rules in
    told_none (λ text. g.E.Sink.takes c.args.errors.now text c.refuse_without_words.new.errors) (g.E.Sink.failed c.refuse_without_words.new.errors ≡ g.E.Sink.failed c.args.errors.now + 1)
    c.args.why c.args.request.now c.args.fault.now asked c.refuse_without_words.ensures.tells
