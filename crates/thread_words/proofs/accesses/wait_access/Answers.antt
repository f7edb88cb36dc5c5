use Rattle.std.proofs.Common.{rules}
use Rattle.thread_words.proofs.accesses.wait_access.Goals as goal

pub returns-in_err-address : goal.returns-in_err-address
returns-in_err-address c = λ vs k.
    let first = c.three_operands-base.ensures.first _ _ vs k in
    search rules

pub returns : goal.returns
returns c = λ vs k.
    let first = c.three_operands-base.ensures.first _ _ vs k in
    let second = c.three_operands-base.ensures.second _ _ vs k in
    search rules
