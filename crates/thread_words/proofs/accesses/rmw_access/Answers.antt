use Rattle.std.proofs.Common.{rules}
use Rattle.thread_words.proofs.accesses.rmw_access.Goals as goal

pub returns-in_err-address : goal.returns-in_err-address
returns-in_err-address c = λ vs k.
    let first = c.two_operands-base.ensures.first _ vs k in
    search rules

pub returns : goal.returns
returns c = λ vs k.
    let first = c.two_operands-base.ensures.first _ vs k in
    let second = c.two_operands-base.ensures.second _ vs k in
    search rules
