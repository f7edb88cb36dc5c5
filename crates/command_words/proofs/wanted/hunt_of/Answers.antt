use Rattle.std.proofs.Common.{◌≡◌, ◌&&◌, Bool, true, false, sym, ap, ◌∙◌}
use Rattle.std.specs.List.{list_all}
use Rattle.command_words.specs.Words.{may_begin}
use Rattle.command_words.proofs.Texts.{same_begin, both_same}
use Rattle.command_words.proofs.wanted.hunt_of.Goals as goal

pub returns-then-not-may_begin_all-clause-none : goal.returns-then-not-may_begin_all-clause-none
returns-then-not-may_begin_all-clause-none c = λ r asked.
    let until = ap (list_all (λ t. may_begin t.now)) c.deref.ensures.value ∙ same_begin c.args.until.items r.until.items (c.requires.until ∙ sym asked.has_until) in
    let unless = ap (list_all (λ t. may_begin t.now)) c.deref-2.ensures.value ∙ same_begin c.args.unless.items r.unless.items (c.requires.unless ∙ sym asked.has_unless) in
    let all : c.may_begin_all.result ≡ true = c.may_begin_all.ensures ∙ both_same _ _ _ _ until unless ∙ asked.can_begin in
    let not_all : c.may_begin_all.result ≡ false = c.if-not-may_begin_all.true in
    let z : false ≡ true = sym not_all ∙ all in
    absurd cc

pub returns-in-Err-clause-none : goal.returns-in-Err-clause-none
returns-in-Err-clause-none c = λ r asked. c.in-Err.ensures.none r.range.from r.range.count asked.has_range

pub returns-in-Err-sizes_of-clause-none : goal.returns-in-Err-sizes_of-clause-none
returns-in-Err-sizes_of-clause-none c = λ r asked. c.in-Err-sizes_of.ensures.none (record { times_out = r.times_out; steps = r.steps; size = r.size; block = r.block })
    (record { has_timeouts = asked.has_timeouts; has_times_out = asked.has_times_out; has_steps = asked.has_steps; has_size = asked.has_size; has_block = asked.has_block })
