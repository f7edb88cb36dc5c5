use Rattle.std.proofs.Common.{◌∙◌, sym, ap}
use Rattle.std.proofs.lemmas.Result.{on_ok_weaker}
use Rattle.thread_words.specs.Thread.{Local, function_at}
use Rattle.thread_words.specs.declared.stacks.Level.{Level}
use Rattle.thread_words.proofs.Bodies.{some_target, if_target}
use Rattle.thread_words.proofs.Opening.{if_turns, if_skips}
use Rattle.thread_words.proofs.blocks.skip_first_arm.Goals as goal

pub enter-requires-clause-fits : goal.enter-requires-clause-fits
enter-requires-clause-fits c =
    let k = c.requires.can in
    let g = if_target c.args.valid.now k.1.0 k.0 k.1.1.0 (Local k.1.1.1) c.args.m.now c.in-Some.target k.1.1.2 (sym c.in-Some.is ∙ c.target_at.ensures k.1.1.2.function (ap (λ (y : Level). function_at c.args.valid.now y.function) k.1.1.2.lies.here ∙ k.1.1.2.found)) in
    g.turn_fits c.in-Some-else_at.turn c.in-Some-else_at.is

pub skip-requires-clause-fits : goal.skip-requires-clause-fits
skip-requires-clause-fits c =
    let k = c.requires.can in
    let g = if_target c.args.valid.now k.1.0 k.0 k.1.1.0 (Local k.1.1.1) c.args.m.now c.in-Some.target k.1.1.2 (sym c.in-Some.is ∙ c.target_at.ensures k.1.1.2.function (ap (λ (y : Level). function_at c.args.valid.now y.function) k.1.1.2.lies.here ∙ k.1.1.2.found)) in
    g.end_fits

pub unreachable-requires : goal.unreachable-requires
unreachable-requires c =
    let k = c.requires.can in
    let g = some_target c.args.valid.now k.1.0 k.0 k.1.1.0 (Local k.1.1.1) c.args.m.now k.1.1.2 in
    let e = sym c.in-None.is ∙ c.target_at.ensures k.1.1.2.function (ap (λ (y : Level). function_at c.args.valid.now y.function) k.1.1.2.lies.here ∙ k.1.1.2.found) ∙ g.2 in
    cc

pub returns-in-Some-else_at-clause-ok : goal.returns-in-Some-else_at-clause-ok
returns-in-Some-else_at-clause-ok c = on_ok_weaker c.enter.result
    (λ p t instance s after k. if_turns c.args.valid.now instance t s after c.args.m.now c.enter.new.m c.in-Some.target c.in-Some-else_at.turn k c.requires.zero
    (sym c.in-Some.is ∙ c.target_at.ensures k.function (ap (λ (y : Level). function_at c.args.valid.now y.function) k.lies.here ∙ k.found)) c.in-Some-else_at.is p) c.enter.ensures.ok

pub returns-in-None-else_at-clause-ok : goal.returns-in-None-else_at-clause-ok
returns-in-None-else_at-clause-ok c = λ t instance s after k. if_skips c.args.valid.now instance t s after c.args.m.now c.skip.new.m c.in-Some.target k c.requires.zero
    (sym c.in-Some.is ∙ c.target_at.ensures k.function (ap (λ (y : Level). function_at c.args.valid.now y.function) k.lies.here ∙ k.found)) c.in-None-else_at.is c.skip.ensures
