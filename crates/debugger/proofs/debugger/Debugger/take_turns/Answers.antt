use Rattle.std.proofs.Common.{◌+◌, drop, sym, ap, ◌∙◌}
use Rattle.std.proofs.lemmas.List.{drop_all, drop_more}
use Rattle.debugger.specs.At.{at_of}
use Rattle.debugger.specs.Orders.{after_turns}
use Rattle.debugger.proofs.debugger.Debugger.take_turns.Goals as goal

pub loop-thread-preserved : goal.loop-thread-preserved
loop-thread-preserved c =
    let k = c.loop-thread.thread-index in
    let order = c.args.order.now in
    let turned = c.in_ok-take_turn.ensures in
    let inv = c.loop-thread.invariant in
    record {
      opens = turned.opens ∙ inv.opens;
      rest = ap (λ s. after_turns s (drop (k + 1) order)) turned.turn ∙ ap (after_turns (at_of c.loop-thread.self)) (sym (drop_more order k 0 c.loop-thread-test.true)) ∙ inv.rest;
    }

pub returns-clause-turns : goal.returns-clause-turns
returns-clause-turns c =
    ap (after_turns (at_of c.loop-thread.self)) (sym (drop_all c.loop-thread.thread-index c.args.order.now c.loop-thread-test.false)) ∙ c.loop-thread.invariant.rest
