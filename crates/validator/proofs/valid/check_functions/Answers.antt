use Rattle.std.proofs.Common.{length, subst, ◌<◌, ◌≤◌}
use Rattle.validator.proofs.Ruled.{typed_one_more, all_typed}
use Rattle.validator.proofs.valid.check_functions.Goals as goal

pub loop-function-preserved : goal.loop-function-preserved
loop-function-preserved c =
    typed_one_more c.args.module.now c.loop-function.targets.items c.push.new.self.items c.loop-function.function c.in_ok-found.found
    (subst (λ x. c.loop-function.function < length x) c.as_slice-function-end.ensures c.loop-function-test.true) c.loop-function.invariant
    c.in_ok-found.ensures.typed c.in_ok-found.ensures.targets c.in_ok-push.ensures.items

pub returns-clause-typed : goal.returns-clause-typed
returns-clause-typed c =
    all_typed c.args.module.now c.loop-function.targets.items c.loop-function.function
    (subst (λ x. length x ≤ c.loop-function.function) c.as_slice-function-end.ensures c.loop-function-test.false) c.loop-function.invariant
