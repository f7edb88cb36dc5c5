use Rattle.std.proofs.Common.{refl, ap, ◌∙◌, length, ◌≤◌, rules}
use Rattle.wasm_types.specs.declared.modules.Body.{Body}
use Rattle.wasm_types.specs.Locals.{locals_of}
use Rattle.integer_machine.proofs.Counting.{most_more, all_taken}
use Rattle.integer_machine.proofs.state.most_locals.Goals as goal

pub loop-body-preserved : goal.loop-body-preserved
loop-body-preserved c =
    let a : c.loop-body.most ≤ c.max-most.result = search rules in
    let b : c.in_ok-declared_locals.field-0 ≤ c.max-most.result = search rules in
    most_more c.args.bodies.now c.args.bodies.now c.loop-body.body-index c.body-item.result c.loop-body.most c.in_ok-declared_locals.field-0 c.max-most.result refl c.loop-body-test.true
    (c.in_ok-declared_locals.ensures.ok ∙ ap (λ (b : Body). length (locals_of b.locals)) c.body-item.is) a b c.loop-body.invariant

pub returns : goal.returns
returns c = all_taken c.args.bodies.now c.loop-body.body-index c.loop-body.most c.loop-body-test.false c.loop-body.invariant
