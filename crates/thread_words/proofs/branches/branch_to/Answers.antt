use Rattle.std.proofs.Common.{◌≡◌, ◌-◌, ◌∙◌, refl, ap, subst, arith, rules, length}
use Rattle.thread_words.specs.Thread.{function_at}
use Rattle.thread_words.specs.declared.stacks.Level.{Level}
use Rattle.thread_words.specs.Words.{Stands}
use Rattle.thread_words.specs.FunctionCode.{IsBody}
use Rattle.thread_words.proofs.Landings.{depth_is, branch_leaves}
use Rattle.thread_words.proofs.branches.branch_to.Goals as goal

pub is_inner-requires : goal.is_inner-requires
is_inner-requires c =
    let k = c.requires in
    let d = (depth_is c.args.valid.now c.args.depth k.0 k.1 c.args.m.now k.2).1 in
    omega (arith, d)

pub leave-requires : goal.leave-requires
leave-requires c =
    let k = c.requires in
    let d = (depth_is c.args.valid.now c.args.depth k.0 k.1 c.args.m.now k.2).1 in
    let o : length c.args.m.now.labels.items - c.args.m.now.here.labels ≡ c.args.depth = c.is_inner.ensures.outer (search rules) in
    let e : c.args.depth ≡ length k.0.top.activation.labels = omega (arith, d, o) in
    (k.0, k.2.function, (branch_leaves c.args.valid.now c.args.depth k.0 k.1 c.args.m.now k.2 e).0)

pub code_of_function-code-requires : goal.code_of_function-code-requires
code_of_function-code-requires c = let k = c.requires.2 in (k.function, ap (λ (y : Level). function_at c.args.valid.now y.function) k.lies.here ∙ k.found)

pub targets_of_function-targets-requires : goal.targets_of_function-targets-requires
targets_of_function-targets-requires c = let k = c.requires.2 in (k.function, ap (λ (y : Level). function_at c.args.valid.now y.function) k.lies.here ∙ k.found)

pub land_inside-m-requires : goal.land_inside-m-requires
land_inside-m-requires c =
    let body : IsBody c.args.valid.now c.args.m.now.here.function c.code_of_function-code.result.now c.targets_of_function-targets.result.now =
    record { its_code = c.code_of_function-code.ensures; its_targets = c.targets_of_function-targets.ensures } in
    (c.args.valid.now, c.args.m.now.here.function, body, (c.args.m.now, refl, c.is_inner.ensures.inner (search rules), c.requires))

pub returns-then-not-is_inner-clause-steps : goal.returns-then-not-is_inner-clause-steps
returns-then-not-is_inner-clause-steps c = λ s after k.
    let d = (depth_is c.args.valid.now c.args.depth s after c.args.m.now k).1 in
    let o : length c.args.m.now.labels.items - c.args.m.now.here.labels ≡ c.args.depth = c.is_inner.ensures.outer (search rules) in
    let e : c.args.depth ≡ length s.top.activation.labels = omega (arith, d, o) in
    let p = branch_leaves c.args.valid.now c.args.depth s after c.args.m.now k e in
    subst (λ x. Stands x c.leave.new.m) p.1 (c.leave.ensures s k.function p.0)

pub returns-clause-steps : goal.returns-clause-steps
returns-clause-steps c = λ s after k.
    let body : IsBody c.args.valid.now c.args.m.now.here.function c.code_of_function-code.result.now c.targets_of_function-targets.result.now =
    record { its_code = c.code_of_function-code.ensures; its_targets = c.targets_of_function-targets.ensures } in
    c.land_inside-m.ensures.lands c.args.valid.now c.args.m.now.here.function body c.args.m.now refl (c.is_inner.ensures.inner (search rules)) s after k
