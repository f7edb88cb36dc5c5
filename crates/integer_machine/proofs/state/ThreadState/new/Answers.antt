use Rattle.std.proofs.Common.{◌≡◌, ◌∙◌, ap, subst, slice_get, Some, rules}
use Rattle.wasm_types.specs.declared.modules.Module.{Module}
use Rattle.thread_plan.specs.Plans.{IsThreadOf}
use Rattle.thread_words.specs.Opening.{instance_of, opening}
use Rattle.thread_words.specs.Thread.{State}
use Rattle.thread_words.specs.Words.{instance_at, Stands}
use Rattle.integer_machine.specs.Sound.{HasMostOf}
use Rattle.integer_machine.proofs.Counting.{Begun, most_of, all_at, begun, first_is}
use Rattle.integer_machine.proofs.state.ThreadState.new.Goals as goal

planned_there : (c : goal.In_ok-stacks) → slice_get c.args.plan.now.threads c.args.thread ≡ Some c.in-Some.planned.now
planned_there c = search rules

instance_is : (c : goal.In_ok-stacks) → instance_at c.in_ok-instance.instance ≡ instance_of c.args.valid.now c.args.profile c.args.thread
instance_is c = c.in_ok-instance.ensures ∙ ap (λ m. instance_of m c.args.profile c.args.thread) c.module-module.ensures.module

begins : (c : goal.In_ok-stacks) → Begun c.args.valid.now c.in_ok-instance.instance c.in_ok-stacks.stacks c.in-Some.planned.now
begins c =
    begun c.args.valid.now c.args.profile c.args.thread c.in-Some.planned.now c.in_ok-instance.instance c.in_ok-stacks.stacks c.module-module.ensures.typed
    (all_at (IsThreadOf c.args.valid.now) c.args.plan.now.threads c.args.thread c.in-Some.planned.now c.requires.plan.threads (planned_there c)) (instance_is c)
    (subst (λ x. (first : State) → opening c.args.valid.now c.in-Some.planned.now.function x ≡ Some first → Stands first c.in_ok-stacks.stacks) c.as_slice-arguments.ensures c.in_ok-stacks.ensures)

pub invariant_of-result : goal.invariant_of-result
invariant_of-result c =
    ((begins c).sound, most_of c.args.valid.now c.in_ok-most_locals.most_locals (subst (λ x. HasMostOf x c.in_ok-most_locals.most_locals) (c.as_slice.ensures ∙ ap (λ (m : Module). m.bodies) c.module-module.ensures.module) c.in_ok-most_locals.ensures))

pub returns : goal.returns
returns c = first_is c.args.valid.now c.args.plan.now c.args.profile c.args.thread c.in-Some.planned.now c.in_ok-instance.instance c.in_ok-stacks.stacks (planned_there c) (instance_is c) (begins c).opened
