use Rattle.std.proofs.Common.{◌<◌, ◌++◌, ◌&&◌, ◌∙◌, List, false, length, get_or, ap, subst, string_bytes}
use Rattle.std.specs.Prelude.{slice_get}
use Rattle.wasm_types.specs.declared.modules.Global.{Global}
use Rattle.thread_plan.specs.Hints.{may_be_stack, line_of_many}
use Rattle.thread_plan.specs.Starts.{threads_in}
use Rattle.thread_plan.proofs.Hinted.{same_threads, hint_made, hint_left}
use Rattle.thread_plan.proofs.lines.stack_hints.Goals as goal
use Rattle.thread_plan.proofs.lines.stack_hints.Goals.{then-may_be_stack+in_ok-put_stack_hint, else-may_be_stack}

pub loop-global-preserved : goal.loop-global-preserved
loop-global-preserved c =
    let g = c.loop-global.global in
    let starts = c.in_ok-starts.starts.items in
    let within : g < length c.args.module.now.globals = subst (λ (gs : List Global). g < length gs) c.as_slice-globals.ensures c.loop-global-test.true in
    let test = c.may_be_stack.ensures ∙ ap (λ (gs : List Global). may_be_stack (slice_get gs g) && get_or c.deref.result.now g false) c.as_slice-globals.ensures ∙ ap (λ marks. may_be_stack (slice_get c.args.module.now.globals g) && get_or marks g false) c.deref.ensures.value in
    let same = same_threads c.args.module.now c.args.plan.now.threads starts g c.in_ok-starts.ensures.count (λ t. c.in_ok-starts.ensures.begin g t within) in
    elim c.if-may_be_stack.branch [
      | then-may_be_stack+in_ok-put_stack_hint w ↦ hint_made c.args.module.now c.args.plan.now.threads starts g _ c.may_be_stack.result (string_bytes c.loop-global.text) _ c.loop-global.invariant test (c.in_ok-marks.ensures.marked g within) w.if-may_be_stack.true same
          (ap string_bytes w.text-is ∙ w.in_ok-put_stack_hint.ensures ∙ ap (λ ss. string_bytes c.loop-global.text ++ line_of_many g (threads_in ss g)) w.deref-then-may_be_stack.ensures.value)
      | else-may_be_stack w ↦ hint_left c.args.module.now c.args.plan.now.threads starts g _ c.may_be_stack.result (string_bytes c.loop-global.text) _ c.loop-global.invariant test (c.in_ok-marks.ensures.marked g within) w.if-may_be_stack.false (ap string_bytes w.text-is)
    ]
