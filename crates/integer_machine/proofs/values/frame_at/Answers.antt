use Rattle.std.proofs.Common.{rules, arith, ◌≡◌, ◌≤◌, ◌-◌, List, ℕ, None, length, sym, subst, take, drop, slice_get}
use Rattle.std.specs.Option.{IfNone}
use Rattle.std.proofs.lemmas.Grind.{common_steps}
use Rattle.integer_machine.specs.Frames.{IsFrameAt}
use Rattle.integer_machine.specs.Meaning.{meaning}
use Rattle.integer_machine.specs.Standing.{functions_of}
use Rattle.integer_machine.proofs.Frames.{frame_there, no_level, has_end}
use Rattle.integer_machine.proofs.values.frame_at.Goals as goal

pub returns-in_err-level-clause-none : goal.returns-in_err-level-clause-none
returns-in_err-level-clause-none c = λ within k.
    subst (λ x. IfNone x (slice_get (functions_of (meaning within c.args.m.now)) c.args.depth ≡ None)) (sym c.from_residual.ensures) (no_level within c.args.m.now k c.in_default.not-Ended c.args.depth c.in_err-level.ensures)

pub returns-in_err-end : goal.returns-in_err-end
returns-in_err-end c = absurd (has_end c.requires.0 c.args.m.now c.requires.1 c.in_default.not-Ended c.args.depth c.in_ok-level.level.now c.in_ok-level.ensures c.in_err-end.ensures)

pub slice_bounds-result-count : goal.slice_bounds-result-count
slice_bounds-result-count c =
    (frame_there c.requires.0 c.args.m.now c.requires.1 c.in_default.not-Ended c.args.depth c.in_ok-level.level.now c.in_ok-end.end c.in_ok-level.ensures c.in_ok-end.ensures).begins

pub offset_bounds-deref-level : goal.offset_bounds-deref-level
offset_bounds-deref-level c =
    let f = frame_there c.requires.0 c.args.m.now c.requires.1 c.in_default.not-Ended c.args.depth c.in_ok-level.level.now c.in_ok-end.end c.in_ok-level.ensures c.in_ok-end.ensures in
    let b : c.in_ok-level.level.now.words ≤ c.in_ok-end.end = f.begins in
    let e : c.in_ok-end.end ≤ length c.deref.result.now = subst (λ (x : List ℕ). c.in_ok-end.end ≤ length x) (sym c.deref.ensures.value) f.ends in
    grind (arith, common_steps, b, e)

pub slice_bounds-result-start : goal.slice_bounds-result-start
slice_bounds-result-start c =
    let f = frame_there c.requires.0 c.args.m.now c.requires.1 c.in_default.not-Ended c.args.depth c.in_ok-level.level.now c.in_ok-end.end c.in_ok-level.ensures c.in_ok-end.ensures in
    let b : c.in_ok-level.level.now.words ≤ c.in_ok-end.end = f.begins in
    search (rules, b)

pub slice_bounds-result-end : goal.slice_bounds-result-end
slice_bounds-result-end c =
    let f = frame_there c.requires.0 c.args.m.now c.requires.1 c.in_default.not-Ended c.args.depth c.in_ok-level.level.now c.in_ok-end.end c.in_ok-level.ensures c.in_ok-end.ensures in
    let e : c.in_ok-end.end ≤ length c.deref.result.now = subst (λ (x : List ℕ). c.in_ok-end.end ≤ length x) (sym c.deref.ensures.value) f.ends in
    search (rules, e)

pub returns : goal.returns
returns c = record {
  some = λ within k.
      let f = frame_there within c.args.m.now k c.in_default.not-Ended c.args.depth c.in_ok-level.level.now c.in_ok-end.end c.in_ok-level.ensures c.in_ok-end.ensures in
      subst (λ (x : List ℕ). IsFrameAt within (meaning within c.args.m.now) c.args.depth c.in_ok-level.level.now.function (take (c.in_ok-end.end - c.in_ok-level.level.now.words) (drop c.in_ok-level.level.now.words x)))
      (sym c.deref.ensures.value) f.there;
  none = λ within k. tt;
}
