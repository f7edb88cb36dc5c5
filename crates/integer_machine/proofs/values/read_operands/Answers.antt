use Rattle.std.proofs.Common.{◌≤◌, length, subst, sym}
use Rattle.integer_machine.proofs.Frames.{locals_within, operands_are}
use Rattle.integer_machine.proofs.values.read_operands.Goals as goal

pub slice_bounds-result-count : goal.slice_bounds-result-count
slice_bounds-result-count c =
    let k = c.requires in
    subst (λ n. n ≤ length c.args.frame.words.now) (sym (c.count_locals-locals.ensures k.0 k.1)) (locals_within c.args.valid.now k.0 c.args.frame.function c.args.frame.words.now k.1)

pub returns : goal.returns
returns c = λ h k. operands_are c.args.valid.now h c.args.frame.function c.args.frame.words.now c.count_locals-locals.result k (c.count_locals-locals.ensures h k)
