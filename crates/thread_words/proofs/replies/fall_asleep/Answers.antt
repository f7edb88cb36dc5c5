use Rattle.std.proofs.Common.{◌+◌, ◌≤◌, ◌∙◌, sym, subst, length, arith, rules}
use Rattle.std.specs.Int.{w64}
use Rattle.std.proofs.Math.Facts.{Fits-of_lt}
use Rattle.std.proofs.lemmas.Int.{to_z-of_z}
use Rattle.wasm_types.specs.declared.operation.Reply.TheVariants.{Sleeps}
use Rattle.thread_words.specs.declared.stacks.Stage.TheVariants.{Sleeping}
use Rattle.thread_words.specs.Words.{Stands}
use Rattle.thread_words.specs.Thread.{Ask}
use Rattle.thread_words.proofs.Replying.{wait_holds, wait_fits, falls_asleep}
use Rattle.thread_words.proofs.Held.{enough}
use Rattle.thread_words.proofs.Here.{next_fits}
use Rattle.thread_words.proofs.replies.fall_asleep.Goals as goal

pub three_operands-base-requires : goal.three_operands-base-requires
three_operands-base-requires c = let k = c.requires in let p = k.2 in wait_holds p.0 p.1 k.0 c.args.offset p.2 (Ask p.3 p.4) c.args.m.now p.5 k.1

pub drop_top-requires-clause-place : goal.drop_top-requires-clause-place
drop_top-requires-clause-place c = let k = c.requires in let p = k.2 in next_fits p.0 p.1 k.0 p.2 (Ask p.3 p.4) c.args.m.now p.5

pub drop_top-requires-clause-enough : goal.drop_top-requires-clause-enough
drop_top-requires-clause-enough c =
    let k = c.requires in
    let p = k.2 in
    let h = wait_holds p.0 p.1 k.0 c.args.offset p.2 (Ask p.3 p.4) c.args.m.now p.5 k.1 in
    let all : 3 ≤ length c.args.m.now.words.items = enough _ h.2.0 c.args.m.now h.2.1 in
    omega arith

pub overflow_add-m : goal.overflow_add-m
overflow_add-m c = let k = c.requires in let p = k.2 in Fits-of_lt (wait_fits p.0 p.1 k.0 c.args.offset p.2 p.3 p.4 c.args.m.now c.three_operands-base.result.0 p.5 k.1 p.6 c.three_operands-base.ensures.first)

pub returns : goal.returns
returns c = λ i e m instance s action after k.
    let time = to_z-of_z w64 c.cast_signed.result (search rules) ∙ c.cast_signed.ensures in
    subst (λ y. Stands (after Sleeps) (record c.drop_top.new.m { stage = Sleeping (c.three_operands-base.result.0 + c.args.offset) y })) (sym time)
    (falls_asleep m instance i c.args.offset s action after c.args.m.now c.drop_top.new.m c.three_operands-base.result.0 c.three_operands-base.result.2 k e
    (record { first = c.three_operands-base.ensures.first; third = c.three_operands-base.ensures.third }) c.drop_top.ensures)
