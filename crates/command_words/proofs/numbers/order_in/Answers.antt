use Rattle.std.proofs.Common.{rules, suc, ◌≡◌, [], ◌∷◌, length, ap, arith}
use Rattle.std.specs.Prelude.{Some}
use Rattle.text_lines.specs.Parts.{parts_left}
use Rattle.command_words.specs.Words.{number_up_to}
use Rattle.command_words.proofs.Digits.{broken, one_more, whole}
use Rattle.command_words.proofs.numbers.order_in.Goals as goal

pub returns-in_default-small_number_up_to : goal.returns-in_default-small_number_up_to
returns-in_default-small_number_up_to c = broken c.args.text.now c.loop-part.order.items c.in-Some.part.now _ _ c.loop-part.invariant.same c.in-Some.ensures (search rules)

pub loop-part-preserved : goal.loop-part-preserved
loop-part-preserved c =
    let left : parts_left c.loop-part.parts ≡ c.in-Some.part.now ∷ parts_left c.take_part.new.self = c.in-Some.ensures in
    let left_count : length (parts_left c.loop-part.parts) ≡ suc (length (parts_left c.take_part.new.self)) = ap length left in
    let some : number_up_to 4294967295 c.in-Some.part.now ≡ Some c.in-Some-small_number_up_to.thread = search rules in
    record {
      same = rw c.in_ok-push.ensures.items (one_more c.args.text.now c.loop-part.order.items c.in-Some.part.now c.in-Some-small_number_up_to.thread _ _ c.loop-part.invariant.same left some);
      count = omega (arith, left_count, c.loop-part.invariant.count, c.in_ok-push.ensures.len);
      few = omega (arith, c.loop-part.invariant.few, c.in_ok-push.ensures.len, c.if-len-eq-MOST_TURNS.false, c.len.ensures);
    }

pub returns : goal.returns
returns c =
    let left : parts_left c.loop-part.parts ≡ [] = search rules in
    let none : length (parts_left c.loop-part.parts) ≡ 0 = ap length left in
    whole c.args.text.now c.loop-part.order.items _ c.loop-part.invariant.same left (omega arith)
