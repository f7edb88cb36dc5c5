use Rattle.std.proofs.Common.{rules, arith, ◌≡◌, ◌<◌, length}
use Rattle.std.proofs.lemmas.Grind.{common_steps}
use Rattle.integer_machine.proofs.Typed.{is_within}
use Rattle.integer_machine.proofs.values.first_values.Goals as goal

pub bounds-words-len : goal.bounds-words-len
bounds-words-len c =
    let h = is_within c.args.types.now c.args.words.now c.loop-t.t-index c.loop-t-test.true c.loop-t.invariant.so_far.have in
    let n = c.loop-t.invariant.count in
    let l : c.len.result ≡ length c.loop-t.values.items = search rules in
    omega (arith, h, n, l)

pub offset_bounds-words-len : goal.offset_bounds-words-len
offset_bounds-words-len c =
    let h = is_within c.args.types.now c.args.words.now c.loop-t.t-index c.loop-t-test.true c.loop-t.invariant.so_far.have in
    let n = c.loop-t.invariant.count in
    let l : c.len.result ≡ length c.loop-t.values.items = search rules in
    let b : c.len.result < length c.args.words.now = omega (arith, h, n, l) in
    grind (arith, common_steps, b)
