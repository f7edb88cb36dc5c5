use Rattle.std.proofs.Common.{rules, arith, ◌≡◌, ◌<◌, ◌+◌, length, refl}
use Rattle.thread_words.specs.Thread.{most_frames}
use Rattle.thread_words.proofs.Entering.{overflows}
use Rattle.thread_words.proofs.calls.call_function.Goals as goal

pub returns-then-len-frame_limit-clause-ok : goal.returns-then-len-frame_limit-clause-ok
returns-then-len-frame_limit-clause-ok c = λ s after k.
    let size : c.len.result ≡ length c.args.m.now.callers.items = search rules in
    let deep : most_frames c.args.m.now.starting < length c.args.m.now.callers.items + 2 = omega arith in
    overflows c.args.valid.now c.args.function c.args.taken s after c.args.m.now _ k deep refl
