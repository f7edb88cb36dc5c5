use Rattle.std.proofs.Common.{ap, ◌∙◌, ◌≡◌, ℕ, List, arith, length, vec_len}
use Rattle.replay_gate.specs.declared.breaks.Break.{Break}
use Rattle.debugger.specs.Answers.{answer_text}
use Rattle.debugger.specs.At.{at_of}
use Rattle.debugger.specs.Replies.{DebugAt, paused_line}
use Rattle.debugger.proofs.Pausing.{move_told, past_moves}
use Rattle.debugger.proofs.debugger.Debugger.run_past.Goals as goal

pub returns-clause-passes : goal.returns-clause-passes
returns-clause-passes c =
    let s = at_of c.args.self.now in
    let u = at_of c.pass-how.new.self in
    let how = c.pass-how.result in
    let same = past_moves s c.args.passes u how c.pass-how.ensures.past in
    let counted : vec_len c.pass-how.new.self.instructions ≡ length u.instructions = omega (arith, c.pass-how.new.self.instructions.ok.0) in
    let head = c.paused_line.ensures ∙ ap (λ (bs : List Break). paused_line how bs c.len.result) (c.deref.ensures.value ∙ ap (λ (z : DebugAt). z.breaks) same)
    ∙ ap (λ (n : ℕ). paused_line how s.breaks n) (c.len.ensures ∙ counted ∙ ap (λ (z : DebugAt). length z.instructions) same) in
    record {
      how = how;
      runs = c.pass-how.ensures.past;
      moves = record {
        same = same;
        led = c.moved.ensures.led;
        is = move_told s u c.paused_line.result.bytes (paused_line how s.breaks (length s.instructions)) (answer_text c.moved.result) same head c.moved.ensures.tells;
      };
    }
