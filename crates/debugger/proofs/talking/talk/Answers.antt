use Rattle.std.proofs.Common.{◌≡◌, ℕ, ◌+◌, [], ◌∷◌, ◌++◌, inl, refl, sym, ap, ◌∙◌}
use Rattle.std.specs.Prelude.{false}
use Rattle.debugger.specs.Lines.{is_end}
use Rattle.debugger.proofs.Closing.{answer_of, goes_on, closed, closed_by_end, answered, untaken, untaken_at_end}
use Rattle.debugger.proofs.talking.talk.Goals as goal

pub returns-then-is_end-clause-done : goal.returns-then-is_end-clause-done
returns-then-is_end-clause-done g c =
    let got = c.next_line.ensures.last c.in-Ok-Last.line cc in
    closed_by_end g.D.Respond.replies g.R.Source.brings g.met.R.Source.brings_more g.W.Sink.takes g.met.W.Sink.takes_more c.args.source.now c.args.output.now (g.D.Respond.state c.args.debugger.now)
    c.loop-line.source c.loop-line.output (g.D.Respond.state c.loop-line.debugger) c.loop-line.invariant.begun c.next_line.new.source got.0 got.1 (g.R.Source.ended c.next_line.new.source) got.3 got.4
    (ap is_end (sym got.2) ∙ sym c.is_end.ensures ∙ c.if-is_end.true)

pub returns-in-Ok-clause-done : goal.returns-in-Ok-clause-done
returns-in-Ok-clause-done g c =
    let got = c.next_line.ensures.last c.in-Ok-Last.line cc in
    let reply = c.in-Ok.ensures.replied in
    let on : is_end c.in-Ok-Last.line ≡ false = sym c.is_end.ensures ∙ c.if-is_end.false in
    answered g.D.Respond.replies g.R.Source.brings g.met.R.Source.brings_more g.W.Sink.takes g.met.W.Sink.takes_more c.args.source.now c.args.output.now (g.D.Respond.state c.args.debugger.now)
    c.loop-line.source c.loop-line.output (g.D.Respond.state c.loop-line.debugger) c.loop-line.invariant.begun c.next_line.new.source got.0 got.1 (g.R.Source.ended c.next_line.new.source)
    reply.0 (g.D.Respond.state c.reply.new.debugger) c.reply.new.output got.3 got.4
    (answer_of g.D.Respond.replies c.in-Ok-Last.line got.0 (g.D.Respond.state c.loop-line.debugger) reply.0 (g.D.Respond.state c.reply.new.debugger) got.2 on reply.1) reply.2

pub returns-in-Err-reply-clause-broken : goal.returns-in-Err-reply-clause-broken
returns-in-Err-reply-clause-broken g c =
    let got = c.next_line.ensures.last c.in-Ok-Last.line cc in
    let reply = c.in-Err-reply.ensures.begun in
    let on : is_end c.in-Ok-Last.line ≡ false = sym c.is_end.ensures ∙ c.if-is_end.false in
    let cut =
    untaken_at_end g.D.Respond.replies g.R.Source.brings g.met.R.Source.brings_more g.W.Sink.takes g.met.W.Sink.takes_more c.args.source.now c.args.output.now (g.D.Respond.state c.args.debugger.now)
    c.loop-line.source c.loop-line.output (g.D.Respond.state c.loop-line.debugger) c.loop-line.invariant.begun c.next_line.new.source got.0 got.1 (g.R.Source.ended c.next_line.new.source)
    reply.0 reply.1 (g.D.Respond.state c.reply.new.debugger) c.reply.new.output got.3 got.4
    (answer_of g.D.Respond.replies c.in-Ok-Last.line got.0 (g.D.Respond.state c.loop-line.debugger) (reply.0 ++ reply.1) (g.D.Respond.state c.reply.new.debugger) got.2 on reply.2) reply.3 in
    (c.in-Err-reply.ensures.one_failed ∙ ap (λ (n : ℕ). n + 1) c.loop-line.invariant.output, cut.0, cut.1, cut.2)

pub returns-then-is_end-2-clause-done : goal.returns-then-is_end-2-clause-done
returns-then-is_end-2-clause-done g c =
    let got = c.next_line.ensures.whole c.in-Ok-Whole.line cc in
    closed g.D.Respond.replies g.R.Source.brings g.met.R.Source.brings_more g.W.Sink.takes g.met.W.Sink.takes_more c.args.source.now c.args.output.now (g.D.Respond.state c.args.debugger.now)
    c.loop-line.source c.loop-line.output (g.D.Respond.state c.loop-line.debugger) c.loop-line.invariant.begun c.next_line.new.source got.0 got.1 (g.R.Source.ended c.next_line.new.source) (10 ∷ []) got.3 (inl refl)
    (ap is_end (sym got.2) ∙ sym c.is_end-in-Ok-Whole.ensures ∙ c.if-is_end-2.true)

pub loop-line-preserved : goal.loop-line-preserved
loop-line-preserved g c =
    let got = c.next_line.ensures.whole c.in-Ok-Whole.line cc in
    let reply = c.in-Ok-reply.ensures.replied in
    let on : is_end c.in-Ok-Whole.line ≡ false = sym c.is_end-in-Ok-Whole.ensures ∙ c.if-is_end-2.false in
    record {
      begun = goes_on g.D.Respond.replies g.R.Source.brings g.met.R.Source.brings_more g.W.Sink.takes g.met.W.Sink.takes_more c.args.source.now c.args.output.now (g.D.Respond.state c.args.debugger.now)
          c.loop-line.source c.loop-line.output (g.D.Respond.state c.loop-line.debugger) c.loop-line.invariant.begun c.next_line.new.source got.0 got.1
          reply.0 (g.D.Respond.state c.reply-in-Ok-Whole.new.debugger) c.reply-in-Ok-Whole.new.output got.3
          (answer_of g.D.Respond.replies c.in-Ok-Whole.line got.0 (g.D.Respond.state c.loop-line.debugger) reply.0 (g.D.Respond.state c.reply-in-Ok-Whole.new.debugger) got.2 on reply.1) reply.2;
      suits = c.reply-in-Ok-Whole.ensures.suits;
      source = c.in-Ok-Whole.ensures.none_failed ∙ c.loop-line.invariant.source;
      output = c.in-Ok-reply.ensures.none_failed ∙ c.loop-line.invariant.output;
    }

pub returns-in-Err-reply-2-clause-broken : goal.returns-in-Err-reply-2-clause-broken
returns-in-Err-reply-2-clause-broken g c =
    let got = c.next_line.ensures.whole c.in-Ok-Whole.line cc in
    let reply = c.in-Err-reply-2.ensures.begun in
    let on : is_end c.in-Ok-Whole.line ≡ false = sym c.is_end-in-Ok-Whole.ensures ∙ c.if-is_end-2.false in
    let cut =
    untaken g.D.Respond.replies g.R.Source.brings g.met.R.Source.brings_more g.W.Sink.takes g.met.W.Sink.takes_more c.args.source.now c.args.output.now (g.D.Respond.state c.args.debugger.now)
    c.loop-line.source c.loop-line.output (g.D.Respond.state c.loop-line.debugger) c.loop-line.invariant.begun c.next_line.new.source got.0 got.1 (g.R.Source.ended c.next_line.new.source)
    (10 ∷ []) reply.0 reply.1 (g.D.Respond.state c.reply-in-Ok-Whole.new.debugger) c.reply-in-Ok-Whole.new.output got.3 (inl refl)
    (answer_of g.D.Respond.replies c.in-Ok-Whole.line got.0 (g.D.Respond.state c.loop-line.debugger) (reply.0 ++ reply.1) (g.D.Respond.state c.reply-in-Ok-Whole.new.debugger) got.2 on reply.2) reply.3 in
    (c.in-Err-reply-2.ensures.one_failed ∙ ap (λ (n : ℕ). n + 1) c.loop-line.invariant.output, cut.0, cut.1, cut.2)
