use Rattle.std.proofs.Common.{ℕ, List, true, false, refl}
use Rattle.adapter_messages.specs.Exchanges.{at_of, IsBroken}
use Rattle.adapter_messages.specs.Failures.{unsent}
use Rattle.adapter_messages.specs.declared.exchanging.ExchangeFault.{ExchangeFault}
use Rattle.adapter_messages.proofs.Going.{came_as, err_is, none_more, none_yet, unframed, goes_on, asked, waiting, cut_short}
use Rattle.adapter_messages.proofs.Turning.{turn_answered, turn_held}
use Rattle.adapter_messages.proofs.exchanging.exchange.Goals as goal

pub loop-content-init : goal.loop-content-init
loop-content-init g c =
    let start = at_of (g.A.Attend.state c.args.attendant.now) c.args.number.now in
    record {
      begun = none_yet g.A.Attend.holds_back g.A.Attend.attends g.R.Source.brings g.met.R.Source.brings_more g.W.Sink.takes g.met.W.Sink.takes_more c.args.source.now c.args.output.now start
          (g.met.R.Source.brings_nothing c.args.source.now) (g.met.W.Sink.takes_nothing c.args.output.now);
      suits = c.requires.suits;
      source = refl;
      output = refl;
    }

pub returns-in-Err-clause-stopped : goal.returns-in-Err-clause-stopped
returns-in-Err-clause-stopped g c =
    let s = at_of (g.A.Attend.state c.loop-content.attendant) c.loop-content.number in
    let start = at_of (g.A.Attend.state c.args.attendant.now) c.args.number.now in
    let h = rw c.in-Err.fault-is at c.in-Err.ensures.stopped in
    unframed g.A.Attend.holds_back g.A.Attend.attends g.R.Source.brings g.met.R.Source.brings_more g.W.Sink.takes g.met.W.Sink.takes_more c.args.source.now c.args.output.now start c.loop-content.source c.loop-content.output s
    c.loop-content.invariant.begun c.read_frame.new.source (g.R.Source.ended c.read_frame.new.source) c.in-Err.fault h.0 h.1 h.2

pub returns-in_err-answer-clause-stopped : goal.returns-in_err-answer-clause-stopped
returns-in_err-answer-clause-stopped g c =
    let f = c.in_err-answer.field-0.0 in
    let turn = c.in_err-answer.ensures.turn in
    let content = c.as_slice.result.now in
    let s = at_of (g.A.Attend.state c.loop-content.attendant) c.loop-content.number in
    let u = at_of (g.A.Attend.state c.answer.new.attendant) c.answer.new.number in
    let start = at_of (g.A.Attend.state c.args.attendant.now) c.args.number.now in
    let ended = g.R.Source.ended c.read_frame.new.source in
    let h = rw c.in-Ok-Some.field-0-is at c.in-Ok-Some.ensures.frame in
    let came = came_as g.A.Attend.holds_back g.A.Attend.attends g.R.Source.brings g.met.R.Source.brings_more g.W.Sink.takes g.met.W.Sink.takes_more c.args.source.now c.args.output.now start c.loop-content.source c.in-Ok-Some.content.items content
    c.read_frame.new.source c.as_slice.ensures.value h in
    err_is (λ (fault : ExchangeFault). (came text : List ℕ) × g.R.Source.brings c.args.source.now came c.read_frame.new.source × g.W.Sink.takes c.args.output.now text c.answer.new.output × IsBroken g.A.Attend.holds_back g.A.Attend.attends came start ended fault text u)
    c.from_residual.result (unsent f) c.from_residual.ensures.1
    (cut_short g.A.Attend.holds_back g.A.Attend.attends g.R.Source.brings g.met.R.Source.brings_more g.W.Sink.takes g.met.W.Sink.takes_more c.args.source.now c.args.output.now start c.loop-content.source c.loop-content.output s
    c.loop-content.invariant.begun c.read_frame.new.source content came ended f turn.0 u c.answer.new.output turn.1 turn.2)

pub returns-in-Answered-false-clause-ended : goal.returns-in-Answered-false-clause-ended
returns-in-Answered-false-clause-ended g c =
    let content = c.as_slice.result.now in
    let s = at_of (g.A.Attend.state c.loop-content.attendant) c.loop-content.number in
    let u = at_of (g.A.Attend.state c.answer.new.attendant) c.answer.new.number in
    let start = at_of (g.A.Attend.state c.args.attendant.now) c.args.number.now in
    let turn = turn_answered g.A.Attend.holds_back g.A.Attend.attends content s (λ text. g.W.Sink.takes c.loop-content.output text c.answer.new.output) u c.in_ok-answer.field-0 c.in-Answered-false.goes_on false c.in-Answered-false.is c.in-Answered-false.goes_on-test
    c.in_ok-answer.ensures.turn in
    let h = rw c.in-Ok-Some.field-0-is at c.in-Ok-Some.ensures.frame in
    let came = came_as g.A.Attend.holds_back g.A.Attend.attends g.R.Source.brings g.met.R.Source.brings_more g.W.Sink.takes g.met.W.Sink.takes_more c.args.source.now c.args.output.now start c.loop-content.source c.in-Ok-Some.content.items content
    c.read_frame.new.source c.as_slice.ensures.value h in
    asked g.A.Attend.holds_back g.A.Attend.attends g.R.Source.brings g.met.R.Source.brings_more g.W.Sink.takes g.met.W.Sink.takes_more c.args.source.now c.args.output.now start c.loop-content.source c.loop-content.output s
    c.loop-content.invariant.begun c.read_frame.new.source content came turn.0 u c.answer.new.output turn.1 turn.2

pub returns-in-HeldBack-clause-ended : goal.returns-in-HeldBack-clause-ended
returns-in-HeldBack-clause-ended g c =
    let content = c.as_slice.result.now in
    let s = at_of (g.A.Attend.state c.loop-content.attendant) c.loop-content.number in
    let u = at_of (g.A.Attend.state c.answer.new.attendant) c.answer.new.number in
    let start = at_of (g.A.Attend.state c.args.attendant.now) c.args.number.now in
    let turn = turn_held g.A.Attend.holds_back g.A.Attend.attends content s (λ text. g.W.Sink.takes c.loop-content.output text c.answer.new.output) u c.in_ok-answer.field-0 c.in-HeldBack.request c.in-HeldBack.is c.in_ok-answer.ensures.turn in
    let h = rw c.in-Ok-Some.field-0-is at c.in-Ok-Some.ensures.frame in
    let came = came_as g.A.Attend.holds_back g.A.Attend.attends g.R.Source.brings g.met.R.Source.brings_more g.W.Sink.takes g.met.W.Sink.takes_more c.args.source.now c.args.output.now start c.loop-content.source c.in-Ok-Some.content.items content
    c.read_frame.new.source c.as_slice.ensures.value h in
    waiting g.A.Attend.holds_back g.A.Attend.attends g.R.Source.brings g.met.R.Source.brings_more g.W.Sink.takes g.met.W.Sink.takes_more c.args.source.now c.args.output.now start c.loop-content.source c.loop-content.output s
    c.loop-content.invariant.begun c.read_frame.new.source content came c.in-HeldBack.request u c.answer.new.output turn.0 turn.1 turn.2

pub loop-content-preserved : goal.loop-content-preserved
loop-content-preserved g c =
    let content = c.as_slice.result.now in
    let s = at_of (g.A.Attend.state c.loop-content.attendant) c.loop-content.number in
    let u = at_of (g.A.Attend.state c.answer.new.attendant) c.answer.new.number in
    let start = at_of (g.A.Attend.state c.args.attendant.now) c.args.number.now in
    let turn = turn_answered g.A.Attend.holds_back g.A.Attend.attends content s (λ text. g.W.Sink.takes c.loop-content.output text c.answer.new.output) u c.in_ok-answer.field-0 c.in-Answered-true.goes_on true c.in-Answered-true.is c.in-Answered-true.goes_on-test
    c.in_ok-answer.ensures.turn in
    let h = rw c.in-Ok-Some.field-0-is at c.in-Ok-Some.ensures.frame in
    let came = came_as g.A.Attend.holds_back g.A.Attend.attends g.R.Source.brings g.met.R.Source.brings_more g.W.Sink.takes g.met.W.Sink.takes_more c.args.source.now c.args.output.now start c.loop-content.source c.in-Ok-Some.content.items content
    c.read_frame.new.source c.as_slice.ensures.value h in
    record {
      begun = goes_on g.A.Attend.holds_back g.A.Attend.attends g.R.Source.brings g.met.R.Source.brings_more g.W.Sink.takes g.met.W.Sink.takes_more c.args.source.now c.args.output.now start c.loop-content.source c.loop-content.output s
          c.loop-content.invariant.begun c.read_frame.new.source content came turn.0 u c.answer.new.output turn.1 turn.2;
      suits = c.answer.ensures.suits;
      source = none_more (g.R.Source.failed c.args.source.now) (g.R.Source.failed c.loop-content.source) (g.R.Source.failed c.read_frame.new.source) c.in-Ok-Some.ensures.failures c.loop-content.invariant.source;
      output = none_more (g.W.Sink.failed c.args.output.now) (g.W.Sink.failed c.loop-content.output) (g.W.Sink.failed c.answer.new.output) c.in_ok-answer.ensures.failures c.loop-content.invariant.output;
    }
