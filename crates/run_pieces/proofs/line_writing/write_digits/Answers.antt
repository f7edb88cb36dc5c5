-- The digits of one part more are put, and the room is written where it is full.
use Rattle.std.proofs.Common.{◌≡◌, length, rules, refl, ap, ◌∙◌, arith}
use Rattle.std.proofs.lemmas.Result.{err_from_is_err_and}
use Rattle.hex.specs.Hex.{encode_lower}
use Rattle.replica.proofs.LinesWritten.{lines_none, lines_more, lines_began}
use Rattle.run_pieces.proofs.LineText.{lines_all, digits_append, no_digits}
use Rattle.run_pieces.proofs.line_writing.write_digits.Goals as goal

pub loop-rest-init : goal.loop-rest-init
loop-rest-init g c = record {
  lines = lines_none g.W.Sink.takes g.met.W.Sink.takes_nothing c.args.sink.now c.args.room.now (encode_lower c.args.bytes.now) (encode_lower c.args.bytes.now) refl;
  room = c.requires.room;
  same = refl;
}

pub loop-rest-preserved : goal.loop-rest-preserved
loop-rest-preserved g c =
    let part = c.split_at.result.0.now in
    let behind = c.split_at.result.1.now in
    let split = ap encode_lower c.split_at.ensures.by_index.0 ∙ digits_append part behind in
    record {
      lines = lines_more g.met.W.Sink.takes_more (encode_lower part) (encode_lower behind) c.loop-rest.invariant.lines split c.put.ensures.text c.in_ok-flush.ensures.wrote;
      room = omega (arith, c.in_ok-flush.ensures.room);
      same = c.in_ok-flush.ensures.none_failed ∙ c.loop-rest.invariant.same;
    }

pub returns-in_err-flush-clause-began : goal.returns-in_err-flush-clause-began
returns-in_err-flush-clause-began g c =
    let part = c.split_at.result.0.now in
    let behind = c.split_at.result.1.now in
    let split = ap encode_lower c.split_at.ensures.by_index.0 ∙ digits_append part behind in
    rw (err_from_is_err_and c.from_residual.result c.from_residual.ensures.1).1
    (lines_began g.met.W.Sink.takes_more (encode_lower part) (encode_lower behind) c.loop-rest.invariant.lines split c.put.ensures.text c.in_err-flush.ensures.began)

pub returns-clause-wrote : goal.returns-clause-wrote
returns-clause-wrote g c =
    let none : length c.loop-rest.rest.now ≡ 0 = search rules in
    lines_all c.loop-rest.invariant.lines (no_digits c.loop-rest.rest.now none)
