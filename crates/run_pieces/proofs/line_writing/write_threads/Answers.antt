-- The lines of one thread more are written.
use Rattle.std.proofs.Common.{◌+◌, length, drop, refl, ap, ◌∙◌, arith}
use Rattle.std.specs.List.{flat_map}
use Rattle.std.proofs.lemmas.List.{drop_all}
use Rattle.std.proofs.lemmas.Option.{slice_get_read}
use Rattle.std.proofs.lemmas.Result.{err_from_is_err_and}
use Rattle.log_pieces.specs.Line.{line_of}
use Rattle.replica.proofs.LinesWritten.{lines_none, lines_more, lines_began, as_put, as_put_began}
use Rattle.run_pieces.specs.Cut.{thread_pieces, pieces_from, pieces_of}
use Rattle.run_pieces.proofs.LineText.{lines_all, lines_from_thread}
use Rattle.run_pieces.proofs.line_writing.write_threads.Goals as goal

pub write_thread-requires-clause-rules : goal.write_thread-requires-clause-rules
write_thread-requires-clause-rules g c =
    let log = c.index-logs-thread.result in
    let inside = c.loop-thread-test.true in
    let few = c.requires.keeps.few in
    record {
      numbered = omega (arith, inside, few);
      keeps = c.requires.keeps.each c.loop-thread.thread log (slice_get_read c.args.logs.now (length c.args.logs.now) c.loop-thread.thread log refl inside c.index-logs-thread.is);
      some = c.requires.some;
      few = c.requires.few;
    }

pub loop-thread-init : goal.loop-thread-init
loop-thread-init g c =
    let text = flat_map line_of (pieces_of c.args.key.now c.args.logs.now c.args.size) in
    record {
      lines = lines_none g.W.Sink.takes g.met.W.Sink.takes_nothing c.args.sink.now c.args.room.now text text refl;
      room = c.requires.room;
      same = refl;
    }

pub loop-thread-preserved : goal.loop-thread-preserved
loop-thread-preserved g c =
    let t = c.loop-thread.thread in
    let log = c.index-logs-thread.result in
    let split = lines_from_thread c.args.key.now c.args.size c.args.logs.now t log c.loop-thread-test.true c.index-logs-thread.is in
    record {
      lines = lines_more g.met.W.Sink.takes_more (flat_map line_of (thread_pieces c.args.key.now t log c.args.size)) (flat_map line_of (pieces_from c.args.key.now (t + 1) (drop (t + 1) c.args.logs.now) c.args.size))
          c.loop-thread.invariant.lines split refl (as_put c.in_ok-write_thread.ensures.wrote);
      room = c.in_ok-write_thread.ensures.room;
      same = c.in_ok-write_thread.ensures.none_failed ∙ c.loop-thread.invariant.same;
    }

pub returns-in_err-write_thread-clause-began : goal.returns-in_err-write_thread-clause-began
returns-in_err-write_thread-clause-began g c =
    let t = c.loop-thread.thread in
    let log = c.index-logs-thread.result in
    let split = lines_from_thread c.args.key.now c.args.size c.args.logs.now t log c.loop-thread-test.true c.index-logs-thread.is in
    rw (err_from_is_err_and c.from_residual.result c.from_residual.ensures.1).1
    (lines_began g.met.W.Sink.takes_more (flat_map line_of (thread_pieces c.args.key.now t log c.args.size)) (flat_map line_of (pieces_from c.args.key.now (t + 1) (drop (t + 1) c.args.logs.now) c.args.size))
    c.loop-thread.invariant.lines split refl (as_put_began c.in_err-write_thread.ensures.began))

pub returns-clause-wrote : goal.returns-clause-wrote
returns-clause-wrote g c =
    lines_all c.loop-thread.invariant.lines
    (ap (λ logs. flat_map line_of (pieces_from c.args.key.now c.loop-thread.thread logs c.args.size)) (drop_all c.loop-thread.thread c.args.logs.now c.loop-thread-test.false))
