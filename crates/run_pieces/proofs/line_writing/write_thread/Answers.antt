-- The line of one piece more is written.
use Rattle.std.proofs.Common.{◌+◌, ◌<◌, ◌≤◌, rules, refl, ◌∙◌, length}
use Rattle.std.specs.List.{flat_map}
use Rattle.std.proofs.lemmas.Result.{err_from_is_err_and}
use Rattle.log_pieces.specs.Line.{line_of}
use Rattle.replica.proofs.LinesWritten.{lines_none, lines_more, lines_began, as_put, as_put_began}
use Rattle.run_pieces.specs.Cut.{piece_at, piece_count, thread_pieces}
use Rattle.run_pieces.proofs.Loops.{part_behind}
use Rattle.run_pieces.proofs.LineText.{lines_all, lines_left, lines_at_first, lines_from_piece, no_lines_left}
use Rattle.run_pieces.proofs.line_writing.write_thread.Goals as goal

pub loop-index-init : goal.loop-index-init
loop-index-init g c =
    let f = piece_at c.args.cut.now.key.now c.args.cut.now.thread c.args.cut.now.log.now c.args.cut.now.size in
    let n = piece_count c.args.cut.now.size (length c.args.cut.now.log.now.entries) in
    record {
      lines = lines_none g.W.Sink.takes g.met.W.Sink.takes_nothing c.args.sink.now c.args.room.now (flat_map line_of (thread_pieces c.args.cut.now.key.now c.args.cut.now.thread c.args.cut.now.log.now c.args.cut.now.size)) (lines_left f 0 n) (lines_at_first f n);
      room = c.requires.room;
      same = refl;
      left = search rules;
    }

pub loop-index-preserved : goal.loop-index-preserved
loop-index-preserved g c =
    let f = piece_at c.args.cut.now.key.now c.args.cut.now.thread c.args.cut.now.log.now c.args.cut.now.size in
    let n = piece_count c.args.cut.now.size (length c.args.cut.now.log.now.entries) in
    let i = c.loop-index.index in
    let inside : i < n = search rules in
    record {
      lines = lines_more g.met.W.Sink.takes_more (line_of (f i)) (lines_left f (i + 1) n) c.loop-index.invariant.lines (lines_from_piece f i n inside) refl (as_put c.in_ok-write_piece.ensures.wrote);
      room = c.in_ok-write_piece.ensures.room;
      same = c.in_ok-write_piece.ensures.none_failed ∙ c.loop-index.invariant.same;
      left = part_behind c.args.cut.now.log.now.entries c.loop-index.entries c.write_piece.new.entries i c.args.cut.now.size c.in_ok-write_piece.ensures.left c.loop-index.invariant.left;
    }

pub returns-in_err-write_piece-clause-began : goal.returns-in_err-write_piece-clause-began
returns-in_err-write_piece-clause-began g c =
    let f = piece_at c.args.cut.now.key.now c.args.cut.now.thread c.args.cut.now.log.now c.args.cut.now.size in
    let n = piece_count c.args.cut.now.size (length c.args.cut.now.log.now.entries) in
    let i = c.loop-index.index in
    let inside : i < n = search rules in
    rw (err_from_is_err_and c.from_residual.result c.from_residual.ensures.1).1
    (lines_began g.met.W.Sink.takes_more (line_of (f i)) (lines_left f (i + 1) n) c.loop-index.invariant.lines (lines_from_piece f i n inside) refl (as_put_began c.in_err-write_piece.ensures.began))

pub returns-clause-wrote : goal.returns-clause-wrote
returns-clause-wrote g c =
    let f = piece_at c.args.cut.now.key.now c.args.cut.now.thread c.args.cut.now.log.now c.args.cut.now.size in
    let n = piece_count c.args.cut.now.size (length c.args.cut.now.log.now.entries) in
    let past : n ≤ c.loop-index.index = search rules in
    lines_all c.loop-index.invariant.lines (no_lines_left f c.loop-index.index n past)
