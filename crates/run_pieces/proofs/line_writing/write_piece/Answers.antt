-- What stands before the entries, the entries, what stands behind them.
use Rattle.std.proofs.Common.{append_assoc, [], ◌∷◌, ◌++◌, take, length, ap, ◌∙◌}
use Rattle.std.specs.List.{flat_map}
use Rattle.std.proofs.lemmas.Result.{err_from_is_err_and, on_ok_weaker, on_err_weaker}
use Rattle.log_pieces.specs.Spelling.{entry_bytes, end_bytes}
use Rattle.hex.specs.Hex.{encode_lower}
use Rattle.run_pieces.specs.Cut.{piece_at}
use Rattle.run_pieces.proofs.LineText.{entries_began, line_wrote, line_began}
use Rattle.run_pieces.proofs.line_writing.write_piece.Goals as goal

pub open_line-requires-clause-count : goal.open_line-requires-clause-count
open_line-requires-clause-count g c = c.next_bytes-count.ensures.count ∙ ap (λ es. length (take c.args.cut.now.size es)) c.requires.at

pub returns-in_err-write_digits-clause-began : goal.returns-in_err-write_digits-clause-began
returns-in_err-write_digits-clause-began g c =
    let piece = piece_at c.args.cut.now.key.now c.args.cut.now.thread c.args.cut.now.log.now c.args.cut.now.size c.args.index in
    let spelled = c.next_bytes-count.ensures.bytes ∙ ap (λ es. flat_map entry_bytes (take c.args.cut.now.size es)) c.requires.at in
    rw (err_from_is_err_and c.from_residual.result c.from_residual.ensures.1).1
    (entries_began g.met.W.Sink.takes_more piece c.next_bytes-count.result.0.now spelled c.open_line.ensures.text c.in_err-write_digits.ensures.began)

pub returns-clause-wrote : goal.returns-clause-wrote
returns-clause-wrote g c =
    let piece = piece_at c.args.cut.now.key.now c.args.cut.now.thread c.args.cut.now.log.now c.args.cut.now.size c.args.index in
    let spelled = c.next_bytes-count.ensures.bytes ∙ ap (λ es. flat_map entry_bytes (take c.args.cut.now.size es)) c.requires.at in
    let closed = c.close_line.ensures.text ∙ ap (λ e. c.write_digits.new.room ++ encode_lower (end_bytes e) ++ 10 ∷ []) c.end_at.ensures ∙ append_assoc c.write_digits.new.room (encode_lower (end_bytes piece.end)) (10 ∷ []) in
    on_ok_weaker c.flush.result
    (λ v. line_wrote g.met.W.Sink.takes_more piece c.next_bytes-count.result.0.now spelled c.open_line.ensures.text c.in_ok-write_digits.ensures.wrote closed v)
    c.flush.ensures.wrote

pub returns-clause-began : goal.returns-clause-began
returns-clause-began g c =
    let piece = piece_at c.args.cut.now.key.now c.args.cut.now.thread c.args.cut.now.log.now c.args.cut.now.size c.args.index in
    let spelled = c.next_bytes-count.ensures.bytes ∙ ap (λ es. flat_map entry_bytes (take c.args.cut.now.size es)) c.requires.at in
    let closed = c.close_line.ensures.text ∙ ap (λ e. c.write_digits.new.room ++ encode_lower (end_bytes e) ++ 10 ∷ []) c.end_at.ensures ∙ append_assoc c.write_digits.new.room (encode_lower (end_bytes piece.end)) (10 ∷ []) in
    on_err_weaker c.flush.result
    (λ v. line_began g.met.W.Sink.takes_more piece c.next_bytes-count.result.0.now spelled c.open_line.ensures.text c.in_ok-write_digits.ensures.wrote closed v)
    c.flush.ensures.began
