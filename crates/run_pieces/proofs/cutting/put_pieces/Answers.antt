-- One piece more is put.
use Rattle.run_pieces.specs.Cut.{piece_at}
use Rattle.run_pieces.proofs.Loops.{piece_more, part_behind}
use Rattle.run_pieces.proofs.cutting.put_pieces.Goals as goal

pub loop-index-preserved : goal.loop-index-preserved
loop-index-preserved c = record {
  pieces = piece_more (piece_at c.args.cut.now.key.now c.args.cut.now.thread c.args.cut.now.log.now c.args.cut.now.size) c.args.pieces.now.items c.loop-index.pieces.items c.push.new.self.items c.in_ok-piece.piece c.loop-index.index c.in_ok-push.ensures.items c.in_ok-piece.ensures.piece c.loop-index.invariant.pieces;
  left = part_behind c.args.cut.now.log.now.entries c.loop-index.entries c.next_piece.new.entries c.loop-index.index c.args.cut.now.size c.in_ok-piece.ensures.left c.loop-index.invariant.left;
}
