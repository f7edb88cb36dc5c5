-- The parts are those of a piece.
use Rattle.std.proofs.Common.{take, sym, ap, ◌∙◌}
use Rattle.run_pieces.proofs.Rules.{part_is_piece, made}
use Rattle.run_pieces.proofs.cutting.next_piece.Goals as goal

pub unreachable-requires : goal.unreachable-requires
unreachable-requires c =
    let key = c.args.cut.now.key.now in
    let log = c.args.cut.now.log.now in
    let taken = c.in_ok-part.ensures.entries ∙ ap (take c.args.cut.now.size) c.requires.at in
    let keeps = part_is_piece key c.args.cut.now.thread log c.args.cut.now.size c.args.index c.requires.rules.numbered c.requires.rules.keeps c.requires.rules.some c.requires.rules.few c.requires.index in
    let is = made key c.args.cut.now.thread log c.args.cut.now.size c.args.index c.in_ok-part.part.items c.end_at-end.result c.new.result taken c.end_at-end.ensures keeps c.new.ensures in
    let clash = sym is ∙ c.in-Err.is in
    cc

pub returns-clause-piece : goal.returns-clause-piece
returns-clause-piece c =
    let key = c.args.cut.now.key.now in
    let log = c.args.cut.now.log.now in
    let taken = c.in_ok-part.ensures.entries ∙ ap (take c.args.cut.now.size) c.requires.at in
    let keeps = part_is_piece key c.args.cut.now.thread log c.args.cut.now.size c.args.index c.requires.rules.numbered c.requires.rules.keeps c.requires.rules.some c.requires.rules.few c.requires.index in
    let is = made key c.args.cut.now.thread log c.args.cut.now.size c.args.index c.in_ok-part.part.items c.end_at-end.result c.new.result taken c.end_at-end.ensures keeps c.new.ensures in
    let same = sym c.in-Ok.is ∙ is in
    cc
