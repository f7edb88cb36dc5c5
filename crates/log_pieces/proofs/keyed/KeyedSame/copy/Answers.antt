-- The next key is above all those copied.
use Rattle.log_pieces.proofs.Order.{insert_next}
use Rattle.log_pieces.proofs.keyed.KeyedSame.copy.Goals as goal

pub loop-key-preserved-in_ok-insert : goal.loop-key-preserved-in_ok-insert
loop-key-preserved-in_ok-insert g c =
    rw (c.in_ok-insert.ensures.entries, c.in_ok-copy.ensures, c.in_ok-copy-2.ensures)
    (insert_next g.K.Ord.cmp g.met.K.Ord.total c.loop-key.map.entries c.iter-key-items.ensures.ordered c.in-Some.ensures.steps c.loop-key.invariant)

pub loop-key-preserved : goal.loop-key-preserved
loop-key-preserved g c =
    rw (c.in_ok-insert.ensures.entries, c.in_ok-copy.ensures, c.in_ok-copy-2.ensures)
    (insert_next g.K.Ord.cmp g.met.K.Ord.total c.loop-key.map.entries c.iter-key-items.ensures.ordered c.in-Some.ensures.steps c.loop-key.invariant)
