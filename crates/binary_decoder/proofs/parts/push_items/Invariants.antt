use Rattle.std.proofs.Common.{◌≡◌, ◌-◌}
use Rattle.binary_decoder.specs.Reading.{items_at}
use Rattle.binary_decoder.specs.Reader.{with_front}
use Rattle.binary_decoder.proofs.parts.push_items.Given as goal

abbrev pub invariant-loop : goal.invariant-loop
invariant-loop g l = with_front l.items.items (items_at g.T.Spelled.reading (l.count - l.counter) l.cursor.rest.now) ≡ with_front l.fn.items.items (items_at g.T.Spelled.reading l.count l.fn.cursor.rest.now)
