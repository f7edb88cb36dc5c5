use Rattle.std.proofs.Common.{lit<}
use Rattle.text_lines.proofs.Lengths.{room_for_one, room_for_rest}
use Rattle.text_lines.proofs.quoted.Quoted.text.Goals as goal

pub push-requires : goal.push-requires
push-requires c = (
  lit< tt,
  room_for_one c.args.self.now.bytes.now c.first-byte-items.result.now c.loop-byte.text.bytes c.loop-byte.byte-index c.first-byte-items.ensures c.loop-byte.invariant c.shown.result c.shown.ensures.ascii,
)

pub push_str-requires : goal.push_str-requires
push_str-requires c = (
  lit< tt,
  room_for_rest c.args.self.now.bytes.now c.first-byte-items.result.now c.loop-byte.text.bytes c.loop-byte.byte-index c.first-byte-items.ensures c.loop-byte.invariant c.rest.result.now c.rest.ensures,
)
