use Rattle.std.proofs.Common.{◌++◌}
use Rattle.std.specs.Prelude.{codes, string_bytes}
use Rattle.std.specs.Fmt.{decimal}
use Rattle.event_core.specs.World.{world_of}
use Rattle.debug_views.specs.Trace.{measured, outcome_in, standing_text}
use Rattle.debug_views.specs.TraceLines.{done_text}
use Rattle.debug_views.proofs.Behind.{event_more, on_ok}
use Rattle.debug_views.proofs.trace_watch.write_event.Goals as goal

pub returns : goal.returns
returns c =
    let w = world_of c.args.world.now in
    let seen = c.args.seen.now in
    let before = string_bytes c.args.text.now ++ c.args.line.now.bytes in
    let next = string_bytes c.put_standing.new.text ++ c.put_standing.new.line.bytes in
    on_ok c.put_done.result _ _
    (λ is.
    event_more before (string_bytes c.make_room.new.text) c.make_room.new.line.bytes c.put_event.new.line.bytes next _ (decimal c.args.thread) (codes ".") (decimal seen.place) (standing_text c.args.places.now seen.standing)
    (done_text seen.action seen.found (measured seen.action w) (outcome_in w c.args.thread)) c.in_ok-make_room.ensures.text c.put_event.ensures.text c.in_ok-put_standing.ensures.text is) c.put_done.ensures
