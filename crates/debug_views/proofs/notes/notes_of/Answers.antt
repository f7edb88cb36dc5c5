use Rattle.std.proofs.Common.{map, ap, ◌∙◌, ◌∷◌, [], arith}
use Rattle.std.specs.Prelude.{string_bytes}
use Rattle.std.proofs.lemmas.List.{map-append}
use Rattle.event_core.specs.World.{world_of}
use Rattle.debug_views.proofs.Noting.{none_noted, one_noted, all_noted}
use Rattle.debug_views.proofs.notes.notes_of.Goals as goal

pub loop-thread-init : goal.loop-thread-init
loop-thread-init c = none_noted c.args.replay.now.valid.now c.args.replay.now.plan.now c.args.replay.now.log.now c.args.replay.now.order.now c.args.places.now (world_of c.args.world.now)
    (map string_bytes c.new-notes.result.items) (ap (map string_bytes) c.new-notes.ensures.items)

pub loop-thread-preserved : goal.loop-thread-preserved
loop-thread-preserved c =
    one_noted c.args.replay.now.valid.now c.args.replay.now.plan.now c.args.replay.now.log.now c.args.replay.now.order.now c.args.places.now (world_of c.args.world.now) (map string_bytes c.loop-thread.notes.items)
    (map string_bytes c.push.new.self.items) c.loop-thread.thread (string_bytes c.in_ok-note_of_thread.field-0) c.loop-thread.invariant c.in_ok-note_of_thread.ensures
    (ap (map string_bytes) c.in_ok-push.ensures.items ∙ map-append string_bytes c.loop-thread.notes.items (c.in_ok-note_of_thread.field-0 ∷ []))

pub returns : goal.returns
returns c =
    all_noted c.args.replay.now.valid.now c.args.replay.now.plan.now c.args.replay.now.log.now c.args.replay.now.order.now c.args.places.now (world_of c.args.world.now) (map string_bytes c.loop-thread.notes.items) c.loop-thread.thread
    c.loop-thread.invariant (omega (arith, c.count-thread-end.ensures.count, c.loop-thread-test))
