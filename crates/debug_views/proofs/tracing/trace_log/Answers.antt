use Rattle.std.proofs.Common.{ap, subst, ◌++◌, ◌∙◌}
use Rattle.std.specs.Prelude.{string_bytes}
use Rattle.block_objects.specs.SharedMemory.{shared_memory}
use Rattle.event_core.specs.World.{world_of}
use Rattle.replay_gate.specs.Notes.{notes}
use Rattle.wasm_replay.specs.Replays.{gathered_log}
use Rattle.wasm_types.specs.Memories.{block_power}
use Rattle.wasm_world.specs.ThreadCode.{thread_code}
use Rattle.debug_views.specs.ThreadNotes.{AreNotes}
use Rattle.debug_views.specs.Trace.{asked_with, trace_note}
use Rattle.debug_views.specs.Traces.{asked_of}
use Rattle.debug_views.proofs.Stopping.{shown}
use Rattle.debug_views.proofs.TraceLaws.{asked_same, lines_of, trace_of}
use Rattle.debug_views.proofs.tracing.trace_log.Goals as goal

pub view_at-requires : goal.view_at-requires
view_at-requires c = record {
  suits = c.requires;
  shown = shown c.args.valid.now c.args.plan.now c.args.log.now c.in-Ok.replay.log.log.now c.args.order.now c.args.breaks.now (world_of c.in-Ok.replay.world) (world_of c.run_watched-stopped.new.replay.world)
      c.run_watched-stopped.result c.run_watched-stopped.ensures.stops c.in_default-stopped.not-Fault;
}

pub returns-in-Ok-with_view : goal.returns-in-Ok-with_view
returns-in-Ok-with_view c =
    let m = c.args.valid.now in
    let plan = c.args.plan.now in
    let log = c.args.log.now in
    let handed = c.in-Ok.replay.log.log.now in
    let order = c.args.order.now in
    let breaks = c.args.breaks.now in
    let opened = world_of c.in-Ok.replay.world in
    let v = world_of c.run_watched-stopped.new.replay.world in
    let asked = asked_of m c.args.choice in
    let lines = string_bytes c.run_watched-stopped.new.watch.text ++ c.run_watched-stopped.new.watch.line.bytes in
    let of_module = c.in-Ok-new.ensures ∙ ap (λ bytes. record { source = bytes; offsets = c.args.choice.offsets }) (c.as_slice-source.ensures ∙ ap (λ x. x.source) c.module.ensures.module) in
    let noted = c.run_watched-stopped.ensures.noted in
    let same = asked_same m c.new-tracer.result.places.now c.new-tracer.result.choice c.args.choice (c.new-tracer.ensures.places ∙ of_module) c.new-tracer.ensures.choice in
    let is = noted.has.is c.in-Ok-with_view.ensures.0
    ∙ ap (λ text. text ++ notes shared_memory thread_code (trace_note (asked_with c.new-tracer.result.places.now c.new-tracer.result.choice)) (gathered_log handed) opened order noted.turns) c.new-tracer.ensures.text
    ∙ ap (λ a. notes shared_memory thread_code (trace_note a) (gathered_log handed) opened order noted.turns) same in
    record {
      of_run = c.in-Ok.ensures.of_run;
      has_world = c.in-Ok.ensures.has_world;
      traced = trace_of m plan log handed order breaks opened v asked (world_of c.world-world.result.now) c.run_watched-stopped.result c.memory_limits-block.result.block lines _ _
          c.run_watched-stopped.ensures.stops c.in-Ok.ensures.log c.in-Ok.ensures.world (ap (λ x. world_of x) c.world-world.ensures.same)
          (ap (λ l. l.block) c.memory_limits-block.ensures ∙ ap (λ k. block_power k.profile) c.key.ensures)
          (shown m plan log handed order breaks opened v c.run_watched-stopped.result c.run_watched-stopped.ensures.stops c.in_default-stopped.not-Fault)
          c.in-Ok-view_at.ensures.0 (subst (λ p. AreNotes m plan log order p (world_of c.world-world.result.now) c.in-Ok-view_at.ensures.0) of_module c.in-Ok-view_at.ensures.1) c.in-Ok-view_at.ensures.2
          (lines_of m plan log handed order breaks opened v asked c.in-Ok.replay.opens c.in-Ok.ensures.log c.in-Ok.ensures.opens c.in-Ok.ensures.world c.run_watched-stopped.ensures.way noted.turns lines noted.at is)
          (c.in-Ok-with_view.ensures.1 ∙ ap (λ t. lines ++ t) c.deref.ensures);
      refused = tt;
    }
