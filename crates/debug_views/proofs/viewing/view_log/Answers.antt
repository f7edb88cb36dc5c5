use Rattle.std.proofs.Common.{sym, ap, ◌∙◌, subst}
use Rattle.wasm_types.specs.Memories.{block_power}
use Rattle.event_core.specs.World.{world_of}
use Rattle.wasm_replay.specs.Replays.{IsOpenerOf}
use Rattle.wasm_replay.specs.declared.gathered.Gathered.{Gathered}
use Rattle.debug_views.proofs.Stopping.{shown, shows, view_of, fault_of}
use Rattle.debug_views.proofs.viewing.view_log.Goals as goal

pub show-requires : goal.show-requires
show-requires c = record {
  suits = c.requires;
  shown = shown c.args.valid.now c.args.plan.now c.args.log.now c.in-Ok.replay.log.log.now c.args.order.now c.args.breaks.now (world_of c.in-Ok.replay.world) (world_of c.run_to-stopped.new.replay.world)
      c.run_to-stopped.result c.run_to-stopped.ensures.stops c.in_default.not-Fault;
}

pub returns-in-Ok-show : goal.returns-in-Ok-show
returns-in-Ok-show c = record {
  of_run = c.in-Ok.ensures.of_run;
  has_world = c.in-Ok.ensures.has_world;
  shown = view_of c.args.valid.now c.args.plan.now c.args.log.now c.in-Ok.replay.log.log.now c.args.order.now c.args.breaks.now (world_of c.in-Ok.replay.world) (world_of c.run_to-stopped.new.replay.world)
      c.args.choice.notes (world_of c.world-2.result.now) c.run_to-stopped.result c.memory_limits-block.result.block c.args.choice.range.from c.args.choice.range.len _
      c.run_to-stopped.ensures.stops c.in-Ok.ensures.log c.in-Ok.ensures.world (ap (λ x. world_of x) c.world-2.ensures.same)
      (ap (λ l. l.block) c.memory_limits-block.ensures ∙ ap (λ k. block_power k.profile) c.key.ensures)
      (shown c.args.valid.now c.args.plan.now c.args.log.now c.in-Ok.replay.log.log.now c.args.order.now c.args.breaks.now (world_of c.in-Ok.replay.world) (world_of c.run_to-stopped.new.replay.world)
      c.run_to-stopped.result c.run_to-stopped.ensures.stops c.in_default.not-Fault)
      c.in-Ok-show.ensures.view.0 c.in-Ok-show.ensures.view.1 c.in-Ok-show.ensures.view.2 c.in-Ok-show.ensures.within
      (shows c.args.valid.now c.args.plan.now c.args.log.now c.run_to-stopped.new.replay.log.log.now c.args.order.now c.args.breaks.now (world_of c.in-Ok.replay.world) (world_of c.run_to-stopped.new.replay.world)
      c.run_to-stopped.new.replay.opens (world_of c.world-2.result.now) (ap (λ (g : Gathered). g.log.now) c.run_to-stopped.ensures.log ∙ c.in-Ok.ensures.log)
      (subst (IsOpenerOf c.args.valid.now c.args.plan.now c.args.log.now) (sym c.run_to-stopped.ensures.opens) c.in-Ok.ensures.opens) (ap (λ x. world_of x) c.world-2.ensures.same) c.world-2.ensures.recorded);
  refused = tt;
}

pub returns : goal.returns
returns c = record {
  of_run = tt;
  has_world = c.in-Ok.ensures.has_world;
  shown = tt;
  refused = fault_of c.args.valid.now c.args.plan.now c.args.log.now c.in-Ok.replay.log.log.now c.args.order.now c.args.breaks.now (world_of c.in-Ok.replay.world) (world_of c.run_to-stopped.new.replay.world)
      (world_of c.world-2.result.now) c.run_to-stopped.result c.args.choice.range.from c.args.choice.range.len c.in-Err-show.fault
      c.run_to-stopped.ensures.stops c.in-Ok.ensures.log c.in-Ok.ensures.world (ap (λ x. world_of x) c.world-2.ensures.same)
      c.in-Ok.ensures.of_run
      (shown c.args.valid.now c.args.plan.now c.args.log.now c.in-Ok.replay.log.log.now c.args.order.now c.args.breaks.now (world_of c.in-Ok.replay.world) (world_of c.run_to-stopped.new.replay.world)
      c.run_to-stopped.result c.run_to-stopped.ensures.stops c.in_default.not-Fault)
      c.in-Err-show.ensures.fault;
}
