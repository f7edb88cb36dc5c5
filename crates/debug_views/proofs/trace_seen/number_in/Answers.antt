use Rattle.std.proofs.Common.{ℕ, ap, ◌∙◌}
use Rattle.block_objects.specs.Objects.{ObjectAt}
use Rattle.block_objects.specs.SharedMemory.{image_of}
use Rattle.block_objects.specs.declared.limits.MemoryLimits.{MemoryLimits}
use Rattle.event_core.specs.World.{world_of}
use Rattle.waiter_queues.specs.Shared.{shared_values}
use Rattle.wasm_types.specs.Accesses.{access_width}
use Rattle.debug_views.specs.Trace.{number_if}
use Rattle.debug_views.proofs.trace_seen.number_in.Goals as goal

pub returns : goal.returns
returns c =
    let w = world_of c.args.world.now in
    let space = c.space.result.now in
    c.number_if.ensures
    ∙ ap (number_if (access_width c.args.access) c.args.address)
    (c.bytes.ensures ∙ ap (λ (limits : MemoryLimits). image_of limits (shared_values space.blocks space.queues)) c.space.ensures.fixed ∙ ap (λ (values : ℕ → ObjectAt). image_of w.memory.fixed values) c.space.ensures.values)
