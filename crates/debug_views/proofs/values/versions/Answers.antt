use Rattle.std.proofs.Common.{ℕ, ap, ◌∙◌}
use Rattle.rw_objects.specs.declared.count.Count.{Count}
use Rattle.event_core.specs.World.{world_of}
use Rattle.debug_views.proofs.Counted.{is_counted}
use Rattle.debug_views.proofs.values.versions.Goals as goal

pub returns-then-object-objects : goal.returns-then-object-objects
returns-then-object-objects g c =
    is_counted (g.S.ObjectSpace.meaning.objects (world_of c.args.world.now).memory.fixed) c.objects.result (world_of c.args.world.now).memory.counts c.args.object c.at.result
    (c.objects.ensures ∙ ap g.S.ObjectSpace.meaning.objects c.space.ensures.fixed) c.if-object-objects.true
    (c.at.ensures ∙ ap (λ (counts : ℕ → Count). counts c.args.object) c.versions.ensures)
