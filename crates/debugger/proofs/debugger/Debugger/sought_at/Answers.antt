use Rattle.std.proofs.Common.{ap, ◌∙◌}
use Rattle.rw_objects.specs.Counts.{count_at}
use Rattle.event_core.specs.World.{world_of}
use Rattle.debugger.specs.At.{at_of}
use Rattle.debugger.proofs.ToldEvents.{sought_is}
use Rattle.debugger.proofs.debugger.Debugger.sought_at.Goals as goal

pub returns : goal.returns
returns c =
    sought_is (at_of c.args.self.now) c.args.role c.args.address c.object_at-object.result c.at-version.result (count_at c.versions.result.now)
    c.object_at-object.ensures c.at-version.ensures (c.versions.ensures ∙ ap (λ w. (world_of w).memory.counts) c.world.ensures.same)
