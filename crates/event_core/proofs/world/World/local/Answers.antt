use Rattle.std.proofs.Common.{sym, subst}
use Rattle.event_core.specs.Sound.{IsSound}
use Rattle.event_core.specs.World.{world_of}
use Rattle.event_core.proofs.SoundSteps.{local_kept, on_both}
use Rattle.event_core.proofs.world.World.local.Goals as goal

pub invariant_of-self : goal.invariant_of-self
invariant_of-self g c =
    let w = world_of c.args.self.now in
    record {
      sound = on_both c.local.result
          (λ h. subst (λ ts. IsSound g.M.Machine.code ts w.memory) (sym h) (local_kept g.S.ObjectSpace.meaning g.M.Machine.code g.met.M.Machine.laws w c.args.pick c.requires c.args.self.now.sound))
          (λ h. subst (λ ts. IsSound g.M.Machine.code ts w.memory) (sym h) c.args.self.now.sound)
          c.local.ensures.ok c.local.ensures.err;
    }
