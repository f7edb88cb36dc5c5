use Rattle.std.proofs.Common.{◌∙◌, ap, refl, sym, cond}
use Rattle.event_core.specs.declared.pick.Input.TheVariants.{Go}
use Rattle.event_core.specs.World.{world_of, world_after}
use Rattle.replay_laws.specs.Turns.{pick_of}
use Rattle.recorder.proofs.GoingOn.{goes_tried}
use Rattle.recorder.proofs.rounds.go.Goals as goal

pub returns-clause-goes : goal.returns-clause-goes
returns-clause-goes g c =
    goes_tried g.S.ObjectSpace.meaning g.M.Machine.code g.met.M.Machine.laws c.args.steps (world_of c.args.world.now) (world_of c.try_pick.new.world) (pick_of c.args.thread Go) c.args.logs.now c.try_pick.new.logs c.in_ok-made.made
    refl c.in_ok-made.ensures.world c.in_ok-made.ensures.taken c.in_ok-made.ensures.noted c.in_ok-made.ensures.kept c.requires.lists

pub returns-clause-stays : goal.returns-clause-stays
returns-clause-stays g c e =
    let w = world_of c.args.world.now in
    let p = pick_of c.args.thread Go in
    c.in_ok-made.ensures.world ∙ ap (λ b. cond b (world_after g.S.ObjectSpace.meaning g.M.Machine.code w p) w) (sym c.in_ok-made.ensures.taken ∙ e)
