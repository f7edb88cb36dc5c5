use Rattle.std.proofs.Common.{◌-◌, ap, ◌∙◌, arith}
use Rattle.event_core.specs.Threads.{all_steps}
use Rattle.event_core.specs.World.{world_of}
use Rattle.replay_session.specs.Legs.{with_rounds}
use Rattle.replay_session.proofs.Keeping.{few_before, rounds_on}
use Rattle.replay_session.proofs.putting.put_turns.Goals as goal

pub overflow_sub-steps_of_world : goal.overflow_sub-steps_of_world
overflow_sub-steps_of_world g c =
    let replay = c.args.replay.now in
    let after = c.steps_of_world.ensures.steps ∙ ap (λ x. all_steps g.M.Machine.code (world_of x).threads) c.world.ensures.same in
    let few = few_before g.S.ObjectSpace.meaning g.M.Machine.code g.met.S.ObjectSpace.laws g.met.M.Machine.laws (g.L.ReadLog.log replay.log) (g.O.OpenWorld.opened replay.opens) (world_of replay.world) c.args.legs.now.items c.args.before c.requires.leads in
    omega (arith, after, few)

pub returns-clause-legs : goal.returns-clause-legs
returns-clause-legs g c =
    let after = c.steps_of_world.ensures.steps ∙ ap (λ x. all_steps g.M.Machine.code (world_of x).threads) c.world.ensures.same in
    c.put_rounds.ensures ∙ ap (λ n. with_rounds c.args.legs.now.items (n - c.args.before)) after

pub returns-clause-leads : goal.returns-clause-leads
returns-clause-leads g c =
    let replay = c.args.replay.now in
    let after = c.steps_of_world.ensures.steps ∙ ap (λ x. all_steps g.M.Machine.code (world_of x).threads) c.world.ensures.same in
    rounds_on g.S.ObjectSpace.meaning g.M.Machine.code g.met.S.ObjectSpace.laws g.met.M.Machine.laws (g.L.ReadLog.log replay.log) (g.O.OpenWorld.opened replay.opens) (world_of replay.world) c.args.legs.now.items c.put_rounds.new.legs.items c.args.before
    (c.put_rounds.ensures ∙ ap (λ n. with_rounds c.args.legs.now.items (n - c.args.before)) after) c.requires.leads
