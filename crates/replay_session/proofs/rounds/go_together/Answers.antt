use Rattle.std.proofs.Common.{length, ap, ◌∙◌, arith}
use Rattle.event_core.specs.Threads.{all_steps}
use Rattle.event_core.specs.World.{world_of}
use Rattle.replay_session.proofs.Together.{local_few, local_grow, local_rounds}
use Rattle.replay_session.proofs.rounds.go_together.Goals as goal

pub overflow_sub-result : goal.overflow_sub-result
overflow_sub-result g c =
    let code = g.M.Machine.code in
    let w = world_of c.args.replay.now.world in
    let v = world_of c.local_rounds.new.self.world in
    let before = c.steps_of_world-before.ensures.steps ∙ ap (λ x. all_steps code (world_of x).threads) c.world-2.ensures.same in
    let after = c.steps_of_world.ensures.steps ∙ ap (λ x. all_steps code (world_of x).threads) c.world-3.ensures.same in
    let grow = local_grow g.S.ObjectSpace.meaning code g.met.M.Machine.laws (g.L.ReadLog.log c.args.replay.now.log) w c.local_rounds.result v c.local_rounds.ensures.rounds in
    omega (arith, before, after, grow)

pub returns-clause-few : goal.returns-clause-few
returns-clause-few g c =
    let code = g.M.Machine.code in
    let w = world_of c.args.replay.now.world in
    let v = world_of c.local_rounds.new.self.world in
    let before = c.steps_of_world-before.ensures.steps ∙ ap (λ x. all_steps code (world_of x).threads) c.world-2.ensures.same in
    let after = c.steps_of_world.ensures.steps ∙ ap (λ x. all_steps code (world_of x).threads) c.world-3.ensures.same in
    let count = c.count-count.ensures.count ∙ ap (λ x. length (world_of x).threads) c.world.ensures.same in
    let k = c.local_rounds.ensures.few in
    let most = c.least-rounds.ensures.most in
    let few = local_few g.S.ObjectSpace.meaning code g.met.M.Machine.laws (g.L.ReadLog.log c.args.replay.now.log) w c.local_rounds.result c.args.most c.count-count.result v count (omega (arith, k, most)) c.local_rounds.ensures.rounds in
    omega (arith, before, after, few)

pub returns-clause-rounds : goal.returns-clause-rounds
returns-clause-rounds g c =
    let code = g.M.Machine.code in
    let w = world_of c.args.replay.now.world in
    let v = world_of c.local_rounds.new.self.world in
    let before = c.steps_of_world-before.ensures.steps ∙ ap (λ x. all_steps code (world_of x).threads) c.world-2.ensures.same in
    let after = c.steps_of_world.ensures.steps ∙ ap (λ x. all_steps code (world_of x).threads) c.world-3.ensures.same in
    let grow = local_grow g.S.ObjectSpace.meaning code g.met.M.Machine.laws (g.L.ReadLog.log c.args.replay.now.log) w c.local_rounds.result v c.local_rounds.ensures.rounds in
    local_rounds g.S.ObjectSpace.meaning code g.met.M.Machine.laws (g.L.ReadLog.log c.args.replay.now.log) w c.local_rounds.result _ v c.local_rounds.ensures.rounds (omega (arith, before, after, grow))
