use Rattle.std.proofs.lemmas.Result.{IfOk-weaker, IfErr-weaker}
use Rattle.event_core.specs.Opening.{opening_world}
use Rattle.event_core.proofs.Opens.{opening_is_opening}
use Rattle.threaded_replay.proofs.finishing.replay_by_threads.Goals as goal

pub returns-in-Ok-clause-ended : goal.returns-in-Ok-clause-ended
returns-in-Ok-clause-ended g c =
    let code = g.M.Machine.code in
    let state = g.M.Machine.state in
    let fixed = g.S.ObjectSpace.fixed c.args.opened.space in
    let values = g.S.ObjectSpace.values c.args.opened.space in
    let ms = c.args.machines.items in
    IfOk-weaker c.finish.result _ _ (λ ended h. h (opening_world state fixed values ms) (opening_is_opening code state fixed values ms c.requires.few c.requires.fresh) c.in-Ok.ensures) c.finish.ensures.ended

pub returns-in-Ok-clause-refused : goal.returns-in-Ok-clause-refused
returns-in-Ok-clause-refused g c =
    let state = g.M.Machine.state in
    let fixed = g.S.ObjectSpace.fixed c.args.opened.space in
    let values = g.S.ObjectSpace.values c.args.opened.space in
    IfErr-weaker c.finish.result _ _ (λ r h. h (opening_world state fixed values c.args.machines.items) c.in-Ok.ensures) c.finish.ensures.refused
