use Rattle.std.proofs.Common.{◌≡◌, ◌-◌, ap, ◌∙◌}
use Rattle.event_core.specs.World.{world_of}
use Rattle.recorder.specs.Words.{accesses_by, word_of}
use Rattle.recorder.proofs.Drawing.{draws_none, draw_made, times_made}
use Rattle.recorder.proofs.recording.draw_stretch.Goals as goal

pub returns-clause-draws : goal.returns-clause-draws
returns-clause-draws g c =
    let space = g.S.ObjectSpace.meaning in
    let code = g.M.Machine.code in
    let draw = c.args.draw in
    let w = world_of c.args.world.now in
    let v = world_of c.make_stretch.new.world in
    let p = c.at-pick.result in
    let made = c.in_ok-make_stretch.ensures in
    draw_made space code draw.steps draw.timeouts c.args.draws.now.exponent c.args.draws.now.generator c.below.new.self.generator c.accesses-accesses.new.self.generator c.accesses-accesses.result c.len-count.result c.below.result _ c.candidates-picks.result
    w v p c.args.logs.now c.make_stretch.new.logs
    c.candidates-picks.ensures c.len-count.ensures c.below.ensures.value c.at-pick.ensures c.below.ensures.generator
    (c.accesses-accesses.ensures.value ∙ ap (λ e. accesses_by e (word_of c.below.new.self.generator)) c.below.ensures.exponent)
    c.accesses-accesses.ensures.generator made
    (c.saturating_sub-times.ensures ∙ times_made space code draw.steps draw.timeouts c.args.draws.now.exponent g.met.M.Machine.laws p c.accesses-accesses.result _ _ w v c.args.logs.now c.make_stretch.new.logs made c.steps_of-before.ensures c.steps_of.ensures)

pub returns-then-count-eq0-clause-draws : goal.returns-then-count-eq0-clause-draws
returns-then-count-eq0-clause-draws g c = draws_none g.S.ObjectSpace.meaning g.M.Machine.code c.args.draw.steps c.args.draw.timeouts c.args.draws.now.exponent c.args.draws.now.generator (world_of c.args.world.now) c.args.logs.now
