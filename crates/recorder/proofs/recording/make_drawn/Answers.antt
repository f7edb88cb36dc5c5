use Rattle.std.proofs.Common.{[], ◌∷◌, ◌++◌, sym, ◌∙◌, subst}
use Rattle.std.proofs.lemmas.List.{append-nil}
use Rattle.event_core.specs.World.{world_of}
use Rattle.pick_schedule.specs.Stretches.{picks_in}
use Rattle.recorder.proofs.Stretches.{still_threads}
use Rattle.recorder.specs.Words.{generator_of, behind_word, exponent_of}
use Rattle.recorder.specs.Making.{drawn_list, DrawsOn}
use Rattle.recorder.proofs.Drawing.{draws_none, draws_on, draws_all}
use Rattle.recorder.proofs.recording.make_drawn.Goals as goal

pub loop-init : goal.loop-init
loop-init g c =
    let space = g.S.ObjectSpace.meaning in
    let code = g.M.Machine.code in
    let n = c.args.draw.number in
    let w = world_of c.args.world.now in
    let first = behind_word (generator_of n) in (
      tt,
      tt,
      ([], (λ _. c.new-kept.ensures.items), subst (λ h. DrawsOn space code c.args.draw.steps c.args.draw.timeouts (exponent_of n) first h w w [] c.args.logs.now c.args.logs.now) (sym c.new-draws.ensures.generator) (draws_none space code c.args.draw.steps c.args.draw.timeouts (exponent_of n) first w c.args.logs.now)),
      c.new-draws.ensures.exponent,
    )

pub draw_stretch-requires : goal.draw_stretch-requires
draw_stretch-requires g c =
    let x = c.loop.invariant.2 in
    still_threads g.S.ObjectSpace.meaning g.M.Machine.code c.args.draw.steps (picks_in x.0) (world_of c.args.world.now) (world_of c.loop.world) c.args.logs.now c.loop.logs 0 0 x.2.recorded c.requires

pub loop-preserved : goal.loop-preserved
loop-preserved g c =
    let space = g.S.ObjectSpace.meaning in
    let code = g.M.Machine.code in
    let n = c.args.draw.number in
    let start = world_of c.args.world.now in
    let v = world_of c.loop.world in
    let u = world_of c.draw_stretch.new.world in
    let s = c.in-Some-2.stretch in
    let x = c.loop.invariant.2 in
    let one : DrawsOn space code c.args.draw.steps c.args.draw.timeouts c.loop.draws.exponent c.loop.draws.generator c.draw_stretch.new.draws.generator v u (s ∷ []) c.loop.logs c.draw_stretch.new.logs =
    subst (λ o. DrawsOn space code c.args.draw.steps c.args.draw.timeouts c.loop.draws.exponent c.loop.draws.generator c.draw_stretch.new.draws.generator v u (drawn_list o) c.loop.logs c.draw_stretch.new.logs) c.in-Some-2.is c.in_ok-stretch.ensures.draws in
    let more : DrawsOn space code c.args.draw.steps c.args.draw.timeouts (exponent_of n) c.loop.draws.generator c.draw_stretch.new.draws.generator v u (s ∷ []) c.loop.logs c.draw_stretch.new.logs =
    subst (λ e. DrawsOn space code c.args.draw.steps c.args.draw.timeouts e c.loop.draws.generator c.draw_stretch.new.draws.generator v u (s ∷ []) c.loop.logs c.draw_stretch.new.logs) c.loop.invariant.3 one in (
      tt,
      tt,
      (
        x.0 ++ s ∷ [],
        c.in_ok-keep.ensures x.0 x.1,
        draws_on space code c.args.draw.steps c.args.draw.timeouts (exponent_of n) (behind_word (generator_of n)) c.loop.draws.generator c.draw_stretch.new.draws.generator start v u x.0 (s ∷ []) c.args.logs.now c.loop.logs c.draw_stretch.new.logs x.2 more,
      ),
      c.in_ok-stretch.ensures.exponent ∙ c.loop.invariant.3,
    )

pub returns-in_default : goal.returns-in_default
returns-in_default g c =
    let space = g.S.ObjectSpace.meaning in
    let code = g.M.Machine.code in
    let n = c.args.draw.number in
    let start = world_of c.args.world.now in
    let v = world_of c.loop.world in
    let u = world_of c.draw_stretch.new.world in
    let x = c.loop.invariant.2 in
    let none : DrawsOn space code c.args.draw.steps c.args.draw.timeouts c.loop.draws.exponent c.loop.draws.generator c.draw_stretch.new.draws.generator v u [] c.loop.logs c.draw_stretch.new.logs =
    subst (λ o. DrawsOn space code c.args.draw.steps c.args.draw.timeouts c.loop.draws.exponent c.loop.draws.generator c.draw_stretch.new.draws.generator v u (drawn_list o) c.loop.logs c.draw_stretch.new.logs) c.in_default.is c.in_ok-stretch.ensures.draws in
    let more : DrawsOn space code c.args.draw.steps c.args.draw.timeouts (exponent_of n) c.loop.draws.generator c.draw_stretch.new.draws.generator v u [] c.loop.logs c.draw_stretch.new.logs =
    subst (λ e. DrawsOn space code c.args.draw.steps c.args.draw.timeouts e c.loop.draws.generator c.draw_stretch.new.draws.generator v u [] c.loop.logs c.draw_stretch.new.logs) c.loop.invariant.3 none in (
      x.0 ++ [],
      (λ k. x.1 k ∙ sym (append-nil x.0)),
      draws_all space code c.args.draw.steps c.args.draw.timeouts n c.draw_stretch.new.draws.generator start u (x.0 ++ []) c.args.logs.now c.draw_stretch.new.logs
          (draws_on space code c.args.draw.steps c.args.draw.timeouts (exponent_of n) (behind_word (generator_of n)) c.loop.draws.generator c.draw_stretch.new.draws.generator start v u x.0 [] c.args.logs.now c.loop.logs c.draw_stretch.new.logs x.2 more)
          (c.in_ok-stretch.ensures.none c.in_default.is),
    )
