use Rattle.std.proofs.Common.{◌≡◌, ◌+◌, ◌-◌, ◌≤◌, slice_get, sym, ap, ◌∙◌, subst, arith}
use Rattle.std.proofs.lemmas.Option.{slice_get_within}
use Rattle.event_core.specs.World.{world_of}
use Rattle.event_core.specs.LocalRun.{go_of}
use Rattle.event_core.proofs.LocalRuns.{if_ok}
use Rattle.recorder.proofs.Ends.{made_of}
use Rattle.recorder.specs.Making.{Makes}
use Rattle.recorder.proofs.DrawnStretches.{makes_run}
use Rattle.recorder.proofs.stretch.run_on.Goals as goal

pub run_few-requires : goal.run_few-requires
run_few-requires g c =
    let w = world_of c.args.world.now in
    let m = made_of (λ t. g.M.Machine.code.steps t.state) (slice_get w.threads c.args.pick.thread) c.in-Some.made (sym c.steps.ensures ∙ c.in-Some.is) in
    let within = slice_get_within w.threads c.args.pick.thread m.0 m.1 in
    let size = c.requires in
    omega (arith, within, size)

pub returns : goal.returns
returns g c =
    let space = g.S.ObjectSpace.meaning in
    let code = g.M.Machine.code in
    let p = c.args.pick in
    let w = world_of c.args.world.now in
    let v = world_of c.run_few.new.world in
    let lists = c.args.logs.now in
    let news = c.run_few.new.logs in
    let m = made_of (λ t. code.steps t.state) (slice_get w.threads p.thread) c.in-Some.made (sym c.steps.ensures ∙ c.in-Some.is) in
    let goes : p ≡ go_of p.thread = ap (λ i. record { thread = p.thread; input = i }) c.in-Go.is in
    let within : code.steps m.0.state + (c.args.steps - c.in-Some.made) ≤ c.args.steps = let is = m.2 in let less = c.if-steps-made.false in omega (arith, is, less) in
    if_ok c.run_few.result (λ rest r. subst (λ p. Makes space code c.args.steps p c.args.left rest w v lists news) (sym goes) (makes_run space code c.args.steps g.met.M.Machine.laws p.thread (c.args.steps - c.in-Some.made) c.args.left rest w v m.0 lists news m.1 within r))
    c.run_few.ensures
