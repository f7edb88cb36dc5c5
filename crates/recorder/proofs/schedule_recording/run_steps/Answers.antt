use Rattle.std.proofs.Common.{◌≡◌, ◌+◌, ◌≤◌, ◌∷◌, [], ◌++◌, Some, slice_get, sym, ap, ◌∙◌, subst, arith, replicate}
use Rattle.std.specs.Prelude.{Result, Ok, Err, IfOk, OnOk}
use Rattle.event_core.specs.LocalRun.{go_of}
use Rattle.event_core.specs.ThreadRun.{IsThreadRun}
use Rattle.event_core.specs.World.{world_of}
use Rattle.recorder.specs.Recorded.{list_at, OthersStay, AreRecorded}
use Rattle.recorder.proofs.Batches.{run_recorded}
use Rattle.recorder.proofs.Ends.{made_of}
use Rattle.recorder.proofs.schedule_recording.run_steps.Goals as goal

all_of : {A E : Type 0} (P Q R : A → Type 0) (O : Type 0) (r : Result A E) → ((x : A) → P x → Q x → O → R x) → IfOk r P → IfOk r Q → OnOk r O → IfOk r R
all_of P Q R O (Ok x) f p q o = f x p q o
all_of P Q R O (Err e) f p q o = tt

pub returns-clause-recorded : goal.returns-clause-recorded
returns-clause-recorded g c =
    let space = g.S.ObjectSpace.meaning in
    let code = g.M.Machine.code in
    let pick = c.args.stretch.pick in
    let w = world_of c.args.world.now in
    let v = world_of c.run_thread.new.world in
    let lists = c.args.logs.now in
    let news = c.run_thread.new.logs in
    let m = made_of (λ t. code.steps t.state) (slice_get w.threads pick.thread) c.in-Some.made (sym c.steps.ensures ∙ c.in-Some.is) in
    let goes : pick ≡ go_of pick.thread = ap (λ i. record { thread = pick.thread; input = i }) c.in-Go.is in
    all_of (λ n. IsThreadRun space code (λ xs e. Some (xs ++ e ∷ [])) pick.thread n w v (list_at lists pick.thread) (list_at news pick.thread)) (λ n. n ≤ c.min-most.result)
    (λ n. (passed : _) → AreRecorded space code c.args.steps (replicate n pick) w v lists news passed passed) (OthersStay pick.thread lists news) c.run_thread.result
    (λ n run few others passed.
    let within : code.steps m.0.state + n ≤ c.args.steps = let is = m.2 in let less = c.if-steps-made.false in let least = c.min-most.ensures in omega (arith, few, is, less, least) in
    subst (λ p. AreRecorded space code c.args.steps (replicate n p) w v lists news passed passed) (sym goes) (run_recorded space code g.met.M.Machine.laws c.args.steps pick.thread n w v m.0 lists news passed m.1 within run others))
    c.run_thread.ensures.ran c.run_thread.ensures.few c.run_thread.ensures.others
