use Rattle.std.proofs.Common.{◌≡◌, ◌++◌, ℕ, List, length, take, get_or, subst, sym, ap, ◌∙◌, arith, inl, inr}
use Rattle.std.specs.Prelude.{replicate}
use Rattle.event_core.specs.declared.pick.Pick.{Pick}
use Rattle.event_core.specs.declared.pick.Input.TheVariants.{Go}
use Rattle.pick_schedule.specs.declared.stretches.Stretch.{Stretch}
use Rattle.pick_schedule.specs.Stretches.{picks_in}
use Rattle.pick_schedule.specs.Printing.{AreOfThreads}
use Rattle.pick_schedule.proofs.ReadBack.{one_more, more_of_threads, too_many, of_no_thread}
use Rattle.pick_schedule.proofs.stretches.Schedule.of_stretches.Goals as goal
use Rattle.pick_schedule.proofs.stretches.Schedule.of_stretches.Goals.{then-stretch-gt-LAST_THREAD-via-then-stretch-gt-LAST_THREAD, then-stretch-gt-LAST_THREAD-via-else-stretch-gt-LAST_THREAD+then-stretch-room}

nothing : Stretch
nothing = record { pick = record { thread = 0; input = Go }; times = 0 }

pub returns-then-stretch-gt-LAST_THREAD-clause-none : goal.returns-then-stretch-gt-LAST_THREAD-clause-none
unfolding nothing
returns-then-stretch-gt-LAST_THREAD-clause-none c =
    let xs : List Stretch = c.args.stretches.now in
    let i : ℕ = c.loop-stretch.stretch-index in
    let some = c.if-stretch-eq0.false in
    elim c.then-stretch-gt-LAST_THREAD.branch [
      | then-stretch-gt-LAST_THREAD-via-then-stretch-gt-LAST_THREAD w ↦ inr (of_no_thread xs i nothing c.loop-stretch-test.true (omega (arith, some)) w.if-stretch-gt-LAST_THREAD.true)
      | then-stretch-gt-LAST_THREAD-via-else-stretch-gt-LAST_THREAD+then-stretch-room w ↦ inl (
          let many = w.if-stretch-room.true in
          let left = w.room.ensures in
          let same : length c.loop-stretch.schedule ≡ length (picks_in (take i xs)) = ap (λ (ps : List Pick). length ps) c.loop-stretch.invariant.0 in
          too_many xs i nothing c.loop-stretch-test.true (omega (arith, many, left, same))
          )
    ]

pub loop-stretch-preserved : goal.loop-stretch-preserved
unfolding nothing
loop-stretch-preserved c =
    let xs : List Stretch = c.args.stretches.now in
    let i : ℕ = c.loop-stretch.stretch-index in
    let stretch : Stretch = get_or xs i nothing in
    let picks : List Pick = replicate stretch.times stretch.pick in
    let ok : c.push.new.self ≡ c.loop-stretch.schedule ++ picks = c.in_ok-push.ensures.ok in (
      ok ∙ ap (λ (ps : List Pick). ps ++ picks) c.loop-stretch.invariant.0 ∙ sym (one_more xs i nothing c.loop-stretch-test.true),
      subst (λ (ps : List Pick). AreOfThreads ps) (sym ok)
          (more_of_threads c.loop-stretch.schedule stretch.times stretch.pick c.loop-stretch.invariant.1 c.if-stretch-gt-LAST_THREAD.false),
    )
