use Rattle.std.proofs.Common.{◌≡◌, sym, ◌∙◌, subst, arith}
use Rattle.std.proofs.lemmas.Option.{slice_get_past}
use Rattle.rw_objects.specs.LocalRun.{GoesLocally}
use Rattle.event_core.specs.Threads.{ThreadAt}
use Rattle.event_core.specs.LocalRun.{thread_in}
use Rattle.event_core.specs.World.{world_of}
use Rattle.event_core.proofs.LocalRuns.{there, gone, run_sound, past_changed}
use Rattle.event_core.proofs.world.World.go_on_as.Goals as goal

pub invariant_of-self : goal.invariant_of-self
invariant_of-self g c =
    let w = world_of c.args.self.now in
    let space = g.S.ObjectSpace.meaning in
    let code = g.M.Machine.code in
    let s = g.M.Machine.state c.args.machine in
    let th = there w.threads c.args.thread (let n = c.count.ensures.count in let l = c.if-at-count.true in omega (arith, n, l)) in
    let ahead = c.requires th.0 th.1 in
    record {
      sound = run_sound space code g.met.M.Machine.laws c.args.thread ahead.0 w _
          (gone space code c.args.thread ahead.0 w _ th.0 th.1
          (record {
            state = s;
            goes = λ t e. let same : th.0 ≡ t = let q = sym th.1 ∙ e in cc in subst (λ (u : ThreadAt _). GoesLocally code ahead.0 u.state s) same ahead.1;
            leads = c.replace.ensures;
          }))
          c.args.self.now.sound;
    }

pub returns-else-at-count-clause-threads : goal.returns-else-at-count-clause-threads
returns-else-at-count-clause-threads g c =
    let w = world_of c.args.self.now in
    sym (past_changed (thread_in (g.M.Machine.state c.args.machine)) w.threads c.args.thread (slice_get_past w.threads c.args.thread (let n = c.count.ensures.count in let l = c.if-at-count.false in omega (arith, n, l))))
