use Rattle.std.proofs.Common.{◌≡◌, ◌+◌, ◌-◌, ◌<◌, true, refl, subst, arith}
use Rattle.std.specs.Prelude.{Some, IfSome}
use Rattle.wasm_types.specs.declared.key.Profile.TheVariants.{Two}
use Rattle.wasm_record.specs.Recordings.{IsKeyOf}
use Rattle.commands.specs.Hunts.{ComesByThreads, IsRunByThreads, shows}
use Rattle.commands.specs.Least.{IsLeastCaught}
use Rattle.commands.proofs.Least.{least_add, least_stays}
use Rattle.commands.proofs.thread_runs.first_by_threads.Goals as goal

pub returns-in-Some-clause-found : goal.returns-in-Some-clause-found
returns-in-Some-clause-found g c =
    let m = c.args.program.now.valid in
    let plan = c.args.program.now.plan in
    let asked = c.args.request.now in
    let comes = ComesByThreads m plan asked in
    let from = asked.range.from in
    let count = asked.range.count in
    let done = c.loop-done.done in
    let found = c.in-Some.recording in
    let ran = subst (λ o. IfSome o (λ r. IsRunByThreads m plan asked r.recorded)) c.in-Some.is c.in_ok-recording.ensures.is_run in
    let caught = subst (λ o. IfSome o (λ r. shows asked r.recorded.end ≡ true)) c.in-Some.is c.in_ok-recording.ensures.caught in
    let first = least_add comes from done (from + done) true refl c.loop-done.invariant (record { recorded = found.recorded; is_run = ran; judged = caught }) in
    let fewer : done < count = c.loop-done-test.true in
    record {
      least = subst (λ n. IsLeastCaught comes from n (Some (from + done))) (omega (arith, fewer)) (least_stays comes from (done + 1) (count - (done + 1)) (from + done) first);
      key = subst (λ o. IfSome o (λ r. IsKeyOf m plan (from + done) (Two asked.block) r.key)) c.in-Some.is c.in_ok-recording.ensures.key;
      is_run = ran;
      caught = caught;
    }
