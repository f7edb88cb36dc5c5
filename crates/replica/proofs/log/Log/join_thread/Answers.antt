use Rattle.std.proofs.Common.{◌≡◌, length, get_or, Some, rules, arith}
use Rattle.std.specs.Prelude.{slice_get}
use Rattle.std.proofs.lemmas.Option.{slice_get-get_or}
use Rattle.std.proofs.lemmas.Result.{on_ok_weaker, on_err_weaker}
use Rattle.replica.proofs.MergeLemmas.{thread_merged}
use Rattle.replica.proofs.log.Log.join_thread.Goals as goal

pub returns-clause-joined : goal.returns-clause-joined
returns-clause-joined c =
    let log = c.args.self.now in
    let sixteen : length log.threads ≡ 16 = search rules in
    let old = get_or log.threads c.args.thread c.index-self-thread.result in
    let had : slice_get log.threads c.args.thread ≡ Some old = slice_get-get_or log.threads c.args.thread c.index-self-thread.result (omega arith) in
    on_ok_weaker c.join_runs.result (λ joined. thread_merged log old c.join_runs.new.self c.args.thread c.args.entries.now had joined c.join_runs.ensures.end) c.join_runs.ensures.joined

pub returns-clause-left : goal.returns-clause-left
returns-clause-left c =
    let log = c.args.self.now in
    let sixteen : length log.threads ≡ 16 = search rules in
    let old = get_or log.threads c.args.thread c.index-self-thread.result in
    let had : slice_get log.threads c.args.thread ≡ Some old = slice_get-get_or log.threads c.args.thread c.index-self-thread.result (omega arith) in
    on_err_weaker c.join_runs.result (λ left. (left.0, thread_merged log old c.join_runs.new.self c.args.thread _ had left.1 c.join_runs.ensures.end)) c.join_runs.ensures.left
