use Rattle.std.proofs.Common.{◌≡◌, length, get_or, Some, rules, arith}
use Rattle.std.specs.Prelude.{slice_get}
use Rattle.std.proofs.lemmas.Option.{slice_get-get_or}
use Rattle.replica.proofs.MergeLemmas.{end_merged}
use Rattle.replica.proofs.log.Log.join_end_of.Goals as goal

pub returns : goal.returns
returns c =
    let log = c.args.self.now in
    let sixteen : length log.threads ≡ 16 = search rules in
    let old = get_or log.threads c.args.thread c.index-self-thread.result in
    let had : slice_get log.threads c.args.thread ≡ Some old = slice_get-get_or log.threads c.args.thread c.index-self-thread.result (omega arith) in
    end_merged log old c.join_claimed_end.new.self c.args.thread c.args.end.now had c.join_claimed_end.ensures.entries c.join_claimed_end.ensures.end
