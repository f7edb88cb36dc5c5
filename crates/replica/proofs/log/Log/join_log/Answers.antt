use Rattle.replica.proofs.MergeLemmas.{both_merged}
use Rattle.replica.proofs.log.Log.join_log.Goals as goal

pub returns-clause-joined : goal.returns-clause-joined
returns-clause-joined c = both_merged c.args.self.now c.args.other.now c.join_entries.new.self c.join_ends.new.self c.in_ok-join_entries.ensures.joined c.join_ends.ensures
