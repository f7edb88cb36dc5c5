use Rattle.std.proofs.Common.{◌<◌, length, rules}
use Rattle.replica.proofs.Members.{one_more}
use Rattle.replica.proofs.threads.ThreadSet.insert.Goals as goal

pub returns : goal.returns
returns c =
    let few : c.args.thread < length c.args.self.now.members = search rules in
    rw c.number.ensures.value (one_more c.args.self.now.members c.args.thread few)
