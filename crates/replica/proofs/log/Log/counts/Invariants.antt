-- The threads so far are counted.
use Rattle.std.proofs.Common.{◌≡◌, ◌*◌, ◌^◌, ◌≤◌, take}
use Rattle.std.specs.Prelude.{sum_by}
use Rattle.replica.specs.Counts.{thread_missing, thread_strays, thread_clashes}
use Rattle.replica.proofs.log.Log.counts.Given as goal

abbrev pub invariant-loop-log : goal.invariant-loop-log
invariant-loop-log l = record {
  missing : l.missing ≡ sum_by thread_missing (take l.log-index l.log-items);
  strays : l.strays ≡ sum_by thread_strays (take l.log-index l.log-items);
  clashes : l.clashes ≡ sum_by thread_clashes (take l.log-index l.log-items);
  few_missing : l.missing ≤ 2 ^ 33 * l.log-index;
  few_strays : l.strays ≤ 2 ^ 41 * l.log-index;
  few_clashes : l.clashes ≤ 2 ^ 41 * l.log-index;
}
