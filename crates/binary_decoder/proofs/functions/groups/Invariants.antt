use Rattle.std.proofs.Common.{◌≡◌, ◌≤◌, ◌-◌, true}
use Rattle.binary_decoder.specs.Reader.{with_front, groups_at}
use Rattle.binary_decoder.proofs.functions.groups.Given as goal

abbrev pub invariant-loop : goal.invariant-loop
invariant-loop l = (l.used ≤ 1024) × (with_front l.groups.items (groups_at true l.used (l.count - l.counter) l.cursor.rest.now) ≡ groups_at true l.params l.count l.fn.cursor.rest.now)
