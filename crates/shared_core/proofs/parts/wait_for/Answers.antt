use Rattle.std.proofs.Common.{rules, ◌≡◌, false, nat_lt, sym, ap}
use Rattle.shared_parts.specs.Parts.{has_lane}
use Rattle.shared_parts.proofs.Writes.{no_lane}
use Rattle.shared_core.proofs.parts.wait_for.Goals as goal

pub returns-then-not-has_lane : goal.returns-then-not-has_lane
returns-then-not-has_lane g c =
    let none : has_lane g.row.I c.args.touches.now ≡ false = search rules in record {
      here = sym none;
      write = sym (ap (nat_lt 0) (no_lane g.row.I c.args.touches.now none));
    }
