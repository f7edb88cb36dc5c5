-- What the touches that are left make of the part, together with what was made of it.
use Rattle.std.proofs.Common.{◌≡◌, ℕ, ◌+◌, ◌*◌, drop}
use Rattle.shared_parts.specs.Parts.{after_touches}
use Rattle.shared_parts.proofs.lane.change_lane.Given as goal

abbrev pub invariant-loop-touch : goal.invariant-loop-touch
invariant-loop-touch g l = record {
  lane : g.S.Striped.lane l.part ≡ l.lane;
  fixed : g.S.Striped.part_fixed l.part ≡ g.S.Striped.part_fixed l.fn.part;
  held : (j : ℕ) → after_touches (g.S.Striped.cut.changed l.op l.decision) (drop l.touch-index l.touch-items) (8 * j + l.lane) (g.S.Striped.held l.part j)
      ≡ after_touches (g.S.Striped.cut.changed l.op l.decision) l.touches (8 * j + l.lane) (g.S.Striped.held l.fn.part j);
}
