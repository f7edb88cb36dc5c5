use Rattle.std.proofs.Common.{◌≡◌, ◌++◌, ◌≤◌, ℕ, length, drop, map}
use Rattle.shared_parts.proofs.seat.look.Given as goal

abbrev pub invariant-loop-touch : goal.invariant-loop-touch
invariant-loop-touch g l =
    ((values : ℕ → g.row.S-Value.Denot) → g.K.Keeps.here l.kept values
    → l.seen.items ++ map (λ t. g.S.Striped.cut.sight g.J.Opening.named.memory.fixed l.op t.object (values t.object)) (drop l.touch-index l.touch-items)
    ≡ map (λ t. g.S.Striped.cut.sight g.J.Opening.named.memory.fixed l.op t.object (values t.object)) l.touches)
    × (length l.seen.items ≡ l.touch-index) × (length l.touch-items ≤ 3)
