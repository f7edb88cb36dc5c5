-- The objects of blocks are every second one.
use Rattle.std.proofs.Common.{◌≡◌, ℕ, ◌+◌, ◌-◌, ◌*◌, ◌/◌, ◌%◌, ◌&&◌, nat_le, nat_lt, arith}
use Rattle.std.proofs.lemmas.Bool.{eqb-true, eq-eqb, ltb-true, lt-ltb, leb-true, le-leb, and_parts, and_from}
use Rattle.block_objects.specs.Objects.{block_object}
use Rattle.replay_gate.specs.declared.breaks.Break.TheVariants as break
use Rattle.replay_gate.specs.declared.breaks.Every.TheVariants as every
use Rattle.replay_gate.specs.declared.breaks.ObjectRange.{ObjectRange}
use Rattle.debug_views.specs.declared.blocks.BlockRange.{BlockRange}
use Rattle.debug_views.specs.Blocks.{AreHolding}
use Rattle.debug_views.specs.Writes.{IsWriteOfRange}

pub write_of : (power from len : ℕ) (blocks : BlockRange) (begin until : ℕ) → AreHolding power from len blocks → begin ≡ 1 + 2 * blocks.first → until ≡ 1 + 2 * blocks.past
    → (let objects : ObjectRange = record { from = begin; until = until; every = every.Second } in IsWriteOfRange power from len (break.Write objects))
write_of power from len blocks begin until holding begin_is until_is o = (
  (λ h.
      let p = and_parts (nat_le begin o && nat_lt o until) _ h in
      let q = and_parts (nat_le begin o) _ p.0 in
      let low = leb-true begin o q.0 in
      let high = ltb-true o until q.1 in
      let even : (o - begin) % 2 ≡ 0 = eqb-true ((o - begin) % 2) 0 p.1 in
      let is : o ≡ block_object (o / 2) = omega (arith, low, even, begin_is) in
      record { block = o / 2; is = is; holds = (holding (o / 2)).0 (omega (arith, low, begin_is), omega (arith, high, is, until_is)) }),
  (λ h.
      let is = h.is in
      let between = (holding h.block).1 h.holds in
      let l = between.0 in
      let r = between.1 in
      and_from (nat_le begin o && nat_lt o until) _
      (and_from (nat_le begin o) _ (le-leb begin o (omega (arith, l, is, begin_is))) (lt-ltb o until (omega (arith, r, is, until_is)))) (eq-eqb ((o - begin) % 2) 0 (omega (arith, l, is, begin_is)))),
)
