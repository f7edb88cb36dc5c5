-- The blocks of a memory and their queues, dealt out to four.
use Rattle.std.specs.Prelude.{ℕ, ◌+◌, ◌*◌, ◌/◌, ◌%◌, cond, ◌==◌}
use Rattle.block_objects.specs.Objects.{blocks_in}

-- how many of the blocks each of the four has
abbrev pub quarter_of : ℕ → ℕ → ℕ
quarter_of power capacity = blocks_in power capacity / 4

-- what one of four has for a block: block 4 j + r is the j-th of number r
abbrev pub dealt : {Value : Type 0} → (ℕ → Value) → (ℕ → Value) → (ℕ → Value) → (ℕ → Value) → ℕ → Value
dealt a b c d i = cond (i % 4 == 0) (a (i / 4)) (cond (i % 4 == 1) (b (i / 4)) (cond (i % 4 == 2) (c (i / 4)) (d (i / 4))))
