use Rattle.std.proofs.Common.{◌≡◌, ◌≤◌, ◌-◌, ◌^◌, length, take, drop, arith}
use Rattle.std.proofs.Math.Pow.{pow_mono}
use Rattle.memory_parts.proofs.Pieces.{length_taken}
use Rattle.std.proofs.lemmas.List.{length-drop}
use Rattle.striped_memory.proofs.change.part_of.Goals as goal

pub returns-else-is_first-clause-within : goal.returns-else-is_first-clause-within
returns-else-is_first-clause-within c =
    let power : 2 ^ 6 ≤ 2 ^ c.args.block = pow_mono c.size.ensures.least in
    let less = length_taken (length c.args.new.now - c.min-before.result) (drop c.min-before.result c.args.new.now) in
    omega (arith, power, less, c.requires)
