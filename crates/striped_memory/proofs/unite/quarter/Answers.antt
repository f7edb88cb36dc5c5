use Rattle.std.proofs.Common.{◌≡◌, ◌/◌, sym, ap, ◌∙◌, ◌*◌, ◌^◌, ◌≤◌, arith}
use Rattle.block_objects.specs.Objects.{blocks_in}
use Rattle.block_objects.proofs.Division.{few_blocks}
use Rattle.striped_memory.proofs.Ranges.{four_quarters}
use Rattle.striped_memory.proofs.unite.quarter.Goals as goal

pub returns-clause-few : goal.returns-clause-few
returns-clause-few c =
    let least : 6 ≤ c.power.result = omega arith in
    let most : c.from-bytes.result * 65536 ≤ 2 ^ 32 = omega arith in
    omega (arith, few_blocks (c.from-bytes.result * 65536) c.power.result least most)

pub returns-clause-four : goal.returns-clause-four
returns-clause-four c =
    let limits = c.args.limits.now in
    let same : c.from-bytes.result * 65536 / 2 ^ c.power.result ≡ blocks_in limits.block limits.capacity =
    ap (λ k. k * 65536 / 2 ^ c.power.result) c.from-bytes.ensures ∙ ap (λ p. limits.capacity * 65536 / 2 ^ p) c.power.ensures.power in
    ap (λ k. 4 * (k / 4)) same ∙ sym (four_quarters limits.block limits.capacity c.power.ensures.greatest)
