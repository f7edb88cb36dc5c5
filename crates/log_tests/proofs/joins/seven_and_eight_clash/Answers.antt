use Rattle.std.proofs.Common.{refl, Some}
use Rattle.log_pieces.specs.declared.flat.Flat.TheVariants.{Known}
use Rattle.log_tests.proofs.joins.seven_and_eight_clash.Goals as goal

pub returns : goal.returns
returns c = c.agreed_joined.ensures (Some (Known 7)) (Some (Known 8)) (refl, λ y h. h) (refl, λ y h. h)
