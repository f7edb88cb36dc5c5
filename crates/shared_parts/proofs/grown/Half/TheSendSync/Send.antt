use base.Fraction.{full_share, left}
use denote.Param.Send.{IsSend}
use Rattle.shared_parts.specs.contracts.grown.Half.{the_row}
use Rattle.shared_parts.proofs.Sent.{number_keyless}

pub send : IsSend the_row
send = record { owned = λ d vs. ((λ vss. (tt, ((λ uss. (tt, tt)), tt))), number_keyless d.name d.number (left full_share)); leaving = λ k f vs. tt }
