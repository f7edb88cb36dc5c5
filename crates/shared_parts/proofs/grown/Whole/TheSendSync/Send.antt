use base.Fraction.{full_share}
use denote.RattleType.{RattleType}
use denote.Param.Send.{IsSend}
use Rattle.shared_parts.specs.contracts.grown.Whole.{the_row}
use Rattle.shared_parts.proofs.Sent.{list_keyless}

pub send : (C : RattleType) → IsSend (the_row C)
send C = record { owned = λ d vs. ((λ vss. (tt, ((λ uss. (tt, tt)), tt))), list_keyless C.coded.code d.name d.items full_share); leaving = λ k f vs. tt }
