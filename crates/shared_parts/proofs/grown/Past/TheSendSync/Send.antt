use denote.RattleType.{RattleType}
use denote.Param.Send.{IsSend}
use Rattle.shared_parts.specs.contracts.grown.Past.{the_row}
use Rattle.shared_parts.proofs.Sent.{past_keyless}

pub send : (C : RattleType) → IsSend (the_row C)
send C = record { owned = λ d vs. ((λ vss. (tt, ((λ uss. (tt, tt)), tt))), past_keyless C.coded.code d.name d.items); leaving = λ k f vs. tt }
