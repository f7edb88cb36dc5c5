use denote.RattleType.{RattleType}
use denote.Param.Send.{IsSend}
use Rattle.shared_parts.specs.contracts.grown.Noted.{the_row}

pub send : (C : RattleType) → IsSend (the_row C)
send C = record { owned = λ d vs. ((λ vss. (tt, ((λ uss. (tt, tt)), tt))), tt); leaving = λ k f vs. tt }
