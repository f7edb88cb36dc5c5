use denote.RattleType.{RattleType}
use denote.Param.Send.{IsSend, IsSync, part_keyless}
use Rattle.shared_parts.specs.contracts.grown.Noted.{the_row}

pub sync : (C : RattleType) → IsSync (the_row C)
sync C = let send : IsSend (the_row C) = record { owned = λ d vs. ((λ vss. (tt, ((λ uss. (tt, tt)), tt))), tt); leaving = λ k f vs. tt } in
    record { shared = λ d b o κ q. part_keyless (the_row C) send q d b o }
