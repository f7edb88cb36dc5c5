use denote.RattleType.{RattleType}
use denote.Param.Send.{IsSync, sendable}
use denote.Struct.Struct.{Struct}
use denote.Struct.Owning.{shape}
use Rattle.shared_parts.specs.contracts.grown.Past.{the_row, the_type}
use Rattle.shared_parts.proofs.Sent.{past_keyless}

pub sync : (C : RattleType) → IsSync (the_row C)
sync C = let fields : IsSync (Struct (shape (the_type C))) = search sendable depth 20 in
    record { shared = λ d b o κ. (fields.shared (tt, tt) b o κ, past_keyless C.coded.code d.name d.items) }
