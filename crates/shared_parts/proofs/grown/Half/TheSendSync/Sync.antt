use denote.Param.Send.{IsSync, sendable}
use denote.Struct.Struct.{Struct}
use denote.Struct.Owning.{shape}
use Rattle.shared_parts.specs.contracts.grown.Half.{the_row, the_type}
use Rattle.shared_parts.proofs.Sent.{number_keyless}

pub sync : IsSync the_row
sync = let fields : IsSync (Struct (shape the_type)) = search sendable depth 20 in
    record { shared = λ d b o κ. (fields.shared (tt, tt) b o κ, λ q. number_keyless d.name d.number q) }
