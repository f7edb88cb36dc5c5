-- A `&` to a `Half` holds a share of its right for each who looks. Assumes `Logic`.
use base.Fraction.{full_share, left}
use denote.Builtin.{unit}
use denote.SharingLaws.{one_shr_laws}
use denote.Param.Shared.{copy_shared}
use denote.Struct.Laws.{field_copy}
use denote.Struct.Lending.{of_Lends}
use Rattle.std.specs.contracts.marker.PhantomData as marker
use Rattle.shared_parts.specs.Owned.{share_of_number}
use Rattle.shared_parts.specs.contracts.grown.Half as C
use Rattle.shared_parts.proofs.Ghost.{lends_shares}
use Rattle.shared_parts.proofs.grown.Half.TheLaw.Statement.{statement}

pub shares : statement
shares = of_Lends C.struct (C.the_codes (marker.the_row unit).coded) C.the_heap C.the_lent
    (λ d p. one_shr_laws (share_of_number d.name d.number))
    (copy_shared (marker.the_field unit) (field_copy (marker.the_type unit) tt), tt)
    (λ M 𝓤 𝓛 d p. lends_shares 𝓛 (share_of_number d.name d.number) (left full_share) C.the_row.lives)
