-- A `&` to a `Whole` holds a share of its right for each who looks. Assumes `Logic`.
use base.Fraction.{full_share}
use denote.RattleType.{RattleType}
use denote.SharingLaws.{one_shr_laws}
use denote.Param.Laws.{Laws}
use denote.Param.Shared.{copy_shared}
use denote.Struct.Laws.{field_copy}
use denote.Struct.Lending.{of_Lends}
use Rattle.std.specs.contracts.marker.PhantomData as marker
use Rattle.shared_parts.specs.Owned.{share_of_list}
use Rattle.shared_parts.specs.contracts.grown.Whole as W
use Rattle.shared_parts.proofs.Ghost.{lends_shares}
use Rattle.shared_parts.proofs.grown.Whole.TheLaw.Statement.{statement}

pub shares : (C : RattleType) (L : Laws C) → statement C L
shares C L = of_Lends (W.struct C) (W.the_codes C.Denot C.coded (marker.the_row C).coded) (W.the_heap C) (W.the_lent C)
    (λ d p. one_shr_laws (share_of_list C.coded.code d.name d.items))
    (copy_shared (marker.the_field C) (field_copy (marker.the_type C) tt), tt)
    (λ M 𝓤 𝓛 d p. lends_shares 𝓛 (share_of_list C.coded.code d.name d.items) full_share (W.the_row C).lives)
