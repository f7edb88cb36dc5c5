-- A `&` to a `Past` holds what it knows, which can be had twice. Assumes `Logic`.
use base.Logic.{snd∗}
use base.Before.{before}
use types.Logic.{sem}
use denote.RattleType.{RattleType}
use denote.Param.Laws.{Laws}
use denote.Param.Shared.{copy_shared}
use denote.Struct.Laws.{field_copy}
use denote.Struct.Lending.{of_Lends}
use Rattle.std.specs.contracts.marker.PhantomData as marker
use Rattle.shared_parts.specs.Owned.{past_owns}
use Rattle.shared_parts.specs.contracts.grown.Past as P
use Rattle.shared_parts.proofs.Ghost.{lends_twice, past_twice}
use Rattle.shared_parts.proofs.grown.Past.TheLaw.Statement.{statement}

pub shares : (C : RattleType) (L : Laws C) → statement C L
shares C L = of_Lends (P.struct C) (P.the_codes C.Denot C.coded (marker.the_row C).coded) (P.the_heap C) (P.the_lent C)
    (λ d p. record { contraction = λ M 𝓤 𝓛 κ. past_twice 𝓛 C.coded d.name d.items; mono = λ M 𝓤 𝓛 κ' κ. snd∗ 𝓤 (sem 𝓛 (before κ' κ)) (sem 𝓛 (past_owns C.coded.code d.name d.items)) })
    (copy_shared (marker.the_field C) (field_copy (marker.the_type C) tt), tt)
    (λ M 𝓤 𝓛 d p. lends_twice 𝓛 (past_owns C.coded.code d.name d.items) (past_twice 𝓛 C.coded d.name d.items) (P.the_row C).lives)
