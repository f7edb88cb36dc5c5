-- The machine value of a token, and how a walk ends. The names that walks cite go through here. Assumes `Logic`.
use Rattle.std.proofs.Common.{List, [], ◌∷◌, ◌++◌}
use mathlib.Core.Path.{◌≡◌}
use seplogic.Ra.Ura.{Ura}
use mir.Val.{Val, vstruct, vcons, vnil, of_list}
use base.Logic.{SProp, ent, sep, emp}
use types.Logic.{Logic, sem}
use types.Kit.{Item, Seq, Step, step, prop, ‵, raw, ◌$◌, ◌∵◌, !, qed, by, move, frame, use0}
use contract.Monad.{fact, fact_i}
use denote.RattleType.{RattleType}
use denote.Shadow.{makes_shadow}
use denote.Signature.{type_at}
use denote.Struct.Struct.{Struct}
use denote.Triple.Clauses.{Ended, Clauses, Lasts, at_exit}
use denote.Triple.Entry.{Res, alive}
use denote.Triple.Walked.{Stays, Fit, has_of, walk_of}
use Rattle.std.proofs.raw_atomic.Walks.{leaves}
use Rattle.std.specs.contracts.marker.PhantomData as marker
pub use Rattle.std.proofs.raw_atomic.Walks.{proved}
pub use Rattle.std.proofs.Common.{◌≡◌, ℕ, ◌+◌, List, [], ◌∷◌, ◌++◌, refl, sym, w64}
pub use mathlib.Core.List.{IsPrefix}
pub use mir.Syntax.{a_type, named}
pub use mir.Val.{Val, vunit, vint, vptr, vstruct, vcons, vnil, of_list}
pub use mir.MapTy.{inst_fn}
pub use base.Fraction.{full_share}
pub use base.Logic.{SProp, emp, id⊢}
pub use base.Fml.{Fml, Share, ftrue, fsep, feq, flft, fhide, fobor, fshr_bor}
pub use types.Logic.{sem}
pub use types.Kit.{‵, raw, ◌⊛◌, some, given, later, ◌$◌, ◌∵◌, !, qed, by, move, keep, drop, split, join, fsplit, fsplit3, fjoin, fjoin3, fpick, fpack, pick, learn, use0, use1, use2, await, rewrite, feq_i}
pub use types.Tokens.{shr_bor-open, obor_close}
pub use types.Run.{unit_lit, of_opd, no_more, and_then, returns, enter}
pub use types.ByLocal.{alloc_all, pass_all, free_all, look_at, get, sets}
pub use types.Part.{agg}
pub use contract.Monad.{fact}
pub use contract.Running.{tables}
pub use denote.Exit.{yes}
pub use denote.RattleType.{RattleType, owns, Valss}
pub use denote.Signature.{types_at, plain}
pub use denote.Builtin.{RefOf, u64, unit}
pub use denote.Ref.{mut_vals, mut_Tells, shr_vals, shr_Tells}
pub use denote.Plain.{uint_vals, uint_Tells}
pub use denote.Memory.{hidden_shr}
pub use denote.Opens.{unhide}
pub use denote.Steps.{nothing, opens, closes}
pub use denote.Param.{param, layouts}
pub use denote.Struct.Lending.{lent_out}
pub use denote.Triple.Walked.{Stays, stay_dropped, stay_ref, walk_of, Goes-dropped, Goes-ref}

abbrev pub token : Val
token = vstruct (vcons (vstruct vnil) vnil)

module _ (X : RattleType) where
  abbrev pub Token : RattleType
  Token = Struct record { name = []; args = []; types = []; fields = marker.the_row X ∷ [] }

  pub token_made : {M : Type 1} {𝓤 : Ura M} (𝓛 : Logic 𝓤) → ent 𝓤 (emp 𝓤) (sem 𝓛 (Token.own_val (record {}, tt) (token ∷ [])))
  token_made 𝓛 = makes_shadow 𝓛 (Token.own_val (record {}, tt) (token ∷ [])) (λ vss. (tt, ((λ uss. (tt, tt)), tt))) ((vstruct vnil ∷ [], tt), (refl, ((tt, (refl, tt)), tt)))

-- the clauses of an `ensures`, one after the other
module _ {M : Type 1} {𝓤 : Ura M} {𝓛 : Logic 𝓤} {K : Type 0} {Γ : List (Item 𝓤)} where
  pub tells : K → {φ : Type 0} {P : SProp 𝓤} → φ → Step K 𝓛 Γ (prop P) Γ (prop (sep 𝓤 (fact 𝓤 φ) P))
  tells t {φ} {P} x = step (λ s. use0 𝓛 (raw (fact 𝓤 φ)) (fact_i 𝓤 φ (emp 𝓤) x) $ frame t $ s)

  pub tells_last : K → {φ : Type 0} → φ → Seq K 𝓛 Γ (prop (fact 𝓤 φ))
  tells_last t {φ} x = by t (fact_i 𝓤 φ _ x)

pub ends : {M : Type 1} {𝓤 : Ura M} (𝓛 : Logic 𝓤) (T : Ended) (hs : Stays T.signature.params T.kept) (c : Clauses 𝓤 T) (y : (walk_of 𝓛 T hs c).Ghost) (v : Val) (r : Res T.signature y.0.0) (ws : Lasts T y.0.0 y.0.3)
    → Fit T hs y.0.0 y.0.3 ws → ent 𝓤 (emp 𝓤) ((c y.0.0 y.0.3).ensures y.1 r (at_exit T y.0.0 y.0.3 ws))
    → ent 𝓤 (sep 𝓤 (alive 𝓛 T.signature y.0.0 y.0.1) (sep 𝓤 (sem 𝓛 (has_of y.0.0 T.signature.params T.kept hs y.0.3 ws y.0.4)) (sem 𝓛 ((type_at T.signature.result y.0.0).own_val r (v ∷ []))))) ((walk_of 𝓛 T hs c).post y v)
ends 𝓛 T hs c y v r ws fit told = qed 𝓛 (raw (alive 𝓛 T.signature y.0.0 y.0.1) ∷ ‵ (has_of y.0.0 T.signature.params T.kept hs y.0.3 ws y.0.4) ∷ ‵ ((type_at T.signature.result y.0.0).own_val r (v ∷ [])) ∷ []) ∵
    use0 𝓛 (raw ((c y.0.0 y.0.3).ensures y.1 r (at_exit T y.0.0 y.0.3 ws))) told $ move ! (1 ∷ 2 ∷ 3 ∷ []) $ by ! (leaves 𝓛 T hs c y v r ws fit)
