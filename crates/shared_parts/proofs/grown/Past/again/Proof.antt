-- `again` copies what is known.
use Rattle.shared_parts.proofs.Walks.{[], ◌∷◌, refl, a_type, named, Val, vptr, inst_fn, SProp, Fml, ftrue, fsep, flft, fhide, ‵, raw, ◌⊛◌, ◌$◌, ◌∵◌, !, qed, by, move, keep, drop, split, fsplit, fjoin, use0, use1, no_more, and_then, returns, enter, alloc_all, pass_all, free_all, look_at, get, sets, agg, tables, yes, RattleType, owns, types_at, plain, RefOf, shr_vals, shr_Tells, hidden_shr, unhide, nothing, param, layouts, lent_out, Stays, stay_dropped, walk_of, Goes-dropped, proved, token, Token, token_made, tells, tells_last, ends}
use Rattle.std.specs.contracts.marker.PhantomData as marker
use Rattle.shared_parts.specs.Owned.{past_owns}
use Rattle.shared_parts.specs.contracts.grown.Past as Past
use Rattle.shared_parts.specs.contracts.grown.Past.again.{ended, clauses}
use Rattle.shared_parts.specs.contracts.grown.Past.again.Key.{name as #self}
use Rattle.shared_parts.proofs.grown.Past.again.Statement.{statement}
use Rattle.shared_parts.proofs.grown.Past.again.Code as code

pub again_spec : {M : Type 1} → statement M
again_spec 𝓤 𝓛 𝓜 𝓡 wired C _ =
    let H = 𝓛.H in let 𝓣 = tables 𝓤 H 𝓜 𝓡 𝓡.env in let C' : RattleType = param 0 C in let En = ended C in
    let inst = layouts (a_type ∷ []) (C, tt) in let fn = inst_fn inst code.function in let c = clauses C 𝓛 𝓜.mem 𝓡.returns in
    let Row : RattleType = Past.the_row C' in
    let hs : Stays En.signature.params En.kept = (stay_dropped (RefOf (0 ∷ []) tt (plain (λ _. Row)) (λ _. tt)) yes, tt) in
    proved 𝓛 En hs c 𝓜 𝓡 (Goes-dropped 𝓛 2 (RefOf (0 ∷ []) tt (plain (λ _. Row)) (λ _. tt)) yes (λ κs x f. refl), tt) (#self inst) fn (code.unfolded 𝓤 H 𝓜 𝓡 wired (C, tt))
    (λ κs. (shr_vals, tt)) (λ κs. (shr_Tells (named 0) κs.0 Row, tt)) (λ κs qs bounds a gh are.
    let me = a.0.now in let b = a.0.ref_ptr.0 in let o = a.0.ref_ptr.1 in let κ = κs.0 in
    let y : (walk_of 𝓛 En hs c).Ghost = ((κs, qs, bounds, a, (vptr b o ∷ [], tt)), gh) in let Post : Val → SProp 𝓤 = (walk_of 𝓛 En hs c).post y in
    let toks : Fml = fsep (flft κ qs.0) (fsep (flft κs.1.0 qs.1.0) ftrue) in
    qed 𝓛 ((‵ toks ⊛ ‵ (owns (types_at En.signature.params κs) a y.0.4)) ∷ raw ((c κs a).requires gh) ∷ []) ∵ keep ! (0 ∷ []) $ split ! $
    move ! (1 ∷ []) $ fsplit ! $ fsplit ! $ drop ! $ keep ! (0 ∷ 2 ∷ []) $
    -- [what the reference holds; the tokens]
    enter ! 𝓣.C 𝓣.Λ fn (vptr b o ∷ []) Post $ alloc_all ! (λ l. pass_all ! refl ((tt, tt), tt) $
    use1 𝓛 (‵ (hidden_shr (Token C') κ (record {}, tt) b o) ⊛ ‵ (fhide (past_owns C'.coded.code me.name me.items))) (lent_out 𝓛 (Past.struct C') (Past.the_codes C.Denot C'.coded (marker.the_row C').coded) (Past.the_heap C') (Past.the_lent C') κ me b o) $
    split ! $ drop ! $ unhide ! $
    use0 𝓛 (‵ ((Token C').own_val (record {}, tt) (token ∷ []))) (token_made C' 𝓛) $ fjoin ! $
    -- [the result; the tokens]
    sets ! (agg ! (no_more !)) refl (tt, tt) $ sets ! (agg ! (and_then ! (get ! refl) (no_more !))) refl (tt, (tt, tt)) $
    nothing ! $ nothing ! $ fjoin ! $
    returns ! (look_at ! 0 refl) $ free_all ! refl $ keep ! (2 ∷ 0 ∷ 1 ∷ []) $ by ! (ends 𝓛 En hs c y token me (tt, tt) (tt, tt) (qed 𝓛 [] ∵ tells ! refl $ tells_last ! refl))))
