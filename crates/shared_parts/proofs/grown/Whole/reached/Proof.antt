-- `reached` gives what the list is now as knowledge.
use Rattle.shared_parts.proofs.Walks.{[], ◌∷◌, refl, a_type, named, Val, vptr, inst_fn, SProp, Fml, Share, ftrue, fsep, flft, fhide, fshr_bor, ‵, raw, ◌⊛◌, ◌$◌, ◌∵◌, !, qed, by, move, keep, drop, split, fsplit, fjoin, use0, use1, shr_bor-open, obor_close, no_more, and_then, returns, enter, alloc_all, pass_all, free_all, look_at, get, sets, agg, tables, yes, RattleType, owns, types_at, plain, RefOf, shr_vals, shr_Tells, hidden_shr, unhide, nothing, param, layouts, lent_out, Stays, stay_dropped, walk_of, Goes-dropped, proved, token, Token, token_made, tells, tells_last, ends}
use Rattle.std.specs.contracts.marker.PhantomData as marker
use Rattle.shared_parts.specs.Owned.{share_of_list, past_owns}
use Rattle.shared_parts.specs.contracts.grown.Whole as Whole
use Rattle.shared_parts.proofs.Ghost.{list_halves, list_shows}
use Rattle.shared_parts.specs.contracts.grown.Whole.reached.{ended, clauses}
use Rattle.shared_parts.specs.contracts.grown.Whole.reached.Key.{name as #self}
use Rattle.shared_parts.proofs.grown.Whole.reached.Statement.{statement}
use Rattle.shared_parts.proofs.grown.Whole.reached.Code as code

pub reached_spec : {M : Type 1} → statement M
reached_spec 𝓤 𝓛 𝓜 𝓡 wired C _ =
    let H = 𝓛.H in let 𝓣 = tables 𝓤 H 𝓜 𝓡 𝓡.env in let C' : RattleType = param 0 C in let En = ended C in
    let inst = layouts (a_type ∷ []) (C, tt) in let fn = inst_fn inst code.function in let c = clauses C 𝓛 𝓜.mem 𝓡.returns in
    let Row : RattleType = Whole.the_row C' in let cv = C'.coded in
    let hs : Stays En.signature.params En.kept = (stay_dropped (RefOf (0 ∷ []) tt (plain (λ _. Row)) (λ _. tt)) yes, tt) in
    proved 𝓛 En hs c 𝓜 𝓡 (Goes-dropped 𝓛 2 (RefOf (0 ∷ []) tt (plain (λ _. Row)) (λ _. tt)) yes (λ κs x f. refl), tt) (#self inst) fn (code.unfolded 𝓤 H 𝓜 𝓡 wired (C, tt))
    (λ κs. (shr_vals, tt)) (λ κs. (shr_Tells (named 0) κs.0 Row, tt)) (λ κs qs bounds a gh are.
    let me = a.0.now in let b = a.0.ref_ptr.0 in let o = a.0.ref_ptr.1 in let κ = κs.0 in let L : Share → Fml = share_of_list cv.code me.name me.items in
    let y : (walk_of 𝓛 En hs c).Ghost = ((κs, qs, bounds, a, (vptr b o ∷ [], tt)), gh) in let Post : Val → SProp 𝓤 = (walk_of 𝓛 En hs c).post y in
    let toks : Fml = fsep (flft κ qs.0) (fsep (flft κs.1.0 qs.1.0) ftrue) in
    qed 𝓛 ((‵ toks ⊛ ‵ (owns (types_at En.signature.params κs) a y.0.4)) ∷ raw ((c κs a).requires gh) ∷ []) ∵ keep ! (0 ∷ []) $ split ! $
    fsplit ! $ move ! (2 ∷ []) $ fsplit ! $ fsplit ! $ drop ! $ keep ! (0 ∷ 2 ∷ 3 ∷ []) $
    -- [what the reference holds; its token; the other tokens]
    enter ! 𝓣.C 𝓣.Λ fn (vptr b o ∷ []) Post $ alloc_all ! (λ l. pass_all ! refl ((tt, tt), tt) $
    use1 𝓛 (‵ (hidden_shr (Token C') κ (record {}, tt) b o) ⊛ ‵ (fhide (fshr_bor κ L))) (lent_out 𝓛 (Whole.struct C') (Whole.the_codes C.Denot C'.coded (marker.the_row C').coded) (Whole.the_heap C') (Whole.the_lent C') κ me b o) $
    split ! $ drop ! $ unhide ! $ shr_bor-open ! tt (list_halves 𝓛 cv me.name me.items) (λ q. move ! (1 ∷ []) $
    use1 𝓛 (‵ (L q) ⊛ ‵ (past_owns cv.code me.name me.items)) (list_shows 𝓛 cv q me.name me.items) $ split ! $ move ! (2 ∷ 0 ∷ []) $ obor_close ! tt $ drop ! $
    -- [its token; the knowledge; the other tokens]
    move ! (0 ∷ 2 ∷ []) $ fjoin ! $ move ! (1 ∷ []) $
    use0 𝓛 (‵ ((Token C').own_val (record {}, tt) (token ∷ []))) (token_made C' 𝓛) $ fjoin ! $
    -- [the result; the tokens]
    sets ! (agg ! (no_more !)) refl (tt, tt) $ sets ! (agg ! (and_then ! (get ! refl) (no_more !))) refl (tt, (tt, tt)) $
    nothing ! $ nothing ! $ fjoin ! $
    returns ! (look_at ! 0 refl) $ free_all ! refl $ keep ! (2 ∷ 0 ∷ 1 ∷ []) $ by ! (ends 𝓛 En hs c y token (record { marker = record {}; name = me.name; items = me.items }) (tt, tt) (tt, tt) (qed 𝓛 [] ∵ tells ! refl $ tells_last ! refl)))))
