-- `meet` reads a share of the right beside what another knows.
use Rattle.shared_parts.proofs.Walks.{ℕ, List, [], ◌∷◌, refl, IsPrefix, a_type, named, Val, vunit, vptr, inst_fn, SProp, Fml, Share, ftrue, fsep, flft, fhide, fshr_bor, ‵, raw, ◌⊛◌, given, ◌$◌, ◌∵◌, !, qed, by, move, keep, drop, split, fsplit, fjoin, learn, use1, use2, rewrite, feq_i, shr_bor-open, obor_close, unit_lit, of_opd, returns, enter, alloc_all, pass_all, free_all, look_at, sets, fact, tables, yes, RattleType, owns, types_at, plain, RefOf, shr_vals, shr_Tells, hidden_shr, unhide, nothing, param, layouts, lent_out, Stays, stay_dropped, walk_of, Goes-dropped, proved, Token, tells_last, ends}
use Rattle.std.specs.contracts.marker.PhantomData as marker
use Rattle.shared_parts.specs.Owned.{share_of_list, past_owns}
use Rattle.shared_parts.specs.contracts.grown.Whole as Whole
use Rattle.shared_parts.specs.contracts.grown.Past as Past
use Rattle.shared_parts.proofs.Ghost.{list_halves, list_bounds}
use Rattle.shared_parts.specs.contracts.grown.Whole.meet.{ended, clauses}
use Rattle.shared_parts.specs.contracts.grown.Whole.meet.Key.{name as #self}
use Rattle.shared_parts.proofs.grown.Whole.meet.Statement.{statement}
use Rattle.shared_parts.proofs.grown.Whole.meet.Code as code

pub meet_spec : {M : Type 1} → statement M
meet_spec 𝓤 𝓛 𝓜 𝓡 wired C _ =
    let H = 𝓛.H in let 𝓣 = tables 𝓤 H 𝓜 𝓡 𝓡.env in let C' : RattleType = param 0 C in let En = ended C in
    let inst = layouts (a_type ∷ []) (C, tt) in let fn = inst_fn inst code.function in let c = clauses C 𝓛 𝓜.mem 𝓡.returns in
    let Row : RattleType = Whole.the_row C' in let Row' : RattleType = Past.the_row C' in let cv = C'.coded in
    let hs : Stays En.signature.params En.kept = (stay_dropped (RefOf (0 ∷ []) tt (plain (λ _. Row)) (λ _. tt)) yes, (stay_dropped (RefOf (1 ∷ []) tt (plain (λ _. Row')) (λ _. tt)) yes, tt)) in
    proved 𝓛 En hs c 𝓜 𝓡 (Goes-dropped 𝓛 3 (RefOf (0 ∷ []) tt (plain (λ _. Row)) (λ _. tt)) yes (λ κs x f. refl), (Goes-dropped 𝓛 3 (RefOf (1 ∷ []) tt (plain (λ _. Row')) (λ _. tt)) yes (λ κs x f. refl), tt)) (#self inst) fn (code.unfolded 𝓤 H 𝓜 𝓡 wired (C, tt))
    (λ κs. (shr_vals, (shr_vals, tt))) (λ κs. (shr_Tells (named 0) κs.0 Row, (shr_Tells (named 1) κs.1.0 Row', tt))) (λ κs qs bounds a gh are.
    let me = a.0.now in let b = a.0.ref_ptr.0 in let o = a.0.ref_ptr.1 in let κ = κs.0 in let L : Share → Fml = share_of_list cv.code me.name me.items in
    let other = a.1.0.now in let b' = a.1.0.ref_ptr.0 in let o' = a.1.0.ref_ptr.1 in let κ' = κs.1.0 in
    let y : (walk_of 𝓛 En hs c).Ghost = ((κs, qs, bounds, a, (vptr b o ∷ [], (vptr b' o' ∷ [], tt))), gh) in let Post : Val → SProp 𝓤 = (walk_of 𝓛 En hs c).post y in
    let toks : Fml = fsep (flft κ qs.0) (fsep (flft κ' qs.1.0) (fsep (flft κs.1.1.0 qs.1.1.0) ftrue)) in
    qed 𝓛 ((‵ toks ⊛ ‵ (owns (types_at En.signature.params κs) a y.0.4)) ∷ raw (fact 𝓤 _) ∷ given _ (‵ ftrue) ∷ []) ∵ keep ! (2 ∷ 0 ∷ []) $ learn ! (λ asked. drop ! $ split ! $
    fsplit ! $ move ! (2 ∷ []) $ fsplit ! $ fsplit ! $ drop ! $ move ! (1 ∷ []) $ fsplit ! $ fsplit ! $ keep ! (3 ∷ 1 ∷ 4 ∷ 5 ∷ []) $
    -- [what the first reference holds; what the second holds; the first's token; the other tokens]
    enter ! 𝓣.C 𝓣.Λ fn (vptr b o ∷ vptr b' o' ∷ []) Post $ alloc_all ! (λ l. pass_all ! refl ((tt, tt), ((tt, tt), tt)) $
    use1 𝓛 (‵ (hidden_shr (Token C') κ (record {}, tt) b o) ⊛ ‵ (fhide (fshr_bor κ L))) (lent_out 𝓛 (Whole.struct C') (Whole.the_codes C.Denot C'.coded (marker.the_row C').coded) (Whole.the_heap C') (Whole.the_lent C') κ me b o) $
    split ! $ drop ! $ unhide ! $ move ! (1 ∷ []) $
    use1 𝓛 (‵ (hidden_shr (Token C') κ' (record {}, tt) b' o') ⊛ ‵ (fhide (past_owns cv.code other.name other.items))) (lent_out 𝓛 (Past.struct C') (Past.the_codes C.Denot C'.coded (marker.the_row C').coded) (Past.the_heap C') (Past.the_lent C') κ' other b' o') $
    split ! $ drop ! $ unhide ! $ rewrite ! 0 (λ (γ : ℕ). ‵ (past_owns cv.code γ other.items)) asked refl $ move ! (1 ∷ 2 ∷ []) $
    shr_bor-open ! tt (list_halves 𝓛 cv me.name me.items) (λ q. move ! (1 ∷ 2 ∷ []) $
    use2 𝓛 (given (IsPrefix other.items me.items) (‵ (L q) ⊛ ‵ (past_owns cv.code me.name other.items))) (list_bounds 𝓛 cv q me.name me.items other.items) $ learn ! (λ so. split ! $ move ! (2 ∷ 0 ∷ []) $ obor_close ! tt $ drop ! $
    -- [the first's token; the knowledge; the other tokens]
    move ! (0 ∷ 2 ∷ []) $ fjoin ! $ move ! (1 ∷ []) $ drop ! $
    sets ! (of_opd ! (unit_lit !)) refl (tt, tt) $ feq_i ! (List Val) (vunit ∷ []) (vunit ∷ []) refl $
    nothing ! $ nothing ! $ fjoin ! $ nothing ! $ fjoin ! $
    returns ! (look_at ! 0 refl) $ free_all ! refl $ keep ! (2 ∷ 0 ∷ 1 ∷ []) $ by ! (ends 𝓛 En hs c y vunit tt (tt, (tt, tt)) (tt, (tt, tt)) (qed 𝓛 [] ∵ tells_last ! so)))))))
