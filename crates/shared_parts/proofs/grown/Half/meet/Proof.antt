-- `meet` reads a share of the right beside another.
use Rattle.shared_parts.proofs.Walks.{◌≡◌, ℕ, List, [], ◌∷◌, refl, sym, named, Val, vunit, vptr, SProp, Fml, Share, ftrue, fsep, flft, fhide, fshr_bor, ‵, ◌⊛◌, given, ◌$◌, ◌∵◌, !, qed, by, move, keep, drop, split, fsplit, fsplit3, fjoin, learn, use1, use2, rewrite, feq_i, shr_bor-open, obor_close, unit_lit, of_opd, returns, enter, alloc_all, pass_all, free_all, look_at, sets, tables, yes, RattleType, owns, types_at, plain, RefOf, unit, shr_vals, shr_Tells, hidden_shr, unhide, nothing, lent_out, Stays, stay_dropped, walk_of, Goes-dropped, proved, Token, tells_last, ends}
use denote.Builtin.{unit}
use Rattle.std.specs.contracts.marker.PhantomData as marker
use Rattle.shared_parts.specs.Owned.{share_of_number}
use Rattle.shared_parts.specs.contracts.grown.Half as Half
use Rattle.shared_parts.proofs.Ghost.{number_halves, numbers_agree}
use Rattle.shared_parts.specs.contracts.grown.Half.meet.{ended, clauses}
use Rattle.shared_parts.specs.contracts.grown.Half.meet.Key.{name as #self}
use Rattle.shared_parts.proofs.grown.Half.meet.Statement.{statement}
use Rattle.shared_parts.proofs.grown.Half.meet.Code as code

pub meet_spec : {M : Type 1} → statement M
meet_spec 𝓤 𝓛 𝓜 𝓡 wired =
    let H = 𝓛.H in let 𝓣 = tables 𝓤 H 𝓜 𝓡 𝓡.env in let fn = code.function in let c = clauses 𝓛 𝓜.mem 𝓡.returns in let Row : RattleType = Half.the_row in
    let hs : Stays ended.signature.params ended.kept = (stay_dropped (RefOf (0 ∷ []) tt (plain (λ _. Row)) (λ _. tt)) yes, (stay_dropped (RefOf (1 ∷ []) tt (plain (λ _. Row)) (λ _. tt)) yes, tt)) in
    proved 𝓛 ended hs c 𝓜 𝓡 (Goes-dropped 𝓛 2 (RefOf (0 ∷ []) tt (plain (λ _. Row)) (λ _. tt)) yes (λ κs x f. refl), (Goes-dropped 𝓛 2 (RefOf (1 ∷ []) tt (plain (λ _. Row)) (λ _. tt)) yes (λ κs x f. refl), tt)) #self fn (code.unfolded 𝓤 H 𝓜 𝓡 wired)
    (λ κs. (shr_vals, (shr_vals, tt))) (λ κs. (shr_Tells (named 0) κs.0 Row, (shr_Tells (named 1) κs.1.0 Row, tt))) (λ κs qs bounds a gh are.
    let me = a.0.now in let b = a.0.ref_ptr.0 in let o = a.0.ref_ptr.1 in let κ = κs.0 in
    let other = a.1.0.now in let b' = a.1.0.ref_ptr.0 in let o' = a.1.0.ref_ptr.1 in let κ' = κs.1.0 in
    let y : (walk_of 𝓛 ended hs c).Ghost = ((κs, qs, bounds, a, (vptr b o ∷ [], (vptr b' o' ∷ [], tt))), gh) in let Post : Val → SProp 𝓤 = (walk_of 𝓛 ended hs c).post y in
    let toks : Fml = fsep (flft κ qs.0) (fsep (flft κ' qs.1.0) ftrue) in let N : ℕ → ℕ → Share → Fml = share_of_number in
    qed 𝓛 ((‵ toks ⊛ ‵ (owns (types_at ended.signature.params κs) a y.0.4)) ∷ given _ (‵ ftrue) ∷ []) ∵ move ! (1 ∷ []) $ learn ! (λ asked. drop ! $ split ! $
    fsplit3 ! $ move ! (3 ∷ []) $ fsplit ! $ fsplit ! $ drop ! $ move ! (1 ∷ []) $ fsplit ! $ fsplit ! $ keep ! (3 ∷ 1 ∷ 4 ∷ 5 ∷ []) $
    -- [what the first reference holds; what the second holds; the first's token; the second's token]
    enter ! 𝓣.C 𝓣.Λ fn (vptr b o ∷ vptr b' o' ∷ []) Post $ alloc_all ! (λ l. pass_all ! refl ((tt, tt), ((tt, tt), tt)) $
    use1 𝓛 (‵ (hidden_shr (Token unit) κ (record {}, tt) b o) ⊛ ‵ (fhide (fshr_bor κ (N me.name me.number)))) (lent_out 𝓛 Half.struct (Half.the_codes (marker.the_row unit).coded) Half.the_heap Half.the_lent κ me b o) $
    split ! $ drop ! $ unhide ! $ move ! (1 ∷ []) $
    use1 𝓛 (‵ (hidden_shr (Token unit) κ' (record {}, tt) b' o') ⊛ ‵ (fhide (fshr_bor κ' (N other.name other.number)))) (lent_out 𝓛 Half.struct (Half.the_codes (marker.the_row unit).coded) Half.the_heap Half.the_lent κ' other b' o') $
    split ! $ drop ! $ unhide ! $ rewrite ! 0 (λ (γ : ℕ). ‵ (fshr_bor κ' (N γ other.number))) (sym asked) refl $ move ! (0 ∷ 3 ∷ []) $
    shr_bor-open ! tt (number_halves 𝓛 me.name other.number) (λ r. move ! (2 ∷ 3 ∷ []) $ shr_bor-open ! tt (number_halves 𝓛 me.name me.number) (λ q. move ! (1 ∷ 3 ∷ []) $
    use2 𝓛 (given (me.number ≡ other.number) (‵ (N me.name me.number q) ⊛ ‵ (N me.name other.number r))) (numbers_agree 𝓛 q r me.name me.number other.number) $ learn ! (λ so. split ! $
    -- [a share of the first; a share of the second; the first's open borrow; the second's]
    move ! (2 ∷ 0 ∷ []) $ obor_close ! tt $ drop ! $ move ! (2 ∷ 1 ∷ []) $ obor_close ! tt $ drop ! $
    sets ! (of_opd ! (unit_lit !)) refl (tt, tt) $ feq_i ! (List Val) (vunit ∷ []) (vunit ∷ []) refl $
    -- [the result; the second's token; the first's]
    nothing ! $ move ! (2 ∷ 0 ∷ []) $ fjoin ! $ move ! (2 ∷ 0 ∷ []) $ fjoin ! $ nothing ! $ nothing ! $ fjoin ! $ nothing ! $ fjoin ! $
    -- [what is had of the parameters; the tokens; the result]
    returns ! (look_at ! 0 refl) $ free_all ! refl $ keep ! (1 ∷ 0 ∷ 2 ∷ []) $ by ! (ends 𝓛 ended hs c y vunit tt (tt, (tt, tt)) (tt, (tt, tt)) (qed 𝓛 [] ∵ tells_last ! so))))))))
