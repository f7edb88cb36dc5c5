-- `pair` makes a number under a new name, and cuts the right to change it.
use Rattle.shared_parts.proofs.Walks.{ℕ, List, [], ◌∷◌, ◌++◌, refl, Val, vstruct, vcons, vnil, of_list, SProp, ftrue, fsep, feq, ‵, raw, ◌⊛◌, some, later, ◌$◌, ◌∵◌, !, qed, by, move, keep, split, fjoin, fjoin3, fpack, pick, use0, await, feq_i, no_more, and_then, returns, enter, alloc_all, pass_all, free_all, look_at, get, sets, agg, tables, RattleType, owns, Valss, types_at, unit, nothing, Stays, walk_of, proved, token, Token, token_made, tells, tells_last, ends}
use denote.Builtin.{unit}
use Rattle.shared_parts.specs.Owned.{half_owns}
use Rattle.shared_parts.specs.contracts.grown.Half as Half
use Rattle.shared_parts.proofs.Ghost.{number_new}
use Rattle.shared_parts.specs.contracts.grown.Half.pair.{ended, clauses}
use Rattle.shared_parts.specs.contracts.grown.Half.pair.Key.{name as #self}
use Rattle.shared_parts.proofs.grown.Half.pair.Statement.{statement}
use Rattle.shared_parts.proofs.grown.Half.pair.Code as code

pub pair_spec : {M : Type 1} → statement M
pair_spec 𝓤 𝓛 𝓜 𝓡 wired =
    let H = 𝓛.H in let 𝓣 = tables 𝓤 H 𝓜 𝓡 𝓡.env in let fn = code.function in let c = clauses 𝓛 𝓜.mem 𝓡.returns in
    let hs : Stays ended.signature.params ended.kept = tt in
    proved 𝓛 ended hs c 𝓜 𝓡 tt #self fn (code.unfolded 𝓤 H 𝓜 𝓡 wired)
    (λ κs. tt) (λ κs. tt) (λ κs qs bounds a gh are.
    let y : (walk_of 𝓛 ended hs c).Ghost = ((κs, qs, bounds, a, tt), gh) in let Post : Val → SProp 𝓤 = (walk_of 𝓛 ended hs c).post y in
    qed 𝓛 ((‵ ftrue ⊛ ‵ (owns (types_at ended.signature.params κs) a y.0.4)) ∷ raw ((c κs a).requires gh) ∷ []) ∵ keep ! [] $
    enter ! 𝓣.C 𝓣.Λ fn [] Post $ alloc_all ! (λ l. pass_all ! refl tt $
    use0 𝓛 (later (some (λ (γ : ℕ). ‵ (half_owns γ 0) ⊛ ‵ (half_owns γ 0)))) (number_new 𝓛) $ await ! tt $ pick ! (λ γ. split ! $
    use0 𝓛 (‵ ((Token unit).own_val (record {}, tt) (token ∷ []))) (token_made unit 𝓛) $ fjoin ! $ move ! (1 ∷ []) $
    use0 𝓛 (‵ ((Token unit).own_val (record {}, tt) (token ∷ []))) (token_made unit 𝓛) $ fjoin ! $
    sets ! (agg ! (no_more !)) refl (tt, tt) $ sets ! (agg ! (and_then ! (get ! refl) (no_more !))) refl (tt, (tt, tt)) $ sets ! (agg ! (no_more !)) refl (tt, tt) $ sets ! (agg ! (and_then ! (get ! refl) (no_more !))) refl (tt, (tt, tt)) $
    sets ! (agg ! (and_then ! (get ! refl) (and_then ! (get ! refl) (no_more !)))) refl (tt, ((tt, tt), ((tt, tt), tt))) $
    let v : Val = vstruct (vcons token (vcons token vnil)) in let Rs : List RattleType = Half.the_row ∷ Half.the_row ∷ [] in let h : Half.the_row.Denot = record { marker = record {}; name = γ; number = 0 } in
    nothing ! $ move ! (2 ∷ 1 ∷ 0 ∷ []) $ fjoin3 ! $ feq_i ! (List Val) (v ∷ []) (v ∷ []) refl $ fjoin ! $
    fpack ! (Valss Rs) (λ vss. fsep (feq (List Val) (v ∷ []) (vstruct (of_list (vss.0 ++ (vss.1.0 ++ []))) ∷ [])) (owns Rs (h, (h, tt)) vss)) (token ∷ [], (token ∷ [], tt)) $
    nothing ! $ nothing ! $
    returns ! (look_at ! 0 refl) $ free_all ! refl $ keep ! (0 ∷ 1 ∷ 2 ∷ []) $ by ! (ends 𝓛 ended hs c y v (h, h) tt tt (qed 𝓛 [] ∵ tells ! refl $ tells ! refl $ tells_last ! refl)))))
