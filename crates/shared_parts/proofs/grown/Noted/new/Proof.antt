-- `new` says that there is no item.
use Rattle.shared_parts.proofs.Walks.{[], ◌∷◌, refl, a_type, Val, inst_fn, SProp, Fml, ftrue, fsep, flft, ‵, raw, ◌⊛◌, ◌$◌, ◌∵◌, !, qed, by, keep, split, fjoin, use0, no_more, and_then, returns, enter, alloc_all, pass_all, free_all, look_at, get, sets, agg, tables, RattleType, owns, types_at, nothing, param, layouts, Stays, walk_of, proved, token, Token, token_made, tells_last, ends}
use Rattle.shared_parts.specs.contracts.grown.Noted.new.{ended, clauses}
use Rattle.shared_parts.specs.contracts.grown.Noted.new.Key.{name as #self}
use Rattle.shared_parts.proofs.grown.Noted.new.Statement.{statement}
use Rattle.shared_parts.proofs.grown.Noted.new.Code as code

pub new_spec : {M : Type 1} → statement M
new_spec 𝓤 𝓛 𝓜 𝓡 wired C _ =
    let H = 𝓛.H in let 𝓣 = tables 𝓤 H 𝓜 𝓡 𝓡.env in let C' : RattleType = param 0 C in let En = ended C in
    let inst = layouts (a_type ∷ []) (C, tt) in let fn = inst_fn inst code.function in let c = clauses C 𝓛 𝓜.mem 𝓡.returns in
    let hs : Stays En.signature.params En.kept = tt in
    proved 𝓛 En hs c 𝓜 𝓡 tt (#self inst) fn (code.unfolded 𝓤 H 𝓜 𝓡 wired (C, tt))
    (λ κs. tt) (λ κs. tt) (λ κs qs bounds a gh are.
    let y : (walk_of 𝓛 En hs c).Ghost = ((κs, qs, bounds, a, tt), gh) in let Post : Val → SProp 𝓤 = (walk_of 𝓛 En hs c).post y in
    let toks : Fml = fsep (flft κs.0 qs.0) ftrue in
    qed 𝓛 ((‵ toks ⊛ ‵ (owns (types_at En.signature.params κs) a y.0.4)) ∷ raw ((c κs a).requires gh) ∷ []) ∵ keep ! (0 ∷ []) $ split ! $ keep ! (0 ∷ []) $
    enter ! 𝓣.C 𝓣.Λ fn [] Post $ alloc_all ! (λ l. pass_all ! refl tt $
    nothing ! $
    use0 𝓛 (‵ ((Token C').own_val (record {}, tt) (token ∷ []))) (token_made C' 𝓛) $ fjoin ! $
    -- [the result; the tokens]
    sets ! (agg ! (no_more !)) refl (tt, tt) $ sets ! (agg ! (and_then ! (get ! refl) (no_more !))) refl (tt, (tt, tt)) $
    nothing ! $
    returns ! (look_at ! 0 refl) $ free_all ! refl $ keep ! (2 ∷ 0 ∷ 1 ∷ []) $ by ! (ends 𝓛 En hs c y token (record { marker = record {}; items = [] }) tt tt (qed 𝓛 [] ∵ tells_last ! refl))))
