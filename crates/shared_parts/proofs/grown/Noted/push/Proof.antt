-- `push` says that there is an item more.
use Rattle.shared_parts.proofs.Walks.{List, [], ◌∷◌, ◌++◌, refl, a_type, named, Val, vunit, vptr, inst_fn, SProp, Fml, ftrue, fsep, flft, ‵, raw, ◌⊛◌, ◌$◌, ◌∵◌, !, qed, by, move, keep, split, fsplit, fsplit3, fjoin, fjoin3, feq_i, unit_lit, of_opd, returns, enter, alloc_all, pass_all, free_all, look_at, sets, tables, yes, RattleType, owns, types_at, plain, RefOf, mut_vals, mut_Tells, shr_vals, shr_Tells, nothing, opens, closes, param, layouts, Stays, stay_dropped, stay_ref, walk_of, Goes-dropped, Goes-ref, proved, tells_last, ends}
use Rattle.std.specs.contracts.snapshot.Snapshot as Snapshot
use Rattle.shared_parts.specs.contracts.grown.Noted as Noted
use Rattle.shared_parts.specs.contracts.grown.Noted.push.{ended, clauses}
use Rattle.shared_parts.specs.contracts.grown.Noted.push.Key.{name as #self}
use Rattle.shared_parts.proofs.grown.Noted.push.Statement.{statement}
use Rattle.shared_parts.proofs.grown.Noted.push.Code as code

pub push_spec : {M : Type 1} → statement M
push_spec 𝓤 𝓛 𝓜 𝓡 wired C _ =
    let H = 𝓛.H in let 𝓣 = tables 𝓤 H 𝓜 𝓡 𝓡.env in let C' : RattleType = param 0 C in let En = ended C in
    let inst = layouts (a_type ∷ []) (C, tt) in let fn = inst_fn inst code.function in let c = clauses C 𝓛 𝓜.mem 𝓡.returns in
    let Row : RattleType = Noted.the_row C' in let Row' : RattleType = Snapshot.the_row C' in
    let hs : Stays En.signature.params En.kept = (stay_ref (0 ∷ []) tt (plain (λ _. Row)), (stay_dropped (RefOf (1 ∷ []) tt (plain (λ _. Row')) (λ _. tt)) yes, tt)) in
    proved 𝓛 En hs c 𝓜 𝓡 (Goes-ref 𝓛 3 0 tt (plain (λ _. Row)), (Goes-dropped 𝓛 3 (RefOf (1 ∷ []) tt (plain (λ _. Row')) (λ _. tt)) yes (λ κs x f. refl), tt)) (#self inst) fn (code.unfolded 𝓤 H 𝓜 𝓡 wired (C, tt))
    (λ κs. (mut_vals, (shr_vals, tt))) (λ κs. (mut_Tells (named 0) κs.0 Row, (shr_Tells (named 1) κs.1.0 Row', tt))) (λ κs qs bounds a gh are.
    let me = a.0.now in let b = a.0.ref_ptr.0 in let o = a.0.ref_ptr.1 in let κ = κs.0 in
    let b' = a.1.0.ref_ptr.0 in let o' = a.1.0.ref_ptr.1 in let more = me.items ++ a.1.0.now.value ∷ [] in
    let y : (walk_of 𝓛 En hs c).Ghost = ((κs, qs, bounds, a, (vptr b o ∷ [], (vptr b' o' ∷ [], tt))), gh) in let Post : Val → SProp 𝓤 = (walk_of 𝓛 En hs c).post y in
    let toks : Fml = fsep (flft κ qs.0) (fsep (flft κs.1.0 qs.1.0) (fsep (flft κs.1.1.0 qs.1.1.0) ftrue)) in
    qed 𝓛 ((‵ toks ⊛ ‵ (owns (types_at En.signature.params κs) a y.0.4)) ∷ raw ((c κs a).requires gh) ∷ []) ∵ keep ! (0 ∷ []) $ split ! $
    fsplit ! $ move ! (2 ∷ []) $ fsplit ! $ fsplit3 ! $ keep ! (1 ∷ 2 ∷ 4 ∷ 5 ∷ []) $
    -- [the last value's half; the borrow; its token; the other tokens]
    enter ! 𝓣.C 𝓣.Λ fn (vptr b o ∷ vptr b' o' ∷ []) Post $ alloc_all ! (λ l. pass_all ! refl ((tt, tt), ((tt, tt), tt)) $
    opens ! tt Row b o (λ vs. closes ! tt Row (record { marker = record {}; items = more }) vs b o $
    sets ! (of_opd ! (unit_lit !)) refl (tt, tt) $ feq_i ! (List Val) (vunit ∷ []) (vunit ∷ []) refl $
    -- [the result; the last value's half; the borrow; its token; the other tokens]
    move ! (3 ∷ 4 ∷ []) $ fjoin ! $ nothing ! $ nothing ! $ fjoin ! $ feq_i ! (List Val) (vptr b o ∷ []) (vptr b o ∷ []) refl $ move ! (0 ∷ 4 ∷ 5 ∷ []) $ fjoin3 ! $ fjoin ! $
    -- [what is had of the parameters; the tokens; the result]
    returns ! (look_at ! 0 refl) $ free_all ! refl $ keep ! (1 ∷ 0 ∷ 2 ∷ []) $ by ! (ends 𝓛 En hs c y vunit tt (record { marker = record {}; items = more }, (tt, tt)) (tt, (tt, tt)) (qed 𝓛 [] ∵ tells_last ! refl)))))
