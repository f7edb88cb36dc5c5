-- `add` puts the halves together, moves the number on, and cuts them again.
use Rattle.shared_parts.proofs.Walks.{ℕ, ◌+◌, List, [], ◌∷◌, refl, sym, w64, named, Val, vunit, vint, vptr, SProp, Fml, ftrue, fsep, flft, ‵, ◌⊛◌, given, later, ◌$◌, ◌∵◌, !, qed, by, move, keep, drop, split, fsplit, fsplit3, fjoin, fjoin3, learn, use2, await, rewrite, feq_i, unit_lit, of_opd, returns, enter, alloc_all, pass_all, free_all, look_at, sets, tables, yes, RattleType, owns, types_at, plain, u64, mut_vals, mut_Tells, uint_vals, uint_Tells, nothing, opens, closes, Stays, stay_dropped, stay_ref, walk_of, Goes-dropped, Goes-ref, proved, tells, tells_last, ends}
use Rattle.shared_parts.specs.Owned.{half_owns}
use Rattle.shared_parts.specs.contracts.grown.Half as Half
use Rattle.shared_parts.proofs.Ghost.{number_grows}
use Rattle.shared_parts.specs.contracts.grown.Half.add.{ended, clauses}
use Rattle.shared_parts.specs.contracts.grown.Half.add.Key.{name as #self}
use Rattle.shared_parts.proofs.grown.Half.add.Statement.{statement}
use Rattle.shared_parts.proofs.grown.Half.add.Code as code

pub add_spec : {M : Type 1} → statement M
add_spec 𝓤 𝓛 𝓜 𝓡 wired =
    let H = 𝓛.H in let 𝓣 = tables 𝓤 H 𝓜 𝓡 𝓡.env in let fn = code.function in let c = clauses 𝓛 𝓜.mem 𝓡.returns in let Row : RattleType = Half.the_row in
    let hs : Stays ended.signature.params ended.kept = (stay_ref (0 ∷ []) tt (plain (λ _. Row)), (stay_ref (1 ∷ []) tt (plain (λ _. Row)), (stay_dropped (plain (λ _. u64)) yes, tt))) in
    proved 𝓛 ended hs c 𝓜 𝓡 (Goes-ref 𝓛 2 0 tt (plain (λ _. Row)), (Goes-ref 𝓛 2 1 tt (plain (λ _. Row)), (Goes-dropped 𝓛 2 (plain (λ _. u64)) yes (λ κs x f. refl), tt))) #self fn (code.unfolded 𝓤 H 𝓜 𝓡 wired)
    (λ κs. (mut_vals, (mut_vals, (uint_vals w64, tt)))) (λ κs. (mut_Tells (named 0) κs.0 Row, (mut_Tells (named 1) κs.1.0 Row, (uint_Tells w64, tt)))) (λ κs qs bounds a gh are.
    let me = a.0.now in let b = a.0.ref_ptr.0 in let o = a.0.ref_ptr.1 in let κ = κs.0 in
    let other = a.1.0.now in let b' = a.1.0.ref_ptr.0 in let o' = a.1.0.ref_ptr.1 in let κ' = κs.1.0 in let n : ℕ = a.1.1.0 in
    let y : (walk_of 𝓛 ended hs c).Ghost = ((κs, qs, bounds, a, (vptr b o ∷ [], (vptr b' o' ∷ [], (vint w64 n ∷ [], tt)))), gh) in let Post : Val → SProp 𝓤 = (walk_of 𝓛 ended hs c).post y in
    let toks : Fml = fsep (flft κ qs.0) (fsep (flft κ' qs.1.0) ftrue) in
    let me' : Row.Denot = record { marker = record {}; name = me.name; number = me.number + n } in let other' : Row.Denot = record { marker = record {}; name = other.name; number = other.number + n } in
    qed 𝓛 ((‵ toks ⊛ ‵ (owns (types_at ended.signature.params κs) a y.0.4)) ∷ given _ (‵ ftrue) ∷ []) ∵ move ! (1 ∷ []) $ learn ! (λ asked. drop ! $ split ! $
    fsplit3 ! $ move ! (3 ∷ []) $ fsplit ! $ fsplit3 ! $ drop ! $ move ! (2 ∷ []) $ fsplit ! $ fsplit3 ! $ keep ! (4 ∷ 5 ∷ 6 ∷ 1 ∷ 2 ∷ 7 ∷ []) $
    -- [the first's last value's half; its borrow; its token; the second's last value's half; its borrow; its token]
    enter ! 𝓣.C 𝓣.Λ fn (vptr b o ∷ vptr b' o' ∷ vint w64 n ∷ []) Post $ alloc_all ! (λ l. pass_all ! refl ((tt, tt), ((tt, tt), ((tt, record { fits = are.1.1.0.1 }), tt))) $
    opens ! tt Row b o (λ vs. move ! (5 ∷ 6 ∷ 7 ∷ []) $ opens ! tt Row b' o' (λ ws. move ! (1 ∷ 6 ∷ []) $ fsplit ! $ move ! (2 ∷ []) $ fsplit ! $
    -- [the first's fields; its right; the second's fields; its right; ..]
    move ! (3 ∷ []) $ rewrite ! 0 (λ (γ : ℕ). ‵ (half_owns γ other.number)) (sym asked) refl $ move ! (2 ∷ 0 ∷ []) $
    use2 𝓛 (later (‵ (half_owns me.name (me.number + n)) ⊛ ‵ (half_owns me.name (other.number + n)))) (number_grows 𝓛 me.name me.number other.number n) $ await ! tt $ split ! $
    move ! (1 ∷ []) $ rewrite ! 0 (λ (γ : ℕ). ‵ (half_owns γ (other.number + n))) asked refl $
    -- [the second's right; the first's; the first's fields; the second's fields; the second's cell and open borrow; the
    -- first's]
    move ! (3 ∷ 0 ∷ []) $ fjoin ! $ move ! (3 ∷ 0 ∷ 4 ∷ 5 ∷ 6 ∷ []) $ closes ! tt Row other' ws b' o' $
    move ! (4 ∷ 3 ∷ []) $ fjoin ! $ move ! (4 ∷ 0 ∷ 5 ∷ 6 ∷ 7 ∷ []) $ closes ! tt Row me' vs b o $
    sets ! (of_opd ! (unit_lit !)) refl (tt, tt) $ feq_i ! (List Val) (vunit ∷ []) (vunit ∷ []) refl $
    -- [the result; the first's last value's half; its borrow; its token; the second's last value's half; its borrow;
    -- its token]
    nothing ! $ move ! (7 ∷ 0 ∷ []) $ fjoin ! $ move ! (4 ∷ 0 ∷ []) $ fjoin ! $ nothing ! $ nothing ! $ fjoin ! $
    feq_i ! (List Val) (vptr b' o' ∷ []) (vptr b' o' ∷ []) refl $ move ! (0 ∷ 6 ∷ 7 ∷ []) $ fjoin3 ! $ fjoin ! $
    feq_i ! (List Val) (vptr b o ∷ []) (vptr b o ∷ []) refl $ move ! (0 ∷ 4 ∷ 5 ∷ []) $ fjoin3 ! $ fjoin ! $
    -- [what is had of the parameters; the tokens; the result]
    returns ! (look_at ! 0 refl) $ free_all ! refl $ keep ! (1 ∷ 0 ∷ 2 ∷ []) $ by ! (ends 𝓛 ended hs c y vunit tt (me', (other', (tt, tt))) (tt, (tt, (tt, tt))) (qed 𝓛 [] ∵ tells ! refl $ tells ! refl $ tells ! refl $ tells_last ! refl))))))
    )
