-- Blocks that an activation which fits enters, leaves and ends.
use Rattle.std.proofs.Common.{◌≡◌, ℕ, zero, suc, true, false, List, [], ◌∷◌, ◌++◌, Option, Some, None, refl, sym, ◌∙◌, ap, subst, drop, length, reverse, arith, append_assoc}
use Rattle.std.proofs.lemmas.List.{append-nil}
use Rattle.wasm_types.specs.declared.value.Value.{Value}
use Rattle.wasm_types.specs.declared.value.ValType.{ValType}
use Rattle.wasm_types.specs.declared.value.ValType.TheVariants.{I32}
use Rattle.wasm_types.specs.declared.instruction.Instr.{Instr}
use Rattle.wasm_types.specs.declared.instruction.Instr.TheVariants as instr
use Rattle.wasm_types.specs.declared.instruction.BlockKind.TheVariants.{Block, Loop, If}
use Rattle.wasm_types.specs.declared.instruction.Plain.TheVariants.{Else, End}
use Rattle.wasm_types.specs.declared.nesting.Enclosing.{Enclosing}
use Rattle.wasm_types.specs.declared.nesting.Enclosing.TheVariants.{FirstArm, Whole}
use Rattle.validator.specs.Targets.{end_from, else_from}
use Rattle.validator.specs.Context.{Context}
use Rattle.validator.specs.Table.{Enters, class_of, seq}
use Rattle.validator.specs.Walk.{Frame, Operand, walk, give, opened, known, with_stack, pop_all, may_turn, closed, step_by, at_frames}
use Rattle.validator.proofs.Sound.{there, allowed, both_true}
use Rattle.validator.proofs.Reach.{leaves_nothing}
use Rattle.thread_words.specs.Instance.{Instance}
use Rattle.thread_words.specs.Activation.{Label, Activation, at_place, types}
use Rattle.thread_words.specs.Step.{Next, Stays, Returns, found, on_i32, if_zero, otherwise, leave, enter}
use Rattle.thread_words.specs.Fits.{Stands, LandsIn, Fits, ActivationFits, Good}
use Rattle.thread_words.proofs.Frames.{types_length, Under, top_of, pops_top, fits_give, behind, behind_else, on_top_is, no_front}
use Rattle.thread_words.proofs.Landing.{Typed}
use Rattle.thread_words.proofs.Steps.{Here, Goes, one_int}

-- what stands where a block was entered
record Entered (c : Context) (code : List Instr) (a : Activation) (is : List Instr) (takes : List ValType) (enclosing : Enclosing) (label result : List ValType) : Type 0 where
  arguments : List Value
  others : List Value
  whole : a.stack ≡ arguments ++ others
  kinds : types arguments ≡ reverse takes
  around : List Frame
  rest : Stands c code (suc a.place) (opened enclosing label result ∷ around)
  fits : Fits c code others a.labels around

entered : (c : Context) (code : List Instr) (a : Activation) (i : Instr) (is : List Instr) (w : Frame) (ws gs : List Frame) (takes : List ValType) (enclosing : Enclosing) (label result : List ValType)
    → Here c code a i is w ws gs → class_of (at_frames c (w ∷ ws)) i ≡ Enters takes enclosing label result → Entered c code a is takes enclosing label result
entered c code a i is w ws gs takes enclosing label result h e =
    let st : step_by (Enters takes enclosing label result) w ws ≡ Some gs = subst (λ x. step_by x w ws ≡ Some gs) e h.stepped in
    let p = there (pop_all w.unreachable (reverse takes) w.stack) _ gs st in
    let g : opened enclosing label result ∷ with_stack p.0 w ∷ ws ≡ gs = cc in
    let t = top_of c code a.stack a.labels w ws h.fits in
    let q = pops_top (reverse takes) w t.top p.0 t.alive t.kinds p.1 in
    record {
      arguments = q.arguments;
      others = q.rest ++ t.below;
      whole = t.whole ∙ ap (λ x. x ++ t.below) q.whole ∙ append_assoc q.arguments q.rest t.below;
      kinds = q.kinds;
      around = with_stack p.0 w ∷ ws;
      rest = subst (λ x. Stands c code (suc a.place) x) (sym g) h.rest;
      fits = t.other q.rest (with_stack p.0 w) t.alive q.left refl refl refl;
    }

-- an activation inside a block that was entered
within : (c : Context) (code : List Instr) (a : Activation) (i : Instr) (is : List Instr) (place : ℕ) (vs : List Value) (around : List Frame) (enclosing : Enclosing) (label result : List ValType)
    → Typed c a → drop a.place code ≡ i ∷ is → Stands c code (suc place) (opened enclosing label result ∷ around)
    → LandsIn c code a.place (i ∷ is) label result around → Fits c code vs a.labels around
    → ActivationFits c code (at_place (suc place) vs (record { opener = a.place; height = length vs } ∷ a.labels) a)
within c code a i is place vs around enclosing label result tl here h j f =
    (tl.0, tl.1, opened enclosing label result ∷ around, h, ([], vs, refl, refl, refl, refl, subst (λ x. LandsIn c code a.place x label result around) (sym here) j, f))

pub go_block : (m : Instance) (c : Context) (code : List Instr) (a : Activation) (t : Option ValType) (is : List Instr) (w : Frame) (ws gs : List Frame) → Here c code a (instr.Block Block t) is w ws gs
    → Goes m c code a (instr.Block Block t ∷ is)
go_block m c code a t is w ws gs h =
    let p = entered c code a (instr.Block Block t) is w ws gs [] Whole (seq t) (seq t) h refl in
    let e : a.stack ≡ p.others = p.whole ∙ ap (λ x. x ++ p.others) (no_front p.arguments p.kinds) in
    let b = behind c code is a.place (opened Whole (seq t) (seq t)) p.around h.behind_it p.rest in (
      Stays (at_place (suc a.place) a.stack (record { opener = a.place; height = length a.stack } ∷ a.labels) a),
      refl,
      within c code a (instr.Block Block t) is a.place a.stack p.around Whole (seq t) (seq t) h.typed h.here p.rest
          (refl, b.0, b.1, b.2) (subst (λ x. Fits c code x a.labels p.around) (sym e) p.fits),
    )

pub go_loop : (m : Instance) (c : Context) (code : List Instr) (a : Activation) (t : Option ValType) (is : List Instr) (w : Frame) (ws gs : List Frame) → Here c code a (instr.Block Loop t) is w ws gs
    → Goes m c code a (instr.Block Loop t ∷ is)
go_loop m c code a t is w ws gs h =
    let p = entered c code a (instr.Block Loop t) is w ws gs [] Whole [] (seq t) h refl in
    let e : a.stack ≡ p.others = p.whole ∙ ap (λ x. x ++ p.others) (no_front p.arguments p.kinds) in
    let r = p.rest in (
      Stays (at_place (suc a.place) a.stack (record { opener = a.place; height = length a.stack } ∷ a.labels) a),
      refl,
      within c code a (instr.Block Loop t) is a.place a.stack p.around Whole [] (seq t) h.typed h.here r (refl, r) (subst (λ x. Fits c code x a.labels p.around) (sym e) p.fits),
    )

choose_if : (c : Context) (code : List Instr) (n place : ℕ) (turn end : Option ℕ) (f g : ℕ → Option Next) → (m : Next) × (f place ≡ Some m) × Good c code m
    → ((x : ℕ) → turn ≡ Some x → (m : Next) × (f x ≡ Some m) × Good c code m) → (turn ≡ None → (m : Next) × (found end g ≡ Some m) × Good c code m)
    → (m : Next) × (if_zero n (otherwise turn end f g) (f place) ≡ Some m) × Good c code m
choose_if c code (suc n) place turn end f g x y z = x
choose_if c code zero place (Some t) end f g x y z = y t refl
choose_if c code zero place None end f g x y z = z refl

given_none : (ws : List Frame) → give [] ws ≡ ws
given_none [] = refl
given_none (w ∷ ws) = refl

skipped : (c : Context) (code : List Instr) (ts : List ValType) (ws : List Frame) (e : ℕ) → ts ≡ [] → Stands c code (suc e) (give ts ws) → Stands c code (suc e) ws
skipped c code ts ws e q h = subst (λ x. Stands c code (suc e) x) (ap (λ x. give x ws) q ∙ given_none ws) h

pub go_if : (m : Instance) (c : Context) (code : List Instr) (a : Activation) (t : Option ValType) (is : List Instr) (w : Frame) (ws gs : List Frame) → Here c code a (instr.Block If t) is w ws gs
    → Goes m c code a (instr.Block If t ∷ is)
go_if m c code a t is w ws gs h =
    let p = entered c code a (instr.Block If t) is w ws gs (I32 ∷ []) FirstArm (seq t) (seq t) h refl in
    let n = one_int a.stack p.arguments p.others p.whole p.kinds in
    let b = behind c code is a.place (opened FirstArm (seq t) (seq t)) p.around h.behind_it p.rest in
    let j : LandsIn c code a.place (instr.Block If t ∷ is) (seq t) (seq t) p.around = (refl, b.0, b.1, b.2) in
    let into : ℕ → Option Next = λ place. enter place p.others a in
    let over : ℕ → Option Next = λ e. Some (Stays (at_place (suc e) p.others a.labels a)) in
    let r = choose_if c code n.number a.place (else_from (suc a.place) is 0) (end_from (suc a.place) is 0) into over
    (_, refl, within c code a (instr.Block If t) is a.place p.others p.around FirstArm (seq t) (seq t) h.typed h.here p.rest j p.fits)
    (λ turn e. (_, refl, within c code a (instr.Block If t) is turn p.others p.around Whole (seq t) (seq t) h.typed h.here (behind_else c code is a.place turn (opened FirstArm (seq t) (seq t)) p.around h.behind_it p.rest e) j p.fits))
    (λ e. (
      _,
      ap (λ x. found x over) b.1,
      (h.typed.0, h.typed.1, p.around, skipped c code (seq t) p.around b.0 (leaves_nothing c is (suc a.place) 0 (opened FirstArm (seq t) (seq t) ∷ p.around) (seq t) (subst (λ x. walk c x (opened FirstArm (seq t) (seq t) ∷ p.around) ≡ Some []) h.behind_it p.rest.1) (refl, refl) e) b.2, p.fits),
    )) in (
      r.0,
      ap (λ vs. on_i32 vs (λ n2 vs2. if_zero n2
          (otherwise (else_from (suc a.place) is 0) (end_from (suc a.place) is 0) (λ turn. enter turn vs2 a) (λ e. Some (Stays (at_place (suc e) vs2 a.labels a))))
          (enter a.place vs2 a))) n.whole ∙ r.1,
      r.2,
    )

-- a block that may be closed holds its result
nothing : (rest : List Value) → [] ≡ known (types rest) → rest ≡ []
nothing [] k = refl
nothing (v ∷ rest) k = cc

closed_kinds : (w : Frame) (vs : List Value) → w.unreachable ≡ false → w.stack ≡ known (types vs) → closed (pop_all w.unreachable w.result w.stack) ≡ true → types vs ≡ w.result
closed_kinds w vs d s h = by_pop (pop_all w.unreachable w.result w.stack) refl h
  where
    by_pop : (o : Option (List Operand)) → pop_all w.unreachable w.result w.stack ≡ o → closed o ≡ true → types vs ≡ w.result
    by_pop None q k = cc
    by_pop (Some (x ∷ os)) q k = cc
    by_pop (Some []) q k =
        let p = pops_top w.result w vs [] d s q in
        let none : p.rest ≡ [] = nothing p.rest p.left in
        ap types (p.whole ∙ ap (λ x. p.arguments ++ x) none ∙ append-nil p.arguments) ∙ p.kinds

end_by : (c : Context) (code : List Instr) (a : Activation) (ls : List Label) (top below : List Value) (w : Frame) (ws : List Frame) → Typed c a
    → Stands c code (suc a.place) (give w.result ws) → Under c code below ls w ws → a.stack ≡ top ++ below → types top ≡ w.result
    → (n : Next) × (leave c ls a (λ ls2. Some (Stays (at_place (suc a.place) a.stack ls2 a))) ≡ Some n) × Good c code n
end_by c code a [] top below w ws tl r u e k =
    (Returns top, on_top_is (length c.result) 0 a.stack top below (λ top2. Some (Returns top2)) _ e (sym (types_length top) ∙ ap length (k ∙ u.1)) (omega arith) refl, k ∙ u.1)
end_by c code a (l ∷ ls) top below w ws tl r u e k =
    (Stays (at_place (suc a.place) a.stack ls a), refl, (tl.0, tl.1, give w.result ws, r, subst (λ x. Fits c code x ls (give w.result ws)) (sym e) (fits_give c code below top w.result ls ws u.2 k)))

pub go_end : (m : Instance) (c : Context) (code : List Instr) (a : Activation) (is : List Instr) (w : Frame) (ws gs : List Frame) → Here c code a (instr.Plain End) is w ws gs
    → Goes m c code a (instr.Plain End ∷ is)
go_end m c code a is w ws gs h =
    let p = allowed _ (give w.result ws) gs h.stepped in
    let b = both_true _ _ p.0 in
    let t = top_of c code a.stack a.labels w ws h.fits in
    let k = closed_kinds w t.top t.alive t.kinds b.1 in
    let r = subst (λ x. Stands c code (suc a.place) x) (sym p.1) h.rest in
    end_by c code a a.labels t.top t.below w ws h.typed r t.under t.whole k

else_by_labels : (c : Context) (code : List Instr) (a : Activation) (is : List Instr) (ls : List Label) (top below : List Value) (w : Frame) (ws : List Frame) → Typed c a
    → (e : ℕ) × (end_from (suc a.place) is 0 ≡ Some e) × Stands c code (suc e) (give w.result ws) → may_turn w.enclosing ≡ true → Under c code below ls w ws → a.stack ≡ top ++ below → types top ≡ w.result
    → (n : Next) × (leave c ls a (λ ls2. found (end_from (suc a.place) is 0) (λ e. Some (Stays (at_place (suc e) a.stack ls2 a)))) ≡ Some n) × Good c code n
else_by_labels c code a is [] top below w ws tl b m u e k = let q : may_turn w.enclosing ≡ false = ap may_turn u.3 in cc
else_by_labels c code a is (l ∷ ls) top below w ws tl b m u e k = (
  Stays (at_place (suc b.0) a.stack ls a),
  ap (λ x. found x (λ e2. Some (Stays (at_place (suc e2) a.stack ls a)))) b.1,
  (tl.0, tl.1, give w.result ws, b.2, subst (λ x. Fits c code x ls (give w.result ws)) (sym e) (fits_give c code below top w.result ls ws u.2 k)),
)

pub go_else : (m : Instance) (c : Context) (code : List Instr) (a : Activation) (is : List Instr) (w : Frame) (ws gs : List Frame) → Here c code a (instr.Plain Else) is w ws gs
    → Goes m c code a (instr.Plain Else ∷ is)
go_else m c code a is w ws gs h =
    let p = allowed _ (opened Whole w.label w.result ∷ ws) gs h.stepped in
    let b = both_true _ _ p.0 in
    let t = top_of c code a.stack a.labels w ws h.fits in
    let k = closed_kinds w t.top t.alive t.kinds b.1 in
    let r = subst (λ x. Stands c code (suc a.place) x) (sym p.1) h.rest in
    else_by_labels c code a is a.labels t.top t.below w ws h.typed (behind c code is a.place (opened Whole w.label w.result) ws h.behind_it r) b.0 t.under t.whole k
