-- Branches, returns and calls of an activation that fits.
use Rattle.std.proofs.Common.{◌≡◌, ℕ, zero, suc, Bool, true, false, cond, List, [], ◌∷◌, ◌++◌, Option, Some, None, refl, sym, ◌∙◌, ap, subst, drop, length, slice_get, reverse, arith, append_assoc}
use Rattle.std.specs.Prelude.{◌&&◌}
use Rattle.std.proofs.lemmas.List.{reverse-append, reverse-reverse, length-reverse}
use Rattle.std.proofs.Math.Seq.{drop-append_seam}
use Rattle.wasm_types.specs.declared.value.Value.{Value}
use Rattle.wasm_types.specs.declared.value.Value.TheVariants as value
use Rattle.wasm_types.specs.declared.value.ValType.{ValType}
use Rattle.wasm_types.specs.declared.value.ValType.TheVariants.{I32}
use Rattle.wasm_types.specs.declared.trap.Trap.TheVariants.{TypeMismatch, UndefinedElement, UninitializedElement}
use Rattle.wasm_types.specs.declared.modules.FuncType.{FuncType}
use Rattle.wasm_types.specs.declared.instruction.LabelRange.{LabelRange}
use Rattle.wasm_types.specs.declared.instruction.Instr.{Instr}
use Rattle.wasm_types.specs.declared.instruction.Instr.TheVariants as instr
use Rattle.wasm_types.specs.declared.instruction.IndexOp.TheVariants.{Branch, BranchIf, Call}
use Rattle.wasm_types.specs.declared.instruction.Plain.TheVariants.{Return}
use Rattle.wasm_types.specs.Values.{same_type, type_of}
use Rattle.validator.specs.Context.{Context, function_type, labels_in, has_table}
use Rattle.validator.specs.Table.{Class, Fixed, Leaves, if_some, if_true, same_types, takes_these, all_take, table_class}
use Rattle.validator.specs.Walk.{Frame, pop_all, step_by, labels_of, at_frames}
use Rattle.validator.proofs.Sound.{there}
use Rattle.thread_words.specs.Instance.{Instance, HasFunctions}
use Rattle.thread_words.specs.Activation.{Activation, onward, types}
use Rattle.thread_words.specs.Step.{Next, Stays, Calls, Returns, Traps, found, on_i32, if_zero, call, call_through, same_kind, branch, chosen_label}
use Rattle.thread_words.specs.Fits.{ActivationFits, Good}
use Rattle.thread_words.proofs.Frames.{types_append, types_length, top_of, pops_top, same_type_is, on_top_is, found_on, i32_front}
use Rattle.thread_words.proofs.SimpleSteps.{granted}
use Rattle.thread_words.proofs.Landing.{branch_from, label_again}
use Rattle.thread_words.proofs.Steps.{Here, Goes, plainly, named, reverse_last}

pub types_reverse : (vs : List Value) → types (reverse vs) ≡ reverse (types vs)
types_reverse [] = refl
types_reverse (v ∷ vs) =
    ap types (reverse-append (v ∷ []) vs) ∙ types_append (reverse vs) (v ∷ []) ∙ ap (λ x. x ++ (type_of v ∷ [])) (types_reverse vs) ∙ sym (reverse-append (type_of v ∷ []) (types vs))

-- ---- calls

pub calls : (c : Context) (code : List Instr) (a : Activation) (function : ℕ) (kind its : FuncType) (vs arguments others : List Value) → vs ≡ arguments ++ others → types arguments ≡ reverse kind.params
    → function_type c.within function ≡ Some its → its.params ≡ kind.params → its.results ≡ kind.results
    → ((new : List Value) → types new ≡ reverse kind.results → ActivationFits c code (onward (new ++ others) a))
    → (n : Next) × (call function kind vs a ≡ Some n) × Good c code n
calls c code a function kind its vs arguments others e k d p r after =
    let size : length arguments ≡ length kind.params = sym (types_length arguments) ∙ ap length k ∙ length-reverse kind.params in
    let left : drop (length kind.params) vs ≡ others = ap (λ y. drop (length kind.params) y) e ∙ subst (λ n. drop n (arguments ++ others) ≡ others) size (drop-append_seam arguments others) in (
      Calls function (reverse arguments) (onward (drop (length kind.params) vs) a),
      on_top_is (length kind.params) 0 vs arguments others (λ top. Some (Calls function (reverse top) (onward (drop (length kind.params) vs) a))) _ e size (omega arith) refl,
      (
        its,
        d,
        types_reverse arguments ∙ ap reverse k ∙ reverse-reverse kind.params ∙ sym p,
        λ new q. subst (λ x. ActivationFits c code (onward (new ++ x) a)) (sym left) (after new (q ∙ ap reverse r)),
      ),
    )

pub go_call : (m : Instance) (c : Context) (code : List Instr) (a : Activation) (f : ℕ) (is : List Instr) (w : Frame) (ws gs : List Frame) → Here c code a (instr.Index Call f) is w ws gs
    → Goes m c code a (instr.Index Call f ∷ is)
go_call m c code a f is w ws gs h =
    let d = named (function_type c.within f) (λ kind. Fixed kind.params kind.results) w ws gs h.stepped in
    let p = plainly c code a (instr.Index Call f) is w ws gs (d.0).params (d.0).results h (ap (λ y. if_some y (λ kind. Fixed kind.params kind.results)) d.1) in
    let r = calls c code a f d.0 d.0 a.stack p.arguments p.others p.whole p.kinds d.1 refl refl p.after in
    (r.0, found_on (function_type c.within f) d.0 (λ kind. call f kind a.stack a) _ d.1 r.1, r.2)

both_true : (a b : Bool) → (a && b) ≡ true → (a ≡ true) × (b ≡ true)
both_true true true h = (refl, refl)
both_true true false h = cc
both_true false b h = cc

pub same_types_are : (ts us : List ValType) → same_types ts us ≡ true → ts ≡ us
same_types_are [] [] h = refl
same_types_are [] (u ∷ us) h = cc
same_types_are (t ∷ ts) [] h = cc
same_types_are (t ∷ ts) (u ∷ us) h =
    let p = both_true (same_type t u) (same_types ts us) h in
    ap (λ x. x ∷ ts) (same_type_is t u p.0) ∙ ap (λ x. u ∷ x) (same_types_are ts us p.1)

-- through an element of the table: the traps, and the call where the types are the same
by_kind : (c : Context) (code : List Instr) (a : Activation) (function : ℕ) (kind its : FuncType) (vs : List Value) (b : Bool) → same_kind its kind ≡ b
    → (its.params ≡ kind.params → its.results ≡ kind.results → (n : Next) × (call function kind vs a ≡ Some n) × Good c code n)
    → (n : Next) × (cond b (call function kind vs a) (Some (Traps TypeMismatch)) ≡ Some n) × Good c code n
by_kind c code a function kind its vs false e called = (Traps TypeMismatch, refl, tt)
by_kind c code a function kind its vs true e called =
    let p = both_true (same_types its.params kind.params) (same_types its.results kind.results) e in
    called (same_types_are its.params kind.params p.0) (same_types_are its.results kind.results p.1)

through : (c : Context) (code : List Instr) (a : Activation) (kind : FuncType) (element : Option (Option ℕ)) (vs : List Value)
    → ((f : ℕ) → element ≡ Some (Some f) → (its : FuncType) × (function_type c.within f ≡ Some its))
    → ((f : ℕ) (its : FuncType) → function_type c.within f ≡ Some its → its.params ≡ kind.params → its.results ≡ kind.results → (n : Next) × (call f kind vs a ≡ Some n) × Good c code n)
    → (n : Next) × (call_through c kind element vs a ≡ Some n) × Good c code n
through c code a kind None vs has called = (Traps UndefinedElement, refl, tt)
through c code a kind (Some None) vs has called = (Traps UninitializedElement, refl, tt)
through c code a kind (Some (Some f)) vs has called =
    let d = has f refl in
    let r = by_kind c code a f kind d.0 vs (same_kind d.0 kind) refl (λ p q. called f d.0 d.1 p q) in
    (r.0, found_on (function_type c.within f) d.0 (λ its. cond (same_kind its kind) (call f kind vs a) (Some (Traps TypeMismatch))) _ d.1 r.1, r.2)

pub go_call_indirect : (m : Instance) (c : Context) (code : List Instr) (a : Activation) (x : ℕ) (is : List Instr) (w : Frame) (ws gs : List Frame) → HasFunctions c.within m
    → Here c code a (instr.CallIndirect x) is w ws gs → Goes m c code a (instr.CallIndirect x ∷ is)
go_call_indirect m c code a x is w ws gs has h =
    let k : FuncType → Class = λ kind. Fixed (kind.params ++ I32 ∷ []) kind.results in
    let g = granted (has_table c.within) (if_some (slice_get c.within.types x) k) w ws gs h.stepped in
    let d = named (slice_get c.within.types x) k w ws gs g.1 in
    let p = plainly c code a (instr.CallIndirect x) is w ws gs ((d.0).params ++ I32 ∷ []) (d.0).results h (g.0 ∙ ap (λ y. if_some y k) d.1) in
    let f = i32_front p.arguments (reverse (d.0).params) (p.kinds ∙ reverse_last (d.0).params I32) in
    let e : a.stack ≡ value.I32 f.0 ∷ (f.1 ++ p.others) = p.whole ∙ ap (λ y. y ++ p.others) f.2 in
    let r = through c code a d.0 (slice_get m.table f.0) (f.1 ++ p.others) (λ g2 q. has f.0 g2 q)
    (λ g2 its t q1 q2. calls c code a g2 d.0 its (f.1 ++ p.others) f.1 p.others refl f.3 t q1 q2 p.after) in (
      r.0,
      ap (λ vs. on_i32 vs (λ n vs2. found (slice_get c.within.types x) (λ kind. call_through c kind (slice_get m.table n) vs2 a))) e
          ∙ found_on (slice_get c.within.types x) d.0 (λ kind. call_through c kind (slice_get m.table f.0) (f.1 ++ p.others) a) _ d.1 r.1,
      r.2,
    )

-- ---- branches

pub go_branch : (m : Instance) (c : Context) (code : List Instr) (a : Activation) (l : ℕ) (is : List Instr) (w : Frame) (ws gs : List Frame) → Here c code a (instr.Index Branch l) is w ws gs
    → Goes m c code a (instr.Index Branch l ∷ is)
go_branch m c code a l is w ws gs h =
    let d = named (slice_get (labels_of (w ∷ ws)) l) (λ takes. Leaves takes) w ws gs h.stepped in
    let p = there (pop_all w.unreachable (reverse d.0) w.stack) _ gs d.2 in
    let t = top_of c code a.stack a.labels w ws h.fits in
    let q = pops_top (reverse d.0) w t.top p.0 t.alive t.kinds p.1 in
    let again = label_again c code l a.stack a.labels (w ∷ ws) d.0 h.short h.fits d.1 in
    branch_from c code l a.labels a.stack q.arguments q.rest t.below a d.0 w ws h.typed (t.whole ∙ ap (λ x. x ++ t.below) q.whole ∙ append_assoc q.arguments q.rest t.below) (q.kinds ∙ again) d.1 t.under

pub go_return : (m : Instance) (c : Context) (code : List Instr) (a : Activation) (is : List Instr) (w : Frame) (ws gs : List Frame) → Here c code a (instr.Plain Return) is w ws gs
    → Goes m c code a (instr.Plain Return ∷ is)
go_return m c code a is w ws gs h =
    let p = there (pop_all w.unreachable (reverse c.result) w.stack) _ gs h.stepped in
    let t = top_of c code a.stack a.labels w ws h.fits in
    let q = pops_top (reverse c.result) w t.top p.0 t.alive t.kinds p.1 in
    let k = q.kinds ∙ h.short in (
      Returns q.arguments,
      on_top_is (length c.result) 0 a.stack q.arguments (q.rest ++ t.below) (λ top2. Some (Returns top2)) _
          (t.whole ∙ ap (λ x. x ++ t.below) q.whole ∙ append_assoc q.arguments q.rest t.below) (sym (types_length q.arguments) ∙ ap length k) (omega arith) refl,
      k,
    )

choose : (c : Context) (code : List Instr) (n : ℕ) (b : Activation) (o : Option Next) → ActivationFits c code b → (m : Next) × (o ≡ Some m) × Good c code m
    → (m : Next) × (if_zero n (Some (Stays b)) o ≡ Some m) × Good c code m
choose c code zero b o k j = (Stays b, refl, k)
choose c code (suc n) b o k j = j

pub go_branch_if : (m : Instance) (c : Context) (code : List Instr) (a : Activation) (l : ℕ) (is : List Instr) (w : Frame) (ws gs : List Frame) → Here c code a (instr.Index BranchIf l) is w ws gs
    → Goes m c code a (instr.Index BranchIf l ∷ is)
go_branch_if m c code a l is w ws gs h =
    let k : List ValType → Class = λ takes. Fixed (takes ++ I32 ∷ []) takes in
    let d = named (slice_get (labels_of (w ∷ ws)) l) k w ws gs h.stepped in
    let p = plainly c code a (instr.Index BranchIf l) is w ws gs (d.0 ++ I32 ∷ []) d.0 h (ap (λ y. if_some y k) d.1) in
    let f = i32_front p.arguments (reverse d.0) (p.kinds ∙ reverse_last d.0 I32) in
    let again = label_again c code l a.stack a.labels (w ∷ ws) d.0 h.short h.fits d.1 in
    let e : a.stack ≡ value.I32 f.0 ∷ (f.1 ++ p.others) = p.whole ∙ ap (λ x. x ++ p.others) f.2 in
    let r = choose c code f.0 (onward (f.1 ++ p.others) a) (branch c code l a.labels (f.1 ++ p.others) a) (p.after f.1 f.3)
    (branch_from c code l a.labels (f.1 ++ p.others) f.1 p.rest p.below a d.0 w ws h.typed (ap (λ x. f.1 ++ x) p.parts) (f.3 ∙ again) d.1 p.under) in
    (r.0, ap (λ vs. on_i32 vs (λ n vs2. if_zero n (Some (Stays (onward vs2 a))) (branch c code l a.labels vs2 a))) e ∙ r.1, r.2)

-- every label of a branch table takes the same
taken : (labels : List (List ValType)) (takes : List ValType) (l : ℕ) (o : Option (List ValType)) → slice_get labels l ≡ o → takes_these takes o ≡ true → slice_get labels l ≡ Some takes
taken labels takes l None e h = cc
taken labels takes l (Some ts) e h = e ∙ ap (λ x. Some x) (sym (same_types_are takes ts h))

chosen_takes : (labels : List (List ValType)) (takes : List ValType) (ls : List ℕ) (n default : ℕ) → all_take labels takes ls ≡ true → slice_get labels default ≡ Some takes
    → slice_get labels (chosen_label (slice_get ls n) default) ≡ Some takes
chosen_takes labels takes [] n default h d = d
chosen_takes labels takes (l ∷ ls) zero default h d =
    let p = both_true (takes_these takes (slice_get labels l)) (all_take labels takes ls) h in
    taken labels takes l (slice_get labels l) refl p.0
chosen_takes labels takes (l ∷ ls) (suc n) default h d =
    let p = both_true (takes_these takes (slice_get labels l)) (all_take labels takes ls) h in
    chosen_takes labels takes ls n default p.1 d

granted_true : (b : Bool) (k : Class) (w : Frame) (ws gs : List Frame) → step_by (if_true b k) w ws ≡ Some gs → b ≡ true
granted_true false k w ws gs h = cc
granted_true true k w ws gs h = refl

table_there : (c : Context) (labels : Option (List ℕ)) (default : ℕ) (w : Frame) (ws gs : List Frame) → step_by (table_class c labels default) w ws ≡ Some gs
    → (ls : List ℕ) × (takes : List ValType) × (labels ≡ Some ls) × (slice_get c.labels default ≡ Some takes) × (all_take c.labels takes ls ≡ true) × (step_by (Leaves (takes ++ I32 ∷ [])) w ws ≡ Some gs)
table_there c None default w ws gs h = cc
table_there c (Some ls) default w ws gs h =
    let d = named (slice_get c.labels default) (λ takes. if_true (all_take c.labels takes ls) (Leaves (takes ++ I32 ∷ []))) w ws gs h in
    let g = granted (all_take c.labels d.0 ls) (Leaves (d.0 ++ I32 ∷ [])) w ws gs d.2 in
    (ls, d.0, refl, d.1, granted_true (all_take c.labels d.0 ls) (Leaves (d.0 ++ I32 ∷ [])) w ws gs d.2, g.1)

pub go_branch_table : (m : Instance) (c : Context) (code : List Instr) (a : Activation) (range : LabelRange) (default : ℕ) (is : List Instr) (w : Frame) (ws gs : List Frame)
    → Here c code a (instr.BranchTable range default) is w ws gs → Goes m c code a (instr.BranchTable range default ∷ is)
go_branch_table m c code a range default is w ws gs h =
    let d = table_there (at_frames c (w ∷ ws)) (labels_in c.table_labels range) default w ws gs h.stepped in
    let p = there (pop_all w.unreachable (reverse (d.1 ++ I32 ∷ [])) w.stack) _ gs d.5 in
    let t = top_of c code a.stack a.labels w ws h.fits in
    let q = pops_top (reverse (d.1 ++ I32 ∷ [])) w t.top p.0 t.alive t.kinds p.1 in
    let f = i32_front q.arguments (reverse d.1) (q.kinds ∙ reverse_last d.1 I32) in
    let whole : a.stack ≡ value.I32 f.0 ∷ (f.1 ++ (q.rest ++ t.below)) =
    t.whole ∙ ap (λ x. x ++ t.below) q.whole ∙ append_assoc q.arguments q.rest t.below ∙ ap (λ x. x ++ (q.rest ++ t.below)) f.2 in
    let l = chosen_label (slice_get d.0 f.0) default in
    let s = chosen_takes (labels_of (w ∷ ws)) d.1 d.0 f.0 default d.4 d.3 in
    let again = label_again c code l a.stack a.labels (w ∷ ws) d.1 h.short h.fits s in
    let r = branch_from c code l a.labels (f.1 ++ (q.rest ++ t.below)) f.1 q.rest t.below a d.1 w ws h.typed refl (f.3 ∙ again) s t.under in (
      r.0,
      ap (λ vs. on_i32 vs (λ n vs2. found (labels_in c.table_labels range) (λ labels. branch c code (chosen_label (slice_get labels n) default) a.labels vs2 a))) whole
          ∙ found_on (labels_in c.table_labels range) d.0 (λ labels. branch c code (chosen_label (slice_get labels f.0) default) a.labels (f.1 ++ (q.rest ++ t.below)) a) _ d.2 r.1,
      r.2,
    )
