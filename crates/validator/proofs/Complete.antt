-- The check is complete: it lets pass whatever is well typed.
use Rattle.std.proofs.Common.{◌≡◌, Bool, true, false, List, [], ◌∷◌, ◌++◌, Option, Some, None, refl, sym, ◌∙◌, ap, subst, append_assoc, reverse}
use Rattle.std.proofs.lemmas.List.{append-nil}
use Rattle.wasm_types.specs.declared.value.ValType.{ValType}
use Rattle.wasm_types.specs.declared.value.ValType.TheVariants.{I32, I64}
use Rattle.wasm_types.specs.declared.instruction.Instr.{Instr}
use Rattle.wasm_types.specs.declared.instruction.Instr.TheVariants.{Plain}
use Rattle.wasm_types.specs.declared.instruction.Plain.TheVariants.{Else, End}
use Rattle.wasm_types.specs.declared.nesting.Enclosing.{Enclosing}
use Rattle.wasm_types.specs.declared.nesting.Enclosing.TheVariants.{FirstArm, Whole}
use Rattle.validator.specs.Context.{Context, inside, with_labels}
use Rattle.wasm_types.specs.Values.{same_type}
use Rattle.validator.specs.Table.{Class, Fixed, Discards, Selects, Leaves, Enters, Turning, Ending, Wrong, class_of}
use Rattle.validator.specs.Typing.{Rule, Typed, Nothing, Then, Blocked, Once, Either, FunctionTyped}
use Rattle.validator.specs.Walk.{Operand, Frame, with_stack, made_unreachable, opened, then_if, agrees, only, pop_one, pop_all, pop_any, meet, known, emptied, closed, give, may_end, may_turn, both, select_by, step_by, labels_of, at_frames, walk, Checked}
use Rattle.validator.proofs.Sound.{Matches, Inst}

is_same : (u t : ValType) → u ≡ t → same_type u t ≡ true
is_same I32 I32 m = refl
is_same I32 I64 m = cc
is_same I64 I32 m = cc
is_same I64 I64 m = refl

-- what is wanted stands there and can be popped
pop_inst : (unreachable : Bool) (takes rest : List ValType) (os : List Operand) → Inst unreachable os (takes ++ rest) → (left : List Operand) × (pop_all unreachable takes os ≡ Some left) × Inst unreachable left rest
pop_inst unreachable [] rest os i = (os, refl, i)
pop_inst true (t ∷ ts) rest [] i = pop_inst true ts rest [] tt
pop_inst false (t ∷ ts) rest [] i = absurd i
pop_inst unreachable (t ∷ ts) rest (o ∷ os) i =
    let r = pop_inst unreachable ts rest os i.1 in
    (r.0, ap (λ b. then_if (only b os) (pop_all unreachable ts)) (matches_agrees t o i.0) ∙ r.1, r.2)
  where
    matches_agrees : (t : ValType) (o : Option ValType) → Matches o t → agrees t o ≡ true
    matches_agrees t None m = refl
    matches_agrees t (Some u) m = is_same u t m

push_inst : (unreachable : Bool) (gives rest : List ValType) (os : List Operand) → Inst unreachable os rest → Inst unreachable (known gives ++ os) (gives ++ rest)
push_inst unreachable [] rest os i = i
push_inst unreachable (t ∷ ts) rest os i = (refl, push_inst unreachable ts rest os i)

-- a frame after some instructions, with its label as before
record After (f : Frame) (z : List ValType) : Type 0 where
  then_is : Frame
  label : then_is.label ≡ f.label
  result : then_is.result ≡ f.result
  enclosing : then_is.enclosing ≡ f.enclosing
  inst : Inst then_is.unreachable then_is.stack z

-- an operand is there, and stands for the type
any_inst : (unreachable : Bool) (os : List Operand) (t : ValType) (rest : List ValType) → Inst unreachable os (t ∷ rest)
    → (o : Operand) × (left : List Operand) × (pop_any unreachable os ≡ Some (o, left)) × Matches o t × Inst unreachable left rest
any_inst true [] t rest i = (None, [], refl, tt, tt)
any_inst false [] t rest i = absurd i
any_inst unreachable (o ∷ os) t rest i = (o, os, refl, i.0, i.1)

meet_inst : (o v : Operand) (t : ValType) → Matches o t → Matches v t → (w : Operand) × (meet o v ≡ Some w) × Matches w t
meet_inst None v t m n = (v, refl, n)
meet_inst (Some u) None t m n = (Some u, refl, m)
meet_inst (Some u) (Some v) t m n = (Some u, ap (λ b. only b (Some u)) (is_same u v (m ∙ sym n)), m)

select_inst : (unreachable : Bool) (os : List Operand) (t : ValType) (rest : List ValType) → Inst unreachable os (t ∷ t ∷ rest)
    → (left : List Operand) × (select_by unreachable os ≡ Some left) × Inst unreachable left (t ∷ rest)
select_inst unreachable os t rest i =
    let p = any_inst unreachable os t (t ∷ rest) i in
    let q = any_inst unreachable p.1 t rest p.4 in
    let m = meet_inst p.0 q.0 t p.3 q.3 in (
      m.0 ∷ q.1,
      ap (λ x. then_if x (λ p. then_if (pop_any unreachable p.1) (λ q. then_if (meet p.0 q.0) (λ o. Some (o ∷ q.1))))) p.2
          ∙ ap (λ x. then_if x (λ q. then_if (meet p.0 q.0) (λ o. Some (o ∷ q.1)))) q.2
          ∙ ap (λ x. then_if x (λ o. Some (o ∷ q.1))) m.1,
      (m.2, q.4),
    )

one : (cl : Class) (f : Frame) (fs : List Frame) (a b rest : List ValType) → Rule cl a b → Inst f.unreachable f.stack (a ++ rest) → (g : After f (b ++ rest)) × (step_by cl f fs ≡ Some (g.then_is ∷ fs))
one (Fixed takes gives) f fs a b rest r i =
    let p = pop_inst f.unreachable (reverse takes) rest f.stack (subst (λ x. Inst f.unreachable f.stack (x ++ rest)) r.0 i) in (
      record { then_is = with_stack (known (reverse gives) ++ p.0) f; label = refl; result = refl; enclosing = refl; inst = subst (λ x. Inst f.unreachable (known (reverse gives) ++ p.0) (x ++ rest)) (sym r.1) (push_inst f.unreachable (reverse gives) rest p.0 p.2) },
      ap (λ o. then_if o (λ os. Some (with_stack (known (reverse gives) ++ os) f ∷ fs))) p.1,
    )
one Discards f fs a b rest r i =
    let p = any_inst f.unreachable f.stack r.0 rest (subst (λ x. Inst f.unreachable f.stack (x ++ rest)) r.1 i) in (
      record { then_is = with_stack p.1 f; label = refl; result = refl; enclosing = refl; inst = subst (λ x. Inst f.unreachable p.1 (x ++ rest)) (sym r.2) p.4 },
      ap (λ o. then_if o (λ os. Some (with_stack os.1 f ∷ fs))) p.2,
    )
one Selects f fs a b rest r i =
    let j = subst (λ x. Inst f.unreachable f.stack (x ++ rest)) r.1 i in
    let p = pop_inst f.unreachable (I32 ∷ []) (r.0 ∷ r.0 ∷ rest) f.stack j in
    let q = first_of_one f.unreachable f.stack p.0 p.1 in
    let s = select_inst f.unreachable p.0 r.0 rest p.2 in (
      record { then_is = with_stack s.0 f; label = refl; result = refl; enclosing = refl; inst = subst (λ x. Inst f.unreachable s.0 (x ++ rest)) (sym r.2) s.2 },
      ap (λ o. then_if o (λ os. then_if (select_by f.unreachable os) (λ left. Some (with_stack left f ∷ fs)))) q
          ∙ ap (λ o. then_if o (λ left. Some (with_stack left f ∷ fs))) s.1,
    )
  where
    first_by : (o : Option (List Operand)) (unreachable : Bool) (left : List Operand) → then_if o (pop_all unreachable []) ≡ Some left → o ≡ Some left
    first_by None unreachable left h = cc
    first_by (Some os) unreachable left h = h

    first_of_one : (unreachable : Bool) (os left : List Operand) → pop_all unreachable (I32 ∷ []) os ≡ Some left → pop_one unreachable I32 os ≡ Some left
    first_of_one unreachable os left h = first_by (pop_one unreachable I32 os) unreachable left h
one (Leaves takes) f fs a b rest r i =
    let p = pop_inst f.unreachable (reverse takes) (r.0 ++ rest) f.stack (subst (Inst f.unreachable f.stack) (ap (λ x. x ++ rest) r.1 ∙ append_assoc (reverse takes) r.0 rest) i) in
    (record { then_is = made_unreachable f; label = refl; result = refl; enclosing = refl; inst = tt }, ap (λ o. then_if o (λ os. Some (made_unreachable f ∷ fs))) p.1)
one (Enters takes enclosing label result) f fs a b rest r i = absurd r
one Turning f fs a b rest r i = absurd r
one Ending f fs a b rest r i = absurd r
one Wrong f fs a b rest r i = absurd r

record Led (c : Context) (body : List Instr) (f : Frame) (fs : List Frame) (z : List ValType) : Type 0 where
  after : After f z
  goes : (tail : List Instr) → walk c (body ++ tail) (f ∷ fs) ≡ walk c tail (after.then_is ∷ fs)

labelled : (c : Context) (fs : List Frame) (l k : List ValType) → l ≡ k → with_labels (l ∷ labels_of fs) c ≡ with_labels (k ∷ labels_of fs) c
labelled c fs l k e = ap (λ x. with_labels (x ∷ labels_of fs) c) e

-- a block that holds exactly its result can be closed
closes_ok : (g : Frame) (r : List ValType) → g.result ≡ r → Inst g.unreachable g.stack r → closed (pop_all g.unreachable g.result g.stack) ≡ true
closes_ok g r e i =
    let p = pop_inst g.unreachable g.result [] g.stack (subst (Inst g.unreachable g.stack) (sym e ∙ sym (append-nil g.result)) i) in
    ap closed p.1 ∙ emptied_ok g.unreachable p.0 p.2
  where
    emptied_ok : (unreachable : Bool) (os : List Operand) → Inst unreachable os [] → emptied os ≡ true
    emptied_ok unreachable [] i = refl
    emptied_ok unreachable (o ∷ os) i = absurd i

entering : (c : Context) (i : Instr) (tail : List Instr) (f : Frame) (fs : List Frame) (takes : List ValType) (enclosing : Enclosing) (label result : List ValType) (os : List Operand)
    → class_of (at_frames c (f ∷ fs)) i ≡ Enters takes enclosing label result → pop_all f.unreachable (reverse takes) f.stack ≡ Some os
    → walk c (i ∷ tail) (f ∷ fs) ≡ walk c tail (opened enclosing label result ∷ with_stack os f ∷ fs)
entering c i tail f fs takes enclosing label result os q p =
    ap (λ x. then_if (step_by x f fs) (walk c tail)) q ∙ ap (λ x. then_if (then_if x (λ os2. Some (opened enclosing label result ∷ with_stack os2 f ∷ fs))) (walk c tail)) p

ending : (c : Context) (tail : List Instr) (g : Frame) (fs : List Frame) (r : List ValType) → g.result ≡ r → may_end g.enclosing r ≡ true → Inst g.unreachable g.stack r → walk c (Plain End ∷ tail) (g ∷ fs) ≡ walk c tail (give r fs)
ending c tail g fs r e m i =
    ap (λ x. then_if (only (both (may_end g.enclosing g.result) x) (give g.result fs)) (walk c tail)) (closes_ok g r e i)
    ∙ ap (λ x. then_if (only (both (may_end g.enclosing x) true) (give x fs)) (walk c tail)) e
    ∙ ap (λ x. then_if (only (both x true) (give r fs)) (walk c tail)) m

turning : (c : Context) (tail : List Instr) (g : Frame) (fs : List Frame) (l r : List ValType) → g.label ≡ l → g.result ≡ r → may_turn g.enclosing ≡ true → Inst g.unreachable g.stack r
    → walk c (Plain Else ∷ tail) (g ∷ fs) ≡ walk c tail (opened Whole l r ∷ fs)
turning c tail g fs l r a e m i =
    ap (λ x. then_if (only (both (may_turn g.enclosing) x) (opened Whole g.label g.result ∷ fs)) (walk c tail)) (closes_ok g r e i)
    ∙ ap (λ x. then_if (only (both (may_turn g.enclosing) true) (opened Whole x g.result ∷ fs)) (walk c tail)) a
    ∙ ap (λ x. then_if (only (both (may_turn g.enclosing) true) (opened Whole l x ∷ fs)) (walk c tail)) e
    ∙ ap (λ x. then_if (only (both x true) (opened Whole l r ∷ fs)) (walk c tail)) m

led : {c0 : Context} {body : List Instr} {a z : List ValType} → Typed c0 body a z → (c : Context) (f : Frame) (fs : List Frame) → c0 ≡ at_frames c (f ∷ fs) → Inst f.unreachable f.stack a → Led c body f fs z
led (Nothing c0 a) c f fs e i = record { after = record { then_is = f; label = refl; result = refl; enclosing = refl; inst = i }; goes = λ tail. refl }
led (Then c0 i is a b rest z r t) c f fs e n =
    let s = one (class_of (at_frames c (f ∷ fs)) i) f fs a b rest (subst (λ x. Rule (class_of x i) a b) e r) n in
    let g = s.0 in
    let k = led t c g.then_is fs (e ∙ labelled c fs f.label g.then_is.label (sym g.label)) g.inst in
    record {
      after = record { then_is = k.after.then_is; label = k.after.label ∙ g.label; result = k.after.result ∙ g.result; enclosing = k.after.enclosing ∙ g.enclosing; inst = k.after.inst };
      goes = λ tail. ap (λ o. then_if o (walk c (is ++ tail))) s.1 ∙ k.goes tail;
    }
led (Blocked c0 i body is takes label result rest z q t1 t2) c f fs e n =
    let p = pop_inst f.unreachable (reverse takes) rest f.stack n in
    let k1 = led t1 c (opened Whole label result) (with_stack p.0 f ∷ fs) (ap (inside label) e) tt in
    let k2 = led t2 c (with_stack (known result ++ p.0) f) fs e (push_inst f.unreachable result rest p.0 p.2) in
    record {
      after = record { then_is = k2.after.then_is; label = k2.after.label; result = k2.after.result; enclosing = k2.after.enclosing; inst = k2.after.inst };
      goes = λ tail.
          ap (λ x. walk c (i ∷ x) (f ∷ fs)) (append_assoc body (Plain End ∷ is) tail)
          ∙ entering c i (body ++ Plain End ∷ (is ++ tail)) f fs takes Whole label result p.0 (ap (λ x. class_of x i) (sym e) ∙ q) p.1
          ∙ k1.goes (Plain End ∷ (is ++ tail))
          ∙ ending c (is ++ tail) k1.after.then_is (with_stack p.0 f ∷ fs) result k1.after.result (ap (λ x. may_end x result) k1.after.enclosing) k1.after.inst
          ∙ k2.goes tail;
    }
led (Once c0 i body is takes label rest z q t1 t2) c f fs e n =
    let p = pop_inst f.unreachable (reverse takes) rest f.stack n in
    let k1 = led t1 c (opened FirstArm label []) (with_stack p.0 f ∷ fs) (ap (inside label) e) tt in
    let k2 = led t2 c (with_stack p.0 f) fs e p.2 in
    record {
      after = record { then_is = k2.after.then_is; label = k2.after.label; result = k2.after.result; enclosing = k2.after.enclosing; inst = k2.after.inst };
      goes = λ tail.
          ap (λ x. walk c (i ∷ x) (f ∷ fs)) (append_assoc body (Plain End ∷ is) tail)
          ∙ entering c i (body ++ Plain End ∷ (is ++ tail)) f fs takes FirstArm label [] p.0 (ap (λ x. class_of x i) (sym e) ∙ q) p.1
          ∙ k1.goes (Plain End ∷ (is ++ tail))
          ∙ ending c (is ++ tail) k1.after.then_is (with_stack p.0 f ∷ fs) [] k1.after.result (ap (λ x. may_end x []) k1.after.enclosing) k1.after.inst
          ∙ k2.goes tail;
    }
led (Either c0 i first second is takes label result rest z q t1 t2 t3) c f fs e n =
    let p = pop_inst f.unreachable (reverse takes) rest f.stack n in
    let k1 = led t1 c (opened FirstArm label result) (with_stack p.0 f ∷ fs) (ap (inside label) e) tt in
    let k2 = led t2 c (opened Whole label result) (with_stack p.0 f ∷ fs) (ap (inside label) e) tt in
    let k3 = led t3 c (with_stack (known result ++ p.0) f) fs e (push_inst f.unreachable result rest p.0 p.2) in
    let longer : (tail : List Instr) → (first ++ (Plain Else ∷ (second ++ Plain End ∷ is))) ++ tail ≡ first ++ (Plain Else ∷ (second ++ Plain End ∷ (is ++ tail))) = λ tail. simp append_assoc in
    record {
      after = record { then_is = k3.after.then_is; label = k3.after.label; result = k3.after.result; enclosing = k3.after.enclosing; inst = k3.after.inst };
      goes = λ tail.
          ap (λ x. walk c (i ∷ x) (f ∷ fs)) (longer tail)
          ∙ entering c i (first ++ (Plain Else ∷ (second ++ Plain End ∷ (is ++ tail)))) f fs takes FirstArm label result p.0 (ap (λ x. class_of x i) (sym e) ∙ q) p.1
          ∙ k1.goes (Plain Else ∷ (second ++ Plain End ∷ (is ++ tail)))
          ∙ turning c (second ++ Plain End ∷ (is ++ tail)) k1.after.then_is (with_stack p.0 f ∷ fs) label result k1.after.label k1.after.result (ap may_turn k1.after.enclosing) k1.after.inst
          ∙ k2.goes (Plain End ∷ (is ++ tail))
          ∙ ending c (is ++ tail) k2.after.then_is (with_stack p.0 f ∷ fs) result k2.after.result (ap (λ x. may_end x result) k2.after.enclosing) k2.after.inst
          ∙ k3.goes tail;
    }

pub complete : (c : Context) (code : List Instr) → FunctionTyped c code → Checked c code
complete c code k =
    let l = led k.2 c (opened Whole c.result c.result) [] refl tt in
    ap (λ x. walk c x (opened Whole c.result c.result ∷ [])) k.1 ∙ l.goes (Plain End ∷ [])
    ∙ ending c [] l.after.then_is [] c.result l.after.result (ap (λ x. may_end x c.result) l.after.enclosing) l.after.inst
