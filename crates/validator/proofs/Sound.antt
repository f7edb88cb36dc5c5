-- The check is sound: each open block is closed by instructions that are well typed.
use Rattle.std.proofs.Common.{◌≡◌, Bool, true, false, List, [], ◌∷◌, ◌++◌, Option, Some, None, refl, sym, ◌∙◌, ap, subst, append_assoc, reverse, ◌⊎◌, inl, inr}
use Rattle.std.proofs.lemmas.List.{append-nil}
use Rattle.wasm_types.specs.declared.value.ValType.{ValType}
use Rattle.wasm_types.specs.declared.value.ValType.TheVariants.{I32, I64}
use Rattle.wasm_types.specs.declared.instruction.Instr.{Instr}
use Rattle.wasm_types.specs.declared.instruction.Instr.TheVariants.{Plain}
use Rattle.wasm_types.specs.declared.instruction.Plain.TheVariants.{Else, End}
use Rattle.wasm_types.specs.declared.nesting.Enclosing.{Enclosing}
use Rattle.wasm_types.specs.declared.nesting.Enclosing.TheVariants.{FirstArm, Whole}
use Rattle.validator.specs.Context.{Context, inside, outermost}
use Rattle.wasm_types.specs.Values.{same_type}
use Rattle.validator.specs.Table.{Class, Fixed, Discards, Selects, Leaves, Enters, Turning, Ending, Wrong, class_of}
use Rattle.validator.specs.Typing.{Rule, Typed, Nothing, Then, Blocked, Once, Either, FunctionTyped}
use Rattle.validator.specs.Walk.{Operand, Frame, with_stack, made_unreachable, opened, then_if, agrees, only, pop_one, pop_all, pop_any, meet, known, closed, give, may_end, may_turn, both, select_by, step_by, at_frames, step, walk, Checked}
use Rattle.validator.proofs.ClassNesting.{is_end, is_else}

-- an operand stands for this type
abbrev pub Matches : Option ValType → ValType → Type 0
Matches None t = Unit {0}
Matches (Some u) t = u ≡ t

-- the operands stand for these types; those of an unreachable block for more
abbrev pub Inst : Bool → List Operand → List ValType → Type 0
Inst false [] [] = Unit {0}
Inst false [] (t ∷ ts) = ⊥
Inst true [] ts = Unit {0}
Inst unreachable (o ∷ os) [] = ⊥
Inst unreachable (o ∷ os) (t ∷ ts) = Matches o t × Inst unreachable os ts

-- the instructions take a block from these types to its end, and what follows does the rest
abbrev pub Ends : Enclosing → Context → List ValType → List ValType → (List Instr → Type 0) → List Instr → Type 0
Ends Whole c a r later is = (body rest : List Instr) × (is ≡ body ++ Plain End ∷ rest) × Typed c body a r × later rest
Ends FirstArm c a r later is =
    ((body rest : List Instr) × (is ≡ body ++ Plain End ∷ rest) × (r ≡ []) × Typed c body a r × later rest)
    ⊎ ((first second rest : List Instr) × (is ≡ first ++ (Plain Else ∷ (second ++ Plain End ∷ rest))) × Typed c first a r × Typed c second [] r × later rest)

-- the instructions close each of these blocks
abbrev pub Closes : Context → List ValType → List Frame → List Instr → Type 0
Closes c ts [] is = is ≡ []
Closes c ts (f ∷ fs) is = (a : List ValType) × Inst f.unreachable (known ts ++ f.stack) a × Ends f.enclosing (at_frames c (f ∷ fs)) a f.result (Closes c f.result fs) is

-- instructions in front
ahead : (enclosing : Enclosing) (c : Context) (pre : List Instr) (a b r : List ValType) (later : List Instr → Type 0) (is : List Instr)
    → ((body : List Instr) (z : List ValType) → Typed c body b z → Typed c (pre ++ body) a z)
    → Ends enclosing c b r later is → Ends enclosing c a r later (pre ++ is)
ahead Whole c pre a b r later is k e =
    (pre ++ e.0, e.1, rw (e.2) (sym (append_assoc pre e.0 (Plain End ∷ e.1))), k e.0 r e.3, e.4)
ahead FirstArm c pre a b r later is k (inl e) =
    inl (pre ++ e.0, e.1, rw (e.2) (sym (append_assoc pre e.0 (Plain End ∷ e.1))), e.3, k e.0 r e.4, e.5)
ahead FirstArm c pre a b r later is k (inr e) =
    inr (pre ++ e.0, e.1, e.2, rw (e.3) (sym (append_assoc pre e.0 (Plain Else ∷ (e.1 ++ Plain End ∷ e.2)))), k e.0 r e.4, e.5, e.6)

-- some types for which the operands stand
some_types : (unreachable : Bool) (os : List Operand) → (a : List ValType) × Inst unreachable os a
some_types true [] = ([], tt)
some_types false [] = ([], tt)
some_types unreachable (None ∷ os) = let r = some_types unreachable os in (I32 ∷ r.0, (tt, r.1))
some_types unreachable (Some t ∷ os) = let r = some_types unreachable os in (t ∷ r.0, (refl, r.1))

same_is : (u t : ValType) → same_type u t ≡ true → u ≡ t
same_is I32 I32 h = refl
same_is I32 I64 h = cc
same_is I64 I32 h = cc
same_is I64 I64 h = refl

agrees_matches : (t : ValType) (o : Operand) → agrees t o ≡ true → Matches o t
agrees_matches t None h = tt
agrees_matches t (Some u) h = same_is u t h

-- what was popped stood there
popped : (unreachable : Bool) (ts : List ValType) (os rest : List Operand) (a : List ValType) → pop_all unreachable ts os ≡ Some rest → Inst unreachable rest a → Inst unreachable os (ts ++ a)
popped unreachable [] os rest a h i = let e : os ≡ rest = cc in subst (λ x. Inst unreachable x a) (sym e) i
popped true (t ∷ ts) [] rest a h i = tt
popped false (t ∷ ts) [] rest a h i = cc
popped unreachable (t ∷ ts) (o ∷ os) rest a h i = popped_by (λ h3. popped unreachable ts os rest a h3 i) (agrees t o) refl h
  where
    popped_by : (pop_all unreachable ts os ≡ Some rest → Inst unreachable os (ts ++ a)) → (b : Bool) → agrees t o ≡ b → then_if (only b os) (pop_all unreachable ts) ≡ Some rest → Matches o t × Inst unreachable os (ts ++ a)
    popped_by k false q h2 = cc
    popped_by k true q h2 = (agrees_matches t o q, k h2)

-- what was pushed stands there
pushed : (unreachable : Bool) (ts : List ValType) (os : List Operand) (a : List ValType) → Inst unreachable (known ts ++ os) a → (rest : List ValType) × (a ≡ ts ++ rest) × Inst unreachable os rest
pushed unreachable [] os a i = (a, refl, i)
pushed unreachable (t ∷ ts) os [] i = absurd i
pushed unreachable (t ∷ ts) os (u ∷ a) i = let r = pushed unreachable ts os a i.1 in (r.0, rw (← i.0, ← r.1) refl, r.2)

-- an option that leads to an answer is there
pub there : {X Y : Type 0} (o : Option X) (f : X → Option Y) (y : Y) → then_if o f ≡ Some y → (x : X) × (o ≡ Some x) × (f x ≡ Some y)
there None f y h = cc
there (Some x) f y h = (x, refl, h)

pub allowed : {X : Type 0} (b : Bool) (x y : X) → only b x ≡ Some y → (b ≡ true) × (x ≡ y)
allowed false x y h = cc
allowed true x y h = (refl, cc)

pub both_true : (a b : Bool) → both a b ≡ true → (a ≡ true) × (b ≡ true)
both_true false b h = cc
both_true true b h = (refl, h)

inst_nil : (unreachable : Bool) → Inst unreachable [] []
inst_nil true = tt
inst_nil false = tt

-- a block that may be closed holds its result
closed_inst : (f : Frame) → closed (pop_all f.unreachable f.result f.stack) ≡ true → Inst f.unreachable f.stack f.result
closed_inst f h = closed_by (pop_all f.unreachable f.result f.stack) refl h
  where
    closed_by : (o : Option (List Operand)) → pop_all f.unreachable f.result f.stack ≡ o → closed o ≡ true → Inst f.unreachable f.stack f.result
    closed_by None q h2 = cc
    closed_by (Some []) q h2 = subst (Inst f.unreachable f.stack) (append-nil f.result) (popped f.unreachable f.result f.stack [] [] q (inst_nil f.unreachable))
    closed_by (Some (o ∷ os)) q h2 = cc

-- the types before an instruction that is no block, from those behind it
record Before (cl : Class) (unreachable : Bool) (os : List Operand) (z : List ValType) : Type 0 where
  takes : List ValType
  gives : List ValType
  rest : List ValType
  rule : Rule cl takes gives
  behind_is : z ≡ gives ++ rest
  inst : Inst unreachable os (takes ++ rest)

-- an instruction that is no block, in front of instructions that close the blocks
plain : (c : Context) (i : Instr) (is : List Instr) (f : Frame) (fs : List Frame) (cl : Class) (left : List Operand) → class_of (at_frames c (f ∷ fs)) i ≡ cl
    → ((z : List ValType) → Inst f.unreachable left z → Before cl f.unreachable f.stack z)
    → Closes c [] (with_stack left f ∷ fs) is → Closes c [] (f ∷ fs) (i ∷ is)
plain c i is f fs cl left e before k =
    let cx = at_frames c (f ∷ fs) in
    let r = before k.0 k.1 in
    let rule : Rule (class_of cx i) r.takes r.gives = subst (λ x. Rule x r.takes r.gives) (sym e) r.rule in (
      r.takes ++ r.rest,
      r.inst,
      ahead f.enclosing cx (i ∷ []) (r.takes ++ r.rest) k.0 f.result (Closes c f.result fs) is
          (λ body z t. Then cx i body r.takes r.gives r.rest z rule (subst (λ x. Typed cx body x z) r.behind_is t)) k.2,
    )

before_fixed : (takes gives : List ValType) (unreachable : Bool) (os left : List Operand) (z : List ValType) → pop_all unreachable (reverse takes) os ≡ Some left
    → Inst unreachable (known (reverse gives) ++ left) z → Before (Fixed takes gives) unreachable os z
before_fixed takes gives unreachable os left z p i =
    let r = pushed unreachable (reverse gives) left z i in
    record { takes = reverse takes; gives = reverse gives; rest = r.0; rule = (refl, refl); behind_is = r.1; inst = popped unreachable (reverse takes) os left r.0 p r.2 }

-- any operand stands for some type
some_match : (o : Operand) → (t : ValType) × Matches o t
some_match None = (I32, tt)
some_match (Some t) = (t, refl)

-- the operand that was popped stood there
unpopped : (unreachable : Bool) (os : List Operand) (o : Operand) (left : List Operand) (t : ValType) (z : List ValType) → pop_any unreachable os ≡ Some (o, left) → Matches o t → Inst unreachable left z → Inst unreachable os (t ∷ z)
unpopped true [] o left t z h m i = tt
unpopped false [] o left t z h m i = cc
unpopped unreachable (u ∷ os) o left t z h m i =
    let q : ◌≡◌ {A = Operand × List Operand} (u, os) (o, left) = cc in
    (subst (λ x. Matches x t) (sym (ap (λ p. p.0) q)) m, subst (λ x. Inst unreachable x z) (sym (ap (λ p. p.1) q)) i)

before_discards : (unreachable : Bool) (os : List Operand) (p : Operand × List Operand) (z : List ValType) → pop_any unreachable os ≡ Some p → Inst unreachable p.1 z → Before Discards unreachable os z
before_discards unreachable os p z h i =
    let m = some_match p.0 in
    record { takes = m.0 ∷ []; gives = []; rest = z; rule = (m.0, refl, refl); behind_is = refl; inst = unpopped unreachable os p.0 p.1 m.0 z h m.1 i }

met : (o v w : Operand) (t : ValType) → meet o v ≡ Some w → Matches w t → Matches o t × Matches v t
met None v w t h m = (tt, let q : v ≡ w = cc in subst (λ x. Matches x t) (sym q) m)
met (Some u) None w t h m = let q : Some u ≡ w = cc in (subst (λ x. Matches x t) (sym q) m, tt)
met (Some u) (Some v) w t h m =
    let p = allowed (same_type u v) (Some u) w h in
    let q : Matches (Some u) t = subst (λ x. Matches x t) (sym p.1) m in
    (q, sym (same_is u v p.0) ∙ q)

before_selects : (unreachable : Bool) (os two left : List Operand) (z : List ValType) → pop_one unreachable I32 os ≡ Some two → select_by unreachable two ≡ Some left
    → Inst unreachable left z → Before Selects unreachable os z
before_selects unreachable os two left z h s i =
    let p = there (pop_any unreachable two) _ left s in
    let q = there (pop_any unreachable p.0.1) _ left p.2 in
    let o = there (meet p.0.0 q.0.0) _ left q.2 in
    let is_left : o.0 ∷ q.0.1 ≡ left = cc in
    by_types p.0.0 p.0.1 q.0.0 q.0.1 o.0 z p.1 q.1 o.1 (subst (λ x. Inst unreachable x z) (sym is_left) i)
  where
    by_types : (a : Operand) (one : List Operand) (b : Operand) (none : List Operand) (w : Operand) (z : List ValType) → pop_any unreachable two ≡ Some (a, one) → pop_any unreachable one ≡ Some (b, none) → meet a b ≡ Some w
        → Inst unreachable (w ∷ none) z → Before Selects unreachable os z
    by_types a one b none w [] p q o i = absurd i
    by_types a one b none w (t ∷ z) p q o i =
        let m = met a b w t o i.0 in
        record {
          takes = I32 ∷ t ∷ t ∷ [];
          gives = t ∷ [];
          rest = z;
          rule = (t, refl, refl);
          behind_is = refl;
          inst = popped unreachable (I32 ∷ []) os two (t ∷ t ∷ z) (ap (λ x. then_if x (pop_all unreachable [])) h) (unpopped unreachable two a one t (t ∷ z) p m.0 (unpopped unreachable one b none t z q m.1 i.1));
        }

give_closes : (c : Context) (ts : List ValType) (fs : List Frame) (is : List Instr) → Closes c [] (give ts fs) is → Closes c ts fs is
give_closes c ts [] is k = k
give_closes c ts (f ∷ fs) is k = k

no_more : (a : List ValType) → Inst false [] a → a ≡ []
no_more [] i = refl
no_more (t ∷ a) i = absurd i

leaving : (c : Context) (i : Instr) (is : List Instr) (f : Frame) (fs : List Frame) (takes : List ValType) (os : List Operand)
    → class_of (at_frames c (f ∷ fs)) i ≡ Leaves takes → pop_all f.unreachable (reverse takes) f.stack ≡ Some os → Closes c [] (made_unreachable f ∷ fs) is → Closes c [] (f ∷ fs) (i ∷ is)
leaving c i is f fs takes os e p k =
    let r = some_types f.unreachable os in
    let cx = at_frames c (f ∷ fs) in
    let rule : Rule (class_of cx i) (reverse takes ++ r.0) k.0 = subst (λ x. Rule x (reverse takes ++ r.0) k.0) (sym e) (r.0, refl) in (
      reverse takes ++ r.0,
      popped f.unreachable (reverse takes) f.stack os r.0 p r.1,
      ahead f.enclosing cx (i ∷ []) (reverse takes ++ r.0) k.0 f.result (Closes c f.result fs) is
          (λ body z t. subst (λ x. Typed cx (i ∷ body) x z) (append-nil (reverse takes ++ r.0)) (Then cx i body (reverse takes ++ r.0) k.0 [] z rule (subst (λ x. Typed cx body x z) (sym (append-nil k.0)) t))) k.2,
    )

-- a block in front of instructions that close the blocks around it
behind : (c : Context) (pre rest : List Instr) (f : Frame) (fs : List Frame) (takes result : List ValType) (os : List Operand) → pop_all f.unreachable takes f.stack ≡ Some os
    → ((below : List ValType) (body : List Instr) (z : List ValType) → Typed (at_frames c (f ∷ fs)) body (result ++ below) z → Typed (at_frames c (f ∷ fs)) (pre ++ body) (takes ++ below) z)
    → Closes c result (with_stack os f ∷ fs) rest → Closes c [] (f ∷ fs) (pre ++ rest)
behind c pre rest f fs takes result os p t k =
    let cx = at_frames c (f ∷ fs) in
    let r = pushed f.unreachable result os k.0 k.1 in (
      takes ++ r.0,
      popped f.unreachable takes f.stack os r.0 p r.2,
      ahead f.enclosing cx pre (takes ++ r.0) k.0 f.result (Closes c f.result fs) rest (λ body z b. t r.0 body z (subst (λ x. Typed cx body x z) r.1 b)) k.2,
    )

entering : (c : Context) (i : Instr) (is : List Instr) (f : Frame) (fs : List Frame) (takes : List ValType) (enclosing : Enclosing) (label result : List ValType) (os : List Operand)
    → class_of (at_frames c (f ∷ fs)) i ≡ Enters takes enclosing label result → pop_all f.unreachable (reverse takes) f.stack ≡ Some os
    → Ends enclosing (at_frames c (opened enclosing label result ∷ f ∷ fs)) [] result (Closes c result (with_stack os f ∷ fs)) is → Closes c [] (f ∷ fs) (i ∷ is)
entering c i is f fs takes Whole label result os e p n =
    let cx = at_frames c (f ∷ fs) in
    let pre = i ∷ (n.0 ++ Plain End ∷ []) in
    subst (λ x. Closes c [] (f ∷ fs) (i ∷ x)) (append_assoc n.0 (Plain End ∷ []) n.1 ∙ sym n.2)
    (behind c pre n.1 f fs (reverse takes) result os p
    (λ below body z t. subst (λ x. Typed cx (i ∷ x) (reverse takes ++ below) z) (sym (append_assoc n.0 (Plain End ∷ []) body)) (Blocked cx i n.0 body takes label result below z e n.3 t)) n.4)
entering c i is f fs takes FirstArm label result os e p (inl n) =
    let cx = at_frames c (f ∷ fs) in
    let pre = i ∷ (n.0 ++ Plain End ∷ []) in
    let none : class_of cx i ≡ Enters takes FirstArm label [] = e ∙ ap (λ x. Enters takes FirstArm label x) n.3 in
    subst (λ x. Closes c [] (f ∷ fs) (i ∷ x)) (append_assoc n.0 (Plain End ∷ []) n.1 ∙ sym n.2)
    (behind c pre n.1 f fs (reverse takes) result os p
    (λ below body z t. subst (λ x. Typed cx (i ∷ x) (reverse takes ++ below) z) (sym (append_assoc n.0 (Plain End ∷ []) body))
    (Once cx i n.0 body takes label below z none (subst (λ x. Typed (inside label cx) n.0 [] x) n.3 n.4) (subst (λ x. Typed cx body (x ++ below) z) n.3 t))) n.5)
entering c i is f fs takes FirstArm label result os e p (inr n) =
    let cx = at_frames c (f ∷ fs) in
    let pre = i ∷ (n.0 ++ (Plain Else ∷ (n.1 ++ Plain End ∷ []))) in
    let longer : (x : List Instr) → (n.0 ++ (Plain Else ∷ (n.1 ++ Plain End ∷ []))) ++ x ≡ n.0 ++ (Plain Else ∷ (n.1 ++ Plain End ∷ x)) = λ x. simp append_assoc in
    subst (λ x. Closes c [] (f ∷ fs) (i ∷ x)) (longer n.2 ∙ sym n.3)
    (behind c pre n.2 f fs (reverse takes) result os p
    (λ below body z t. subst (λ x. Typed cx (i ∷ x) (reverse takes ++ below) z) (sym (longer body)) (Either cx i n.0 n.1 body takes label result below z e n.4 n.5 t)) n.6)

turned : (c : Context) (i : Instr) (is : List Instr) (label result : List ValType) (fs : List Frame) (enclosing : Enclosing) → may_turn enclosing ≡ true → i ≡ Plain Else
    → Ends Whole (inside label (at_frames c fs)) [] result (Closes c result fs) is → Ends enclosing (inside label (at_frames c fs)) result result (Closes c result fs) (i ∷ is)
turned c i is label result fs Whole m q n = cc
turned c i is label result fs FirstArm m q n = inr ([], n.0, n.1, rw (q, n.2) refl, Nothing _ _, n.3, n.4)

ends_if : (r : List ValType) → may_end FirstArm r ≡ true → r ≡ []
ends_if [] m = refl
ends_if (t ∷ r) m = cc

front : (c : Context) (i : Instr) (is : List Instr) (f : Frame) (fs gs : List Frame) (cl : Class) → class_of (at_frames c (f ∷ fs)) i ≡ cl → step_by cl f fs ≡ Some gs
    → Closes c [] gs is → Closes c [] (f ∷ fs) (i ∷ is)
front c i is f fs gs (Fixed takes gives) e h k =
    let p = there (pop_all f.unreachable (reverse takes) f.stack) _ gs h in
    let q : with_stack (known (reverse gives) ++ p.0) f ∷ fs ≡ gs = cc in
    plain c i is f fs (Fixed takes gives) (known (reverse gives) ++ p.0) e (λ z n. before_fixed takes gives f.unreachable f.stack p.0 z p.1 n) (subst (λ x. Closes c [] x is) (sym q) k)
front c i is f fs gs Discards e h k =
    let p = there (pop_any f.unreachable f.stack) _ gs h in
    let q : with_stack p.0.1 f ∷ fs ≡ gs = cc in
    plain c i is f fs Discards p.0.1 e (λ z n. before_discards f.unreachable f.stack p.0 z p.1 n) (subst (λ x. Closes c [] x is) (sym q) k)
front c i is f fs gs Selects e h k =
    let p = there (pop_one f.unreachable I32 f.stack) _ gs h in
    let r = there (select_by f.unreachable p.0) _ gs p.2 in
    let q : with_stack r.0 f ∷ fs ≡ gs = cc in
    plain c i is f fs Selects r.0 e (λ z n. before_selects f.unreachable f.stack p.0 r.0 z p.1 r.1 n) (subst (λ x. Closes c [] x is) (sym q) k)
front c i is f fs gs (Leaves takes) e h k =
    let p = there (pop_all f.unreachable (reverse takes) f.stack) _ gs h in
    let q : made_unreachable f ∷ fs ≡ gs = cc in
    leaving c i is f fs takes p.0 e p.1 (subst (λ x. Closes c [] x is) (sym q) k)
front c i is f fs gs (Enters takes enclosing label result) e h k =
    let p = there (pop_all f.unreachable (reverse takes) f.stack) _ gs h in
    let q : opened enclosing label result ∷ with_stack p.0 f ∷ fs ≡ gs = cc in
    let k2 = subst (λ x. Closes c [] x is) (sym q) k in
    entering c i is f fs takes enclosing label result p.0 e p.1 (subst (λ x. Ends enclosing (at_frames c (opened enclosing label result ∷ f ∷ fs)) x result (Closes c result (with_stack p.0 f ∷ fs)) is) (no_more k2.0 k2.1) k2.2)
front c i is f fs gs Turning e h k =
    let p = allowed _ (opened Whole f.label f.result ∷ fs) gs h in
    let b = both_true _ _ p.0 in
    let k2 = subst (λ x. Closes c [] x is) (sym p.1) k in (
      f.result,
      closed_inst f b.1,
      turned c i is f.label f.result fs f.enclosing b.0 (is_else (at_frames c (f ∷ fs)) i e)
          (subst (λ x. Ends Whole (at_frames c (f ∷ fs)) x f.result (Closes c f.result fs) is) (no_more k2.0 k2.1) k2.2),
    )
front c i is f fs gs Ending e h k =
    let p = allowed _ (give f.result fs) gs h in
    let b = both_true _ _ p.0 in
    (f.result, closed_inst f b.1, ended f.enclosing b.0 (is_end (at_frames c (f ∷ fs)) i e) (give_closes c f.result fs is (subst (λ x. Closes c [] x is) (sym p.1) k)))
  where
    ended : (enclosing : Enclosing) → may_end enclosing f.result ≡ true → i ≡ Plain End → Closes c f.result fs is → Ends enclosing (at_frames c (f ∷ fs)) f.result f.result (Closes c f.result fs) (i ∷ is)
    ended Whole m q k2 = ([], is, ap (λ x. x ∷ is) q, Nothing _ _, k2)
    ended FirstArm m q k2 = inl ([], is, ap (λ x. x ∷ is) q, ends_if f.result m, Nothing _ _, k2)
front c i is f fs gs Wrong e h k = cc

pub sound : (c : Context) (is : List Instr) (fs : List Frame) → walk c is fs ≡ Some [] → Closes c [] fs is
sound c [] [] h = refl
sound c [] (f ∷ fs) h = cc
sound c (i ∷ is) [] h = cc
sound c (i ∷ is) (f ∷ fs) h =
    let p = there (step c i (f ∷ fs)) (walk c is) [] h in
    front c i is f fs p.0 (class_of (at_frames c (f ∷ fs)) i) refl p.1 (sound c is p.0 p.2)

pub whole : (c : Context) (code : List Instr) → Closes c [] (opened Whole c.result c.result ∷ []) code → FunctionTyped c code
whole c code k =
    let n = k.2 in
    (n.0, n.2 ∙ ap (λ x. n.0 ++ Plain End ∷ x) n.4, subst (λ x. Typed (outermost c) n.0 x c.result) (no_more k.0 k.1) n.3)

pub checked_typed : (c : Context) (code : List Instr) → Checked c code → FunctionTyped c code
checked_typed c code h = whole c code (sound c code (opened Whole c.result c.result ∷ []) h)
