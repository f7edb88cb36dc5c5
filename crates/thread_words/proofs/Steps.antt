-- An activation that fits has a step, which leads to activations that fit: instructions that take and leave operands.
use Rattle.std.proofs.Common.{◌≡◌, ℕ, zero, suc, Bool, true, false, List, [], ◌∷◌, ◌++◌, Option, Some, None, refl, sym, ◌∙◌, ap, subst, drop, map, slice_get, slice_set, reverse, append_assoc}
use Rattle.std.proofs.lemmas.List.{reverse-append}
use Rattle.wasm_types.specs.declared.value.Value.{Value}
use Rattle.wasm_types.specs.declared.value.Value.TheVariants as value
use Rattle.wasm_types.specs.declared.value.ValType.{ValType}
use Rattle.wasm_types.specs.declared.value.ValType.TheVariants.{I32}
use Rattle.wasm_types.specs.declared.modules.Global.{Global}
use Rattle.wasm_types.specs.declared.instruction.Instr.{Instr}
use Rattle.wasm_types.specs.declared.instruction.Instr.TheVariants as instr
use Rattle.wasm_types.specs.declared.instruction.IndexOp.TheVariants.{LocalGet, LocalSet, LocalTee, GlobalGet, GlobalSet}
use Rattle.wasm_types.specs.declared.instruction.Plain.TheVariants.{Nop, Discard, Select}
use Rattle.wasm_types.specs.Values.{same_type, type_of}
use Rattle.validator.specs.Context.{Context}
use Rattle.validator.specs.Table.{Class, Fixed, class_of, if_some, if_true}
use Rattle.validator.specs.Walk.{Frame, Operand, known, with_stack, pop_all, pop_one, pop_any, select_by, only, then_if, step_by, at_frames}
use Rattle.validator.proofs.Sound.{there}
use Rattle.thread_words.specs.Instance.{Instance}
use Rattle.thread_words.specs.Activation.{Activation, onward, with_local, with_global, types}
use Rattle.thread_words.specs.Effect.{Effect, Gives, Stops, Makes, Waits, effect_of}
use Rattle.thread_words.specs.Step.{Next, Stays, on_one, on_i32, on_typed, if_zero, next_by, simple_step, act_at}
use Rattle.thread_words.specs.Fits.{Stands, Fits, ActivationFits, Good}
use Rattle.thread_words.proofs.Frames.{types_append, known_append, Under, top_of, pops_top, same_type_is, found_on, typed_on, i32_front, no_front, one_front}
use Rattle.thread_words.proofs.SimpleSteps.{EffectFits, Simple}
use Rattle.thread_words.proofs.Landing.{Typed}

-- what is known where an instruction stands
pub record Here (c : Context) (code : List Instr) (a : Activation) (i : Instr) (is : List Instr) (w : Frame) (ws gs : List Frame) : Type 0 where
  pub typed : Typed c a
  pub here : drop a.place code ≡ i ∷ is
  pub behind_it : drop (suc a.place) code ≡ is
  pub stepped : step_by (class_of (at_frames c (w ∷ ws)) i) w ws ≡ Some gs
  pub rest : Stands c code (suc a.place) gs
  pub fits : Fits c code a.stack a.labels (w ∷ ws)
  pub short : reverse c.result ≡ c.result

abbrev pub Goes : Instance → Context → List Instr → Activation → List Instr → Type 0
Goes m c code a is = (n : Next) × (act_at m c code is a ≡ Some n) × Good c code n

-- the next instruction takes and leaves operands of fixed types, here the topmost first
pub record Plainly (c : Context) (code : List Instr) (a : Activation) (w : Frame) (ws : List Frame) (takes gives : List ValType) : Type 0 where
  pub arguments : List Value
  pub others : List Value
  pub whole : a.stack ≡ arguments ++ others
  pub kinds : types arguments ≡ takes
  pub rest : List Value
  pub below : List Value
  pub parts : others ≡ rest ++ below
  pub under : Under c code below a.labels w ws
  pub after : (new : List Value) → types new ≡ gives → ActivationFits c code (onward (new ++ others) a)

-- a place and a stack, from which the walk goes on
pub onto : (c : Context) (code : List Instr) (a : Activation) (is : List Instr) (gs : List Frame) (vs : List Value) → Typed c a → Stands c code (suc a.place) gs
    → Fits c code vs a.labels gs → ActivationFits c code (onward vs a)
onto c code a is gs vs k h f = (k.0, k.1, gs, h, f)

pub plainly : (c : Context) (code : List Instr) (a : Activation) (i : Instr) (is : List Instr) (w : Frame) (ws gs : List Frame) (takes gives : List ValType) → Here c code a i is w ws gs
    → class_of (at_frames c (w ∷ ws)) i ≡ Fixed takes gives → Plainly c code a w ws (reverse takes) (reverse gives)
plainly c code a i is w ws gs takes gives h e =
    let st : step_by (Fixed takes gives) w ws ≡ Some gs = subst (λ x. step_by x w ws ≡ Some gs) e h.stepped in
    let p = there (pop_all w.unreachable (reverse takes) w.stack) _ gs st in
    let g : with_stack (known (reverse gives) ++ p.0) w ∷ ws ≡ gs = cc in
    let t = top_of c code a.stack a.labels w ws h.fits in
    let q = pops_top (reverse takes) w t.top p.0 t.alive t.kinds p.1 in
    record {
      arguments = q.arguments;
      others = q.rest ++ t.below;
      whole = t.whole ∙ ap (λ x. x ++ t.below) q.whole ∙ append_assoc q.arguments q.rest t.below;
      kinds = q.kinds;
      rest = q.rest;
      below = t.below;
      parts = refl;
      under = t.under;
      after = λ new k.
          let s : known (reverse gives) ++ p.0 ≡ known (types (new ++ q.rest)) =
          ap (λ x. known (reverse gives) ++ x) q.left ∙ sym (ap known (types_append new q.rest) ∙ known_append (types new) (types q.rest) ∙ ap (λ x. known x ++ known (types q.rest)) k) in
          let f = t.other (new ++ q.rest) (with_stack (known (reverse gives) ++ p.0) w) t.alive s refl refl refl in
          onto c code a is gs (new ++ (q.rest ++ t.below)) h.typed h.rest
          (subst (λ x. Fits c code x a.labels gs) (append_assoc new q.rest t.below) (subst (λ x. Fits c code ((new ++ q.rest) ++ t.below) a.labels x) g f));
    }

-- ---- simple instructions

good_next : (c : Context) (code : List Instr) (a : Activation) (w : Frame) (ws : List Frame) (takes gives : List ValType) (p : Plainly c code a w ws takes (reverse gives)) (e : Effect)
    → EffectFits gives e → Good c code (next_by e p.others a)
good_next c code a w ws takes gives p (Gives vs) h = p.after vs h
good_next c code a w ws takes gives p (Stops trap) h = tt
good_next c code a w ws takes gives p (Makes action replies) h = λ vs k. p.after vs (k ∙ ap reverse h)
good_next c code a w ws takes gives p (Waits action time) h = λ vs k. p.after vs (k ∙ sym (ap reverse h))

pub go_simple : (m : Instance) (c : Context) (code : List Instr) (a : Activation) (i : Instr) (is : List Instr) (w : Frame) (ws gs : List Frame) → Here c code a i is w ws gs
    → class_of (at_frames c (w ∷ ws)) i ≡ class_of c i → Simple m c i → (n : Next) × (simple_step m i (class_of c i) a ≡ Some n) × Good c code n
go_simple m c code a i is w ws gs h same s =
    let p = plainly c code a i is w ws gs s.takes s.gives h (same ∙ s.class_is) in
    let next : List Value → List Value → Option Next = λ taken rest. Some (next_by (effect_of m i (reverse taken)) rest a) in (
      next_by (effect_of m i (reverse p.arguments)) p.others a,
      ap (λ k. simple_step m i k a) s.class_is ∙ ap (λ vs. on_typed (reverse s.takes) vs next) p.whole
          ∙ typed_on (reverse s.takes) p.arguments p.others next (Some (next_by (effect_of m i (reverse p.arguments)) p.others a)) p.kinds refl,
      good_next c code a w ws (reverse s.takes) s.gives p (effect_of m i (reverse p.arguments)) (s.fits (reverse p.arguments)),
    )

-- ---- operands of one type or another

-- one i32 on top
pub record OneInt (vs others : List Value) : Type 0 where
  pub number : ℕ
  pub whole : vs ≡ value.I32 number ∷ others

pub one_int : (vs arguments others : List Value) → vs ≡ arguments ++ others → types arguments ≡ I32 ∷ [] → OneInt vs others
one_int vs arguments others e k =
    let f = i32_front arguments [] k in
    record { number = f.0; whole = e ∙ ap (λ x. x ++ others) (f.2 ∙ ap (λ x. value.I32 f.0 ∷ x) (no_front f.1 f.3)) }

pub reverse_last : (ts : List ValType) (t : ValType) → reverse (ts ++ t ∷ []) ≡ t ∷ reverse ts
reverse_last ts t = reverse-append ts (t ∷ [])

pub go_nop : (m : Instance) (c : Context) (code : List Instr) (a : Activation) (is : List Instr) (w : Frame) (ws gs : List Frame) → Here c code a (instr.Plain Nop) is w ws gs → Goes m c code a (instr.Plain Nop ∷ is)
go_nop m c code a is w ws gs h =
    let p = plainly c code a (instr.Plain Nop) is w ws gs [] [] h refl in
    let e : a.stack ≡ p.others = p.whole ∙ ap (λ x. x ++ p.others) (no_front p.arguments p.kinds) in
    (Stays (onward a.stack a), refl, subst (λ x. ActivationFits c code (onward x a)) (sym e) (p.after [] refl))

dropped : (vs : List Value) (p : Operand × List Operand) → pop_any false (known (types vs)) ≡ Some p → (v : Value) × (rest : List Value) × (vs ≡ v ∷ rest) × (p.1 ≡ known (types rest))
dropped [] p k = cc
dropped (v ∷ vs) p k = (v, vs, refl, cc)

pub go_discard : (m : Instance) (c : Context) (code : List Instr) (a : Activation) (is : List Instr) (w : Frame) (ws gs : List Frame) → Here c code a (instr.Plain Discard) is w ws gs
    → Goes m c code a (instr.Plain Discard ∷ is)
go_discard m c code a is w ws gs h =
    let p = there (pop_any w.unreachable w.stack) _ gs h.stepped in
    let g : with_stack (p.0).1 w ∷ ws ≡ gs = cc in
    let t = top_of c code a.stack a.labels w ws h.fits in
    let q = dropped t.top p.0 (rw (← t.alive, ← t.kinds) p.1) in
    let e : a.stack ≡ q.0 ∷ (q.1 ++ t.below) = t.whole ∙ ap (λ x. x ++ t.below) q.2 in (
      Stays (onward (q.1 ++ t.below) a),
      ap (λ vs. on_one vs (λ v vs2. Some (Stays (onward vs2 a)))) e,
      onto c code a is gs (q.1 ++ t.below) h.typed h.rest (subst (λ x. Fits c code (q.1 ++ t.below) a.labels x) g (t.other q.1 (with_stack (p.0).1 w) t.alive q.3 refl refl refl)),
    )

-- two operands of one type below an i32
record Selected (vs : List Value) (left : List Operand) : Type 0 where
  number : ℕ
  second : Value
  first : Value
  rest : List Value
  whole : vs ≡ value.I32 number ∷ second ∷ first ∷ rest
  same : type_of second ≡ type_of first
  left_is : left ≡ known (type_of second ∷ types rest)

selected_by : (b : Bool) (n : ℕ) (second first : Value) (rest : List Value) (left : List Operand) → same_type (type_of second) (type_of first) ≡ b
    → then_if (only b (Some (type_of second))) (λ o. Some (o ∷ known (types rest))) ≡ Some left → Selected (value.I32 n ∷ second ∷ first ∷ rest) left
selected_by false n second first rest left s h = cc
selected_by true n second first rest left s h = record { number = n; second = second; first = first; rest = rest; whole = refl; same = same_type_is (type_of second) (type_of first) s; left_is = cc }

selected : (vs : List Value) (left : List Operand) → then_if (pop_one false I32 (known (types vs))) (select_by false) ≡ Some left → Selected vs left
selected [] left h = cc
selected (value.I64 n ∷ vs) left h = cc
selected (value.I32 n ∷ []) left h = cc
selected (value.I32 n ∷ second ∷ []) left h = cc
selected (value.I32 n ∷ second ∷ first ∷ rest) left h = selected_by (same_type (type_of second) (type_of first)) n second first rest left refl h

chosen_type : (n : ℕ) (second first : Value) → type_of second ≡ type_of first → type_of (if_zero n second first) ≡ type_of second
chosen_type zero second first e = refl
chosen_type (suc n) second first e = sym e

pub go_select : (m : Instance) (c : Context) (code : List Instr) (a : Activation) (is : List Instr) (w : Frame) (ws gs : List Frame) → Here c code a (instr.Plain Select) is w ws gs
    → Goes m c code a (instr.Plain Select ∷ is)
go_select m c code a is w ws gs h =
    let p = there (pop_one w.unreachable I32 w.stack) _ gs h.stepped in
    let q = there (select_by w.unreachable p.0) _ gs p.2 in
    let g : with_stack q.0 w ∷ ws ≡ gs = cc in
    let t = top_of c code a.stack a.labels w ws h.fits in
    let k : then_if (pop_one w.unreachable I32 w.stack) (select_by w.unreachable) ≡ Some q.0 = ap (λ x. then_if x (select_by w.unreachable)) p.1 ∙ q.1 in
    let s = selected t.top q.0 (rw (← t.alive, ← t.kinds) k) in
    let e : a.stack ≡ value.I32 s.number ∷ s.second ∷ s.first ∷ (s.rest ++ t.below) = t.whole ∙ ap (λ x. x ++ t.below) s.whole in
    let v = if_zero s.number s.second s.first in
    let l : q.0 ≡ known (types (v ∷ s.rest)) = s.left_is ∙ ap (λ x. known (x ∷ types s.rest)) (sym (chosen_type s.number s.second s.first s.same)) in (
      Stays (onward (v ∷ (s.rest ++ t.below)) a),
      ap (λ vs. on_i32 vs (λ n vs2. on_one vs2 (λ second others. on_one others (λ first rest. Some (Stays (onward (if_zero n second first ∷ rest) a)))))) e,
      onto c code a is gs (v ∷ (s.rest ++ t.below)) h.typed h.rest
          (subst (λ x. Fits c code (v ∷ (s.rest ++ t.below)) a.labels x) g (t.other (v ∷ s.rest) (with_stack q.0 w) t.alive l refl refl refl)),
    )

-- ---- locals and globals

pub get_typed : (x : ℕ) (vs : List Value) (t : ValType) → slice_get (types vs) x ≡ Some t → (v : Value) × (slice_get vs x ≡ Some v) × (type_of v ≡ t)
get_typed x [] t h = cc
get_typed zero (v ∷ vs) t h = (v, refl, cc)
get_typed (suc x) (v ∷ vs) t h = get_typed x vs t h

set_typed : (x : ℕ) (vs : List Value) (v : Value) (t : ValType) → slice_get (types vs) x ≡ Some t → type_of v ≡ t → types (slice_set vs x v) ≡ types vs
set_typed x [] v t h e = cc
set_typed zero (u ∷ vs) v t h e = let q : type_of u ≡ t = cc in ap (λ y. y ∷ types vs) (e ∙ sym q)
set_typed (suc x) (u ∷ vs) v t h e = ap (λ y. type_of u ∷ y) (set_typed x vs v t h e)

-- an instruction that names something names what is there
pub named : {X : Type 0} (o : Option X) (f : X → Class) (w : Frame) (ws gs : List Frame) → step_by (if_some o f) w ws ≡ Some gs → (x : X) × (o ≡ Some x) × (step_by (f x) w ws ≡ Some gs)
named None f w ws gs h = cc
named (Some x) f w ws gs h = (x, refl, h)

global_typed : (x : ℕ) (globals : List Global) (g : Global) → slice_get globals x ≡ Some g → slice_get (map (λ y. y.val_type) globals) x ≡ Some g.val_type
global_typed x [] g h = cc
global_typed zero (y ∷ ys) g h = let q : y ≡ g = cc in ap (λ z. Some z.val_type) q
global_typed (suc x) (y ∷ ys) g h = global_typed x ys g h

pub go_local_get : (m : Instance) (c : Context) (code : List Instr) (a : Activation) (x : ℕ) (is : List Instr) (w : Frame) (ws gs : List Frame) → Here c code a (instr.Index LocalGet x) is w ws gs
    → Goes m c code a (instr.Index LocalGet x ∷ is)
go_local_get m c code a x is w ws gs h =
    let d = named (slice_get c.locals x) (λ t. Fixed [] (t ∷ [])) w ws gs h.stepped in
    let p = plainly c code a (instr.Index LocalGet x) is w ws gs [] (d.0 ∷ []) h (ap (λ y. if_some y (λ t. Fixed [] (t ∷ []))) d.1) in
    let v = get_typed x a.locals d.0 (ap (λ y. slice_get y x) h.typed.0 ∙ d.1) in
    let e : a.stack ≡ p.others = p.whole ∙ ap (λ y. y ++ p.others) (no_front p.arguments p.kinds) in (
      Stays (onward (v.0 ∷ a.stack) a),
      found_on (slice_get a.locals x) v.0 (λ u. Some (Stays (onward (u ∷ a.stack) a))) _ v.1 refl,
      subst (λ y. ActivationFits c code (onward (v.0 ∷ y) a)) (sym e) (p.after (v.0 ∷ []) (ap (λ y. y ∷ []) v.2)),
    )

pub go_global_get : (m : Instance) (c : Context) (code : List Instr) (a : Activation) (x : ℕ) (is : List Instr) (w : Frame) (ws gs : List Frame) → Here c code a (instr.Index GlobalGet x) is w ws gs
    → Goes m c code a (instr.Index GlobalGet x ∷ is)
go_global_get m c code a x is w ws gs h =
    let d = named (slice_get c.within.globals x) (λ g. Fixed [] (g.val_type ∷ [])) w ws gs h.stepped in
    let p = plainly c code a (instr.Index GlobalGet x) is w ws gs [] ((d.0).val_type ∷ []) h (ap (λ y. if_some y (λ g. Fixed [] (g.val_type ∷ []))) d.1) in
    let v = get_typed x a.globals (d.0).val_type (ap (λ y. slice_get y x) h.typed.1 ∙ global_typed x c.within.globals d.0 d.1) in
    let e : a.stack ≡ p.others = p.whole ∙ ap (λ y. y ++ p.others) (no_front p.arguments p.kinds) in (
      Stays (onward (v.0 ∷ a.stack) a),
      found_on (slice_get a.globals x) v.0 (λ u. Some (Stays (onward (u ∷ a.stack) a))) _ v.1 refl,
      subst (λ y. ActivationFits c code (onward (v.0 ∷ y) a)) (sym e) (p.after (v.0 ∷ []) (ap (λ y. y ∷ []) v.2)),
    )

pub go_local_set : (m : Instance) (c : Context) (code : List Instr) (a : Activation) (x : ℕ) (is : List Instr) (w : Frame) (ws gs : List Frame) → Here c code a (instr.Index LocalSet x) is w ws gs
    → Goes m c code a (instr.Index LocalSet x ∷ is)
go_local_set m c code a x is w ws gs h =
    let d = named (slice_get c.locals x) (λ t. Fixed (t ∷ []) []) w ws gs h.stepped in
    let p = plainly c code a (instr.Index LocalSet x) is w ws gs (d.0 ∷ []) [] h (ap (λ y. if_some y (λ t. Fixed (t ∷ []) [])) d.1) in
    let typed : slice_get (types a.locals) x ≡ Some d.0 = ap (λ y. slice_get y x) h.typed.0 ∙ d.1 in
    let v = get_typed x a.locals d.0 typed in
    let one = one_front p.arguments d.0 p.kinds in
    let e : a.stack ≡ one.0 ∷ p.others = p.whole ∙ ap (λ y. y ++ p.others) one.1 in
    let f = p.after [] refl in (
      Stays (onward p.others (with_local x one.0 a)),
      found_on (slice_get a.locals x) v.0 (λ old. on_one a.stack (λ u vs. Some (Stays (onward vs (with_local x u a))))) _ v.1
          (ap (λ y. on_one y (λ u vs. Some (Stays (onward vs (with_local x u a))))) e),
      (set_typed x a.locals one.0 d.0 typed one.2 ∙ h.typed.0, f.1, f.2, f.3, f.4),
    )

pub go_local_tee : (m : Instance) (c : Context) (code : List Instr) (a : Activation) (x : ℕ) (is : List Instr) (w : Frame) (ws gs : List Frame) → Here c code a (instr.Index LocalTee x) is w ws gs
    → Goes m c code a (instr.Index LocalTee x ∷ is)
go_local_tee m c code a x is w ws gs h =
    let d = named (slice_get c.locals x) (λ t. Fixed (t ∷ []) (t ∷ [])) w ws gs h.stepped in
    let p = plainly c code a (instr.Index LocalTee x) is w ws gs (d.0 ∷ []) (d.0 ∷ []) h (ap (λ y. if_some y (λ t. Fixed (t ∷ []) (t ∷ []))) d.1) in
    let typed : slice_get (types a.locals) x ≡ Some d.0 = ap (λ y. slice_get y x) h.typed.0 ∙ d.1 in
    let v = get_typed x a.locals d.0 typed in
    let one = one_front p.arguments d.0 p.kinds in
    let e : a.stack ≡ one.0 ∷ p.others = p.whole ∙ ap (λ y. y ++ p.others) one.1 in
    let f = p.after (one.0 ∷ []) (ap (λ y. y ∷ []) one.2) in (
      Stays (onward (one.0 ∷ p.others) (with_local x one.0 a)),
      found_on (slice_get a.locals x) v.0 (λ old. on_one a.stack (λ u vs. Some (Stays (onward (u ∷ vs) (with_local x u a))))) _ v.1
          (ap (λ y. on_one y (λ u vs. Some (Stays (onward (u ∷ vs) (with_local x u a))))) e),
      (set_typed x a.locals one.0 d.0 typed one.2 ∙ h.typed.0, f.1, f.2, f.3, f.4),
    )

granted_set : (g : Global) (w : Frame) (ws gs : List Frame) → step_by (if_true g.mutable (Fixed (g.val_type ∷ []) [])) w ws ≡ Some gs → if_true g.mutable (Fixed (g.val_type ∷ []) []) ≡ Fixed (g.val_type ∷ []) []
granted_set g w ws gs h = by_case g.mutable h
  where
    by_case : (b : Bool) → step_by (if_true b (Fixed (g.val_type ∷ []) [])) w ws ≡ Some gs → if_true b (Fixed (g.val_type ∷ []) []) ≡ Fixed (g.val_type ∷ []) []
    by_case false k = cc
    by_case true k = refl

pub go_global_set : (m : Instance) (c : Context) (code : List Instr) (a : Activation) (x : ℕ) (is : List Instr) (w : Frame) (ws gs : List Frame) → Here c code a (instr.Index GlobalSet x) is w ws gs
    → Goes m c code a (instr.Index GlobalSet x ∷ is)
go_global_set m c code a x is w ws gs h =
    let k : Global → Class = λ g. if_true g.mutable (Fixed (g.val_type ∷ []) []) in
    let d = named (slice_get c.within.globals x) k w ws gs h.stepped in
    let p = plainly c code a (instr.Index GlobalSet x) is w ws gs ((d.0).val_type ∷ []) [] h (ap (λ y. if_some y k) d.1 ∙ granted_set d.0 w ws gs d.2) in
    let typed : slice_get (types a.globals) x ≡ Some (d.0).val_type = ap (λ y. slice_get y x) h.typed.1 ∙ global_typed x c.within.globals d.0 d.1 in
    let v = get_typed x a.globals (d.0).val_type typed in
    let one = one_front p.arguments (d.0).val_type p.kinds in
    let e : a.stack ≡ one.0 ∷ p.others = p.whole ∙ ap (λ y. y ++ p.others) one.1 in
    let f = p.after [] refl in (
      Stays (onward p.others (with_global x one.0 a)),
      found_on (slice_get a.globals x) v.0 (λ old. on_one a.stack (λ u vs. Some (Stays (onward vs (with_global x u a))))) _ v.1
          (ap (λ y. on_one y (λ u vs. Some (Stays (onward vs (with_global x u a))))) e),
      (f.0, set_typed x a.globals one.0 (d.0).val_type typed one.2 ∙ h.typed.1, f.2, f.3, f.4),
    )
