-- Activations that fit, and what can be taken off and put onto their operands.
use Rattle.std.proofs.Common.{◌≡◌, ℕ, zero, suc, ◌+◌, ◌-◌, ◌≤◌, nat_le, Bool, true, false, List, [], ◌∷◌, ◌++◌, Option, Some, refl, sym, ◌∙◌, ap, subst, take, drop, length, arith, append_assoc, length-append, zero-add, le-leb}
use Rattle.std.proofs.Math.Seq.{take-append_seam, drop-append_seam}
use Rattle.std.proofs.lemmas.List.{append-nil}
use Rattle.wasm_types.specs.declared.value.Value.{Value}
use Rattle.wasm_types.specs.declared.value.Value.TheVariants as value
use Rattle.wasm_types.specs.declared.value.ValType.{ValType}
use Rattle.wasm_types.specs.declared.value.ValType.TheVariants.{I32, I64}
use Rattle.wasm_types.specs.declared.instruction.Instr.{Instr}
use Rattle.wasm_types.specs.declared.nesting.Enclosing.TheVariants.{Whole}
use Rattle.validator.specs.Targets.{end_from, else_from}
use Rattle.wasm_types.specs.Values.{same_type, type_of}
use Rattle.validator.specs.Context.{Context}
use Rattle.validator.specs.Walk.{Frame, Operand, walk, give, opened, known, with_stack, pop_all, then_if, only, step, start}
use Rattle.validator.proofs.Sound.{there}
use Rattle.validator.proofs.Reach.{reaches_end, reaches_else}
use Rattle.thread_words.specs.Activation.{Label, types}
use Rattle.thread_words.specs.Step.{Next, found, when, on_typed, keep, on_top}
use Rattle.thread_words.specs.Fits.{LandsIn, Fits, Stands}

pub types_append : (a b : List Value) → types (a ++ b) ≡ types a ++ types b
types_append [] b = refl
types_append (v ∷ a) b = ap (λ x. type_of v ∷ x) (types_append a b)

pub types_length : (a : List Value) → length (types a) ≡ length a
types_length [] = refl
types_length (v ∷ a) = ap suc (types_length a)

pub known_append : (a b : List ValType) → known (a ++ b) ≡ known a ++ known b
known_append [] b = refl
known_append (v ∷ a) b = ap (λ x. Some v ∷ x) (known_append a b)

-- what is below the open block on top
abbrev pub Under : Context → List Instr → List Value → List Label → Frame → List Frame → Type 0
Under c code below [] w ws = (ws ≡ []) × (w.result ≡ c.result) × (w.label ≡ c.result) × (w.enclosing ≡ Whole)
Under c code below (l ∷ ls) w ws = (length below ≡ l.height) × LandsIn c code l.opener (drop l.opener code) w.label w.result ws × Fits c code below ls ws

-- the open block on top: its operands, those below, and what fits in its place
pub record Top (c : Context) (code : List Instr) (vs : List Value) (ls : List Label) (w : Frame) (ws : List Frame) : Type 0 where
  pub top : List Value
  pub below : List Value
  pub whole : vs ≡ top ++ below
  pub alive : w.unreachable ≡ false
  pub kinds : w.stack ≡ known (types top)
  pub other : (new : List Value) (v : Frame) → v.unreachable ≡ false → v.stack ≡ known (types new) → v.label ≡ w.label → v.result ≡ w.result → v.enclosing ≡ w.enclosing → Fits c code (new ++ below) ls (v ∷ ws)
  pub under : Under c code below ls w ws

pub top_of : (c : Context) (code : List Instr) (vs : List Value) (ls : List Label) (w : Frame) (ws : List Frame) → Fits c code vs ls (w ∷ ws) → Top c code vs ls w ws
top_of c code vs [] w [] k = record {
  top = vs;
  below = [];
  whole = sym (append-nil vs);
  alive = k.0;
  kinds = k.1;
  other = λ new v d s l r m. (d, s ∙ ap (λ x. known (types x)) (sym (append-nil new)), r ∙ k.2, l ∙ k.3, m ∙ k.4);
  under = (refl, k.2, k.3, k.4);
}
top_of c code vs [] w (v ∷ ws) k = absurd k
top_of c code vs (l ∷ ls) w ws k = record {
  top = k.0;
  below = k.1;
  whole = k.2;
  alive = k.4;
  kinds = k.5;
  under = (k.3, k.6, k.7);
  other = λ new v d s lb r m. (new, k.1, refl, k.3, d, s, subst (λ x. LandsIn c code l.opener (drop l.opener code) x v.result ws) (sym lb) (subst (λ x. LandsIn c code l.opener (drop l.opener code) w.label x ws) (sym r) k.6), k.7);
}

pub record Popped (takes : List ValType) (vs : List Value) (os : List Operand) : Type 0 where
  pub arguments : List Value
  pub rest : List Value
  pub whole : vs ≡ arguments ++ rest
  pub kinds : types arguments ≡ takes
  pub left : os ≡ known (types rest)

pops_one : (t : ValType) (ts : List ValType) (v : Value) (vs : List Value) (os : List Operand) → type_of v ≡ t → Popped ts vs os → Popped (t ∷ ts) (v ∷ vs) os
pops_one t ts v vs os e p = record { arguments = v ∷ p.arguments; rest = p.rest; whole = ap (λ x. v ∷ x) p.whole; kinds = rw (e, p.kinds) refl; left = p.left }

pub same_type_is : (t u : ValType) → same_type t u ≡ true → t ≡ u
same_type_is I32 I32 h = refl
same_type_is I32 I64 h = cc
same_type_is I64 I32 h = cc
same_type_is I64 I64 h = refl

pub same_type_again : (t : ValType) → same_type t t ≡ true
same_type_again I32 = refl
same_type_again I64 = refl

pops_by : (t : ValType) (ts : List ValType) (v : Value) (vs : List Value) (os : List Operand) (b : Bool) → same_type (type_of v) t ≡ b
    → ((k : pop_all false ts (known (types vs)) ≡ Some os) → Popped ts vs os) → then_if (only b (known (types vs))) (pop_all false ts) ≡ Some os → Popped (t ∷ ts) (v ∷ vs) os
pops_by t ts v vs os false e later k = cc
pops_by t ts v vs os true e later k = pops_one t ts v vs os (same_type_is (type_of v) t e) (later k)

pub pops : (takes : List ValType) (vs : List Value) (os : List Operand) → pop_all false takes (known (types vs)) ≡ Some os → Popped takes vs os
pops [] vs os h = record { arguments = []; rest = vs; whole = refl; kinds = refl; left = cc }
pops (t ∷ ts) [] os h = cc
pops (t ∷ ts) (v ∷ vs) os h = pops_by t ts v vs os (same_type (type_of v) t) refl (λ k. pops ts vs os k) h

pub pops_top : (takes : List ValType) (w : Frame) (vs : List Value) (os : List Operand) → w.unreachable ≡ false → w.stack ≡ known (types vs) → pop_all w.unreachable takes w.stack ≡ Some os → Popped takes vs os
pops_top takes w vs os d s h = pops takes vs os (rw (← d, ← s) h)

-- values onto a frame that fits
pub fits_give : (c : Context) (code : List Instr) (vs new : List Value) (ts : List ValType) (ls : List Label) (ws : List Frame) → Fits c code vs ls ws → types new ≡ ts → Fits c code (new ++ vs) ls (give ts ws)
fits_give c code vs new ts ls [] k e = absurd k
fits_give c code vs new ts ls (w ∷ ws) k e =
    let t = top_of c code vs ls w ws k in
    let s : known ts ++ w.stack ≡ known (types (new ++ t.top)) =
    ap (λ x. known ts ++ x) t.kinds ∙ sym (ap known (types_append new t.top) ∙ known_append (types new) (types t.top) ∙ ap (λ x. known x ++ known (types t.top)) e) in
    let whole : (new ++ t.top) ++ t.below ≡ new ++ vs = append_assoc new t.top t.below ∙ ap (λ x. new ++ x) (sym t.whole) in
    subst (λ x. Fits c code x ls (with_stack (known ts ++ w.stack) w ∷ ws)) whole (t.other (new ++ t.top) (with_stack (known ts ++ w.stack) w) t.alive s refl refl refl)

pub drop_next : {A : Type 0} (p : ℕ) (xs rest : List A) (x : A) → drop p xs ≡ x ∷ rest → drop (suc p) xs ≡ rest
drop_next zero [] rest x h = cc
drop_next zero (y ∷ xs) rest x h = cc
drop_next (suc p) [] rest x h = cc
drop_next (suc p) (y ∷ xs) rest x h = drop_next p xs rest x h

drop-nil : {A : Type 0} (k : ℕ) → drop {A = A} k [] ≡ []
drop-nil zero = refl
drop-nil (suc k) = refl

take-nil : {A : Type 0} (k : ℕ) → take {A = A} k [] ≡ []
take-nil zero = refl
take-nil (suc k) = refl

pub drop_on : {A : Type 0} (p k : ℕ) (xs : List A) → drop (p + k) xs ≡ drop k (drop p xs)
drop_on zero k xs = ap (λ x. drop x xs) (zero-add k)
drop_on (suc p) k [] = drop-nil (suc p + k) ∙ sym (drop-nil k)
drop_on (suc p) k (x ∷ xs) = let e : suc p + k ≡ suc (p + k) = omega arith in rw e (drop_on p k xs)

pub walk_on : (c : Context) (n : ℕ) (is : List Instr) (fs gs : List Frame) → walk c (take n is) fs ≡ Some gs → walk c is fs ≡ Some [] → walk c (drop n is) gs ≡ Some []
walk_on c zero is fs gs h k = let e : fs ≡ gs = cc in subst (λ x. walk c is x ≡ Some []) e k
walk_on c (suc n) [] fs gs h k = let e : fs ≡ gs = cc in let e2 : fs ≡ [] = cc in cc
walk_on c (suc n) (i ∷ is) fs gs h k =
    let p = there (step c i fs) (walk c (take n is)) gs h in
    let q = there (step c i fs) (walk c is) [] k in
    let e : q.0 ≡ p.0 = cc in
    walk_on c n is p.0 gs p.2 (subst (λ x. walk c is x ≡ Some []) e q.2)

take_on : {A : Type 0} (p k : ℕ) (xs : List A) → take (p + k) xs ≡ take p xs ++ take k (drop p xs)
take_on zero k xs = ap (λ x. take x xs) (zero-add k)
take_on (suc p) k [] = take-nil (suc p + k) ∙ sym (take-nil k)
take_on (suc p) k (x ∷ xs) = let e : suc p + k ≡ suc (p + k) = omega arith in rw e (ap (λ y. x ∷ y) (take_on p k xs))

walk_both : (c : Context) (xs ys : List Instr) (fs gs hs : List Frame) → walk c xs fs ≡ Some gs → walk c ys gs ≡ Some hs → walk c (xs ++ ys) fs ≡ Some hs
walk_both c [] ys fs gs hs h k = let e : fs ≡ gs = cc in subst (λ x. walk c ys x ≡ Some hs) (sym e) k
walk_both c (i ∷ xs) ys fs gs hs h k =
    let p = there (step c i fs) (walk c xs) gs h in
    ap (λ x. then_if x (walk c (xs ++ ys))) p.1 ∙ walk_both c xs ys p.0 gs hs p.2 k

-- some instructions further
pub stands_on : (c : Context) (code is : List Instr) (place k : ℕ) (ws gs : List Frame) → drop place code ≡ is → Stands c code place ws → walk c (take k is) ws ≡ Some gs → Stands c code (place + k) gs
stands_on c code is place k ws gs d s h =
    let h2 = subst (λ x. walk c (take k x) ws ≡ Some gs) (sym d) h in (
      subst (λ x. walk c x (start c) ≡ Some gs) (sym (take_on place k code)) (walk_both c (take place code) (take k (drop place code)) (start c) ws gs s.0 h2),
      subst (λ x. walk c x gs ≡ Some []) (sym (drop_on place k code)) (walk_on c k (drop place code) ws gs h2 s.1),
    )

-- what stands behind a block that was just entered
pub behind : (c : Context) (code is : List Instr) (place : ℕ) (w : Frame) (ws : List Frame) → drop (suc place) code ≡ is → Stands c code (suc place) (w ∷ ws)
    → (e : ℕ) × (end_from (suc place) is 0 ≡ Some e) × Stands c code (suc e) (give w.result ws)
behind c code is place w ws d h =
    let r = reaches_end c is (suc place) 0 (w ∷ ws) w.label w.result ws (subst (λ x. walk c x (w ∷ ws) ≡ Some []) d h.1) (refl, refl, refl) in
    let s : suc place + suc r.0 ≡ suc (suc place + r.0) = omega arith in
    (suc place + r.0, r.1, subst (λ x. Stands c code x (give w.result ws)) s (stands_on c code is (suc place) (suc r.0) (w ∷ ws) (give w.result ws) d h r.3))

-- and behind its else
pub behind_else : (c : Context) (code is : List Instr) (place turn : ℕ) (w : Frame) (ws : List Frame) → drop (suc place) code ≡ is → Stands c code (suc place) (w ∷ ws)
    → else_from (suc place) is 0 ≡ Some turn → Stands c code (suc turn) (opened Whole w.label w.result ∷ ws)
behind_else c code is place turn w ws d h t =
    let r = reaches_else c is (suc place) 0 (w ∷ ws) w.label w.result ws turn (subst (λ x. walk c x (w ∷ ws) ≡ Some []) d h.1) (refl, refl, refl) t in
    let s : suc place + suc r.0 ≡ suc turn = omega arith in
    subst (λ x. Stands c code x (opened Whole w.label w.result ∷ ws)) s (stands_on c code is (suc place) (suc r.0) (w ∷ ws) (opened Whole w.label w.result ∷ ws) d h r.3)

-- the topmost operands
pub take_top : (a b : List Value) (n : ℕ) → length a ≡ n → take n (a ++ b) ≡ a
take_top a b n h = subst (λ x. take x (a ++ b) ≡ a) h (take-append_seam a b)

pub keep_is : (vs a below : List Value) (h : ℕ) → vs ≡ a ++ below → length below ≡ h → keep h vs ≡ below
keep_is vs a below h e l =
    let s : length vs - h ≡ length a = rw (e, length-append) (omega arith) in
    rw (s, e) (drop-append_seam a below)

pub on_top_is : (n h : ℕ) (vs a b : List Value) (f : List Value → Option Next) (o : Option Next) → vs ≡ a ++ b → length a ≡ n → h ≤ length b → f a ≡ o → on_top n h vs f ≡ o
on_top_is n h vs a b f o e la lb k =
    let s : n + h ≤ length vs = rw (e, length-append) (omega arith) in
    let t : nat_le (n + h) (length vs) ≡ true = le-leb (n + h) (length vs) s in
    let u : take n vs ≡ a = rw e (take_top a b n la) in
    rw (t, u) k

pub found_on : {X : Type 0} (p : Option X) (x : X) (f : X → Option Next) (o : Option Next) → p ≡ Some x → f x ≡ o → found p f ≡ o
found_on p x f o e k = ap (λ y. found y f) e ∙ k

-- operands of these types are there
pub typed_on : (ts : List ValType) (taken rest : List Value) (f : List Value → List Value → Option Next) (o : Option Next) → types taken ≡ ts → f taken rest ≡ o → on_typed ts (taken ++ rest) f ≡ o
typed_on [] [] rest f o e k = k
typed_on [] (v ∷ vs) rest f o e k = cc
typed_on (t ∷ ts) [] rest f o e k = cc
typed_on (t ∷ ts) (v ∷ vs) rest f o e k =
    let h : type_of v ≡ t = cc in
    let l : types vs ≡ ts = cc in
    let s : same_type (type_of v) t ≡ true = ap (λ x. same_type x t) h ∙ same_type_again t in
    ap (λ b. when b (on_typed ts (vs ++ rest) (λ taken below. f (v ∷ taken) below))) s ∙ typed_on ts vs rest (λ taken below. f (v ∷ taken) below) o l k

pub i32_front : (vs : List Value) (ts : List ValType) → types vs ≡ I32 ∷ ts → (n : ℕ) × (rest : List Value) × (vs ≡ value.I32 n ∷ rest) × (types rest ≡ ts)
i32_front [] ts h = cc
i32_front (value.I32 n ∷ vs) ts h = (n, vs, refl, cc)
i32_front (value.I64 n ∷ vs) ts h = cc

pub no_front : (vs : List Value) → types vs ≡ [] → vs ≡ []
no_front [] h = refl
no_front (v ∷ vs) h = cc

pub one_front : (vs : List Value) (t : ValType) → types vs ≡ t ∷ [] → (v : Value) × (vs ≡ v ∷ []) × (type_of v ≡ t)
one_front [] t k = cc
one_front (v ∷ []) t k = (v, refl, cc)
one_front (v ∷ u ∷ vs) t k = cc
