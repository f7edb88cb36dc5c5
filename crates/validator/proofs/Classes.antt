-- One class in the place of another.
use Rattle.std.proofs.Common.{◌≡◌, ℕ, Bool, ◌++◌, List, [], ◌∷◌, Option, Some, None, refl, sym, ◌∙◌, ap, subst}
use Rattle.std.specs.declared.result.Result.{Result}
use Rattle.std.specs.declared.result.Result.TheVariants.{Ok, Err}
use Rattle.std.specs.Result.{OnOk}
use Rattle.std.specs.Prelude.{slice_get, option_map}
use Rattle.wasm_types.specs.declared.value.ValType.{ValType}
use Rattle.validator.specs.declared.stacks.OpenBlock.{OpenBlock}
use Rattle.validator.specs.declared.stacks.TypeStacks.{TypeStacks}
use Rattle.validator.specs.Table.{Class, Wrong, Leaves, if_some, if_true, all_take, table_class, seq}
use Rattle.validator.specs.Context.{Context}
use Rattle.wasm_types.specs.declared.value.ValType.TheVariants.{I32}
use Rattle.validator.specs.Walk.{Frame, step_by, labels_of, at_frames}
use Rattle.validator.specs.Standing.{Stand, Goes, Stops}

abbrev pub Same : TypeStacks → (List Frame → Class) → (List Frame → Class) → Type 0
Same s class other = (f : Frame) (fs : List Frame) → Stand (f ∷ fs) s → class (f ∷ fs) ≡ other (f ∷ fs)

pub goes_as : (class other : List Frame → Class) (s t : TypeStacks) → Same s class other → Goes other s t → Goes class s t
goes_as class other s t e g f fs st = subst (λ x. (gs : List Frame) × (step_by x f fs ≡ Some gs) × Stand gs t) (sym (e f fs st)) (g f fs st)

pub stops_as : (class other : List Frame → Class) (s : TypeStacks) → Same s class other → Stops other s → Stops class s
stops_as class other s e g f fs st = subst (λ x. step_by x f fs ≡ None) (sym (e f fs st)) (g f fs st)

pub stops_wrong : (class : List Frame → Class) (s : TypeStacks) → Same s class (λ _. Wrong) → Stops class s
stops_wrong class s e f fs st = subst (λ x. step_by x f fs ≡ None) (sym (e f fs st)) refl

abbrev pub AtLabel : TypeStacks → ℕ → Option OpenBlock → Type 0
AtLabel s l r = (fs : List Frame) → Stand fs s → option_map (λ (b : OpenBlock). seq b.label) r ≡ slice_get (labels_of fs) l

-- the class of a label that is there
pub label_class : (k : List ValType → Class) (s : TypeStacks) (l : ℕ) (r : Option OpenBlock) (b : OpenBlock) (t : Option ValType) → AtLabel s l r → r ≡ Some b → b.label ≡ t
    → Same s (λ fs. if_some (slice_get (labels_of fs) l) k) (λ _. k (seq t))
label_class k s l r b t at e q f fs st =
    ap (λ o. if_some o k) (sym (at (f ∷ fs) st)) ∙ ap (λ o. if_some (option_map (λ (b : OpenBlock). seq b.label) o) k) e ∙ ap (λ x. k (seq x)) q

pub no_label_class : (k : List ValType → Class) (s : TypeStacks) (l : ℕ) (r : Option OpenBlock) → AtLabel s l r → r ≡ None → Same s (λ fs. if_some (slice_get (labels_of fs) l) k) (λ _. Wrong)
no_label_class k s l r at e f fs st =
    ap (λ o. if_some o k) (sym (at (f ∷ fs) st)) ∙ ap (λ o. if_some (option_map (λ (b : OpenBlock). seq b.label) o) k) e

pub ok_as : {A E : Type 0} (r : Result A E) (class other : List Frame → Class) (s t : TypeStacks) → Same s class other → OnOk r (Goes other s t) → OnOk r (Goes class s t)
ok_as (Ok x) class other s t e g = goes_as class other s t e g
ok_as (Err x) class other s t e g = g

-- a branch table whose labels are there and agree
pub table_found : (c : Context) (labels : Option (List ℕ)) (l : List ℕ) (s : TypeStacks) (default : ℕ) (r : Option OpenBlock) (b : OpenBlock) (all : Bool) → labels ≡ Some l → AtLabel s default r → r ≡ Some b
    → ((fs : List Frame) → Stand fs s → all ≡ all_take (labels_of fs) (seq b.label) l)
    → Same s (λ fs. table_class (at_frames c fs) labels default) (λ _. if_true all (Leaves (seq b.label ++ I32 ∷ [])))
table_found c labels l s default r b all e at q k f fs st =
    ap (λ o. table_class (at_frames c (f ∷ fs)) o default) e
    ∙ label_class (λ takes. if_true (all_take (labels_of (f ∷ fs)) takes l) (Leaves (takes ++ I32 ∷ []))) s default r b b.label at q refl f fs st
    ∙ ap (λ x. if_true x (Leaves (seq b.label ++ I32 ∷ []))) (sym (k (f ∷ fs) st))

pub table_judged : (c : Context) (labels : Option (List ℕ)) (l : List ℕ) (s : TypeStacks) (default : ℕ) (r : Option OpenBlock) (b : OpenBlock) (all judged : Bool) → labels ≡ Some l → AtLabel s default r → r ≡ Some b
    → ((fs : List Frame) → Stand fs s → all ≡ all_take (labels_of fs) (seq b.label) l) → all ≡ judged
    → Same s (λ fs. table_class (at_frames c fs) labels default) (λ _. if_true judged (Leaves (seq b.label ++ I32 ∷ [])))
table_judged c labels l s default r b all judged e at q k j f fs st =
    table_found c labels l s default r b all e at q k f fs st ∙ ap (λ x. if_true x (Leaves (seq b.label ++ I32 ∷ []))) j

pub table_without : (c : Context) (labels : Option (List ℕ)) (l : List ℕ) (s : TypeStacks) (default : ℕ) (r : Option OpenBlock) → labels ≡ Some l → AtLabel s default r → r ≡ None
    → Same s (λ fs. table_class (at_frames c fs) labels default) (λ _. Wrong)
table_without c labels l s default r e at q f fs st =
    ap (λ o. table_class (at_frames c (f ∷ fs)) o default) e
    ∙ no_label_class (λ takes. if_true (all_take (labels_of (f ∷ fs)) takes l) (Leaves (takes ++ I32 ∷ []))) s default r at q f fs st
