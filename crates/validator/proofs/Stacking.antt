-- What the validator's stacks do, in terms of frames.
use Rattle.std.proofs.Common.{◌≡◌, ℕ, ◌-◌, ◌<◌, ◌≤◌, Bool, true, false, List, [], ◌∷◌, ◌++◌, Option, Some, None, refl, sym, ◌∙◌, ap, subst, reverse, length, take, map, get_or, set, arith, append_assoc, length-append}
use Rattle.std.proofs.lemmas.Bool.Decides.{Decides-eqb}
use Rattle.std.specs.Prelude.{◌==◌, slice_get, option_map, MatchOption}
use Rattle.std.proofs.lemmas.List.{reverse-append, reverse-reverse, length-reverse, get_or-reverse}
use Rattle.std.proofs.lemmas.Option.{slice_get-map, slice_get-get_or, slice_get_past}
use Rattle.std.proofs.Math.Seq.{take-append_seam}
use Rattle.wasm_types.specs.declared.value.ValType.{ValType}
use Rattle.wasm_types.specs.declared.value.ValType.TheVariants.{I32}
use Rattle.wasm_types.specs.declared.nesting.Enclosing.{Enclosing}
use Rattle.wasm_types.specs.declared.nesting.Enclosing.TheVariants.{FirstArm, Whole}
use Rattle.validator.specs.declared.stacks.OpenBlock.{OpenBlock}
use Rattle.validator.specs.declared.stacks.TypeStacks.{TypeStacks}
use Rattle.validator.specs.Table.{Fixed, Discards, Selects, Leaves, Enters, Turning, Ending, seq}
use Rattle.validator.specs.Walk.{Operand, Frame, with_stack, made_unreachable, opened, then_if, only, pop_one, pop_all, pop_any, meet, known, closed, give, may_end, may_turn, both, select_by, step_by, labels_of}
use Rattle.validator.specs.Standing.{flat, Shape, shape_of, shape, shapes, Stands, Stand, IsInnermost, Pops, PopsAny, TakesResult}

abbrev pub Inner : TypeStacks → Option OpenBlock → Type 0
Inner s r = (fs : List Frame) → Stand fs s → IsInnermost r fs

pub no_innermost : (s : TypeStacks) (r : Option OpenBlock) (f : Frame) (fs : List Frame) → Inner s r → r ≡ None → Stand (f ∷ fs) s → ⊥
no_innermost s r f fs k e st = subst (λ x. IsInnermost x (f ∷ fs)) e (k (f ∷ fs) st)

-- the innermost block and the first frame agree
record Agrees (b : OpenBlock) (f : Frame) (fs : List Frame) : Type 0 where
  enclosing : b.enclosing ≡ f.enclosing
  label : seq b.label ≡ f.label
  result : seq b.result ≡ f.result
  height : length (flat fs) ≡ b.height
  unreachable : b.unreachable ≡ f.unreachable

agreed : (s : TypeStacks) (r : Option OpenBlock) (b : OpenBlock) (f : Frame) (fs : List Frame) → Inner s r → r ≡ Some b → Stand (f ∷ fs) s → Agrees b f fs
agreed s r b f fs k e st =
    let q : shape_of b ≡ shape f (length (flat fs)) = subst (λ x. IsInnermost x (f ∷ fs)) e (k (f ∷ fs) st) in
    record {
      enclosing = ap (λ x. x.enclosing) q;
      label = ap (λ x. x.label) q;
      result = ap (λ x. x.result) q;
      height = sym (ap (λ x. x.height) q);
      unreachable = ap (λ x. x.unreachable) q;
    }

-- the operands of the first frame are popped
popped : (pop : Bool → List Operand → Option (List Operand)) (b : OpenBlock) (f : Frame) (fs : List Frame) (old mid : List Operand) (got : Bool) → Agrees b f fs → reverse old ≡ f.stack ++ flat fs
    → Pops (pop b.unreachable) b.height got old mid → got ≡ true → (left : List Operand) × (pop f.unreachable f.stack ≡ Some left) × (reverse mid ≡ left ++ flat fs)
popped pop b f fs old mid got a e p g =
    let q = subst (λ x. Pops (pop b.unreachable) b.height x old mid) g p in
    let r = q f.stack (flat fs) e a.height in
    (r.0, subst (λ x. pop x f.stack ≡ Some r.0) a.unreachable r.1, r.2)

unpopped : (pop : Bool → List Operand → Option (List Operand)) (b : OpenBlock) (f : Frame) (fs : List Frame) (old mid : List Operand) (got : Bool) → Agrees b f fs → reverse old ≡ f.stack ++ flat fs
    → Pops (pop b.unreachable) b.height got old mid → got ≡ false → pop f.unreachable f.stack ≡ None
unpopped pop b f fs old mid got a e p g =
    let q = subst (λ x. Pops (pop b.unreachable) b.height x old mid) g p in
    subst (λ x. pop x f.stack ≡ None) a.unreachable (q f.stack (flat fs) e a.height)

-- the last block of a list
last_block : (blocks : List OpenBlock) (s : Shape) (ss : List Shape) → map shape_of (reverse blocks) ≡ s ∷ ss
    → (rest : List OpenBlock) × (last : OpenBlock) × (blocks ≡ reverse rest ++ last ∷ []) × (map shape_of rest ≡ ss)
last_block blocks s ss e = by (reverse blocks) refl e
  where
    by : (rs : List OpenBlock) → reverse blocks ≡ rs → map shape_of rs ≡ s ∷ ss → (rest : List OpenBlock) × (last : OpenBlock) × (blocks ≡ reverse rest ++ last ∷ []) × (map shape_of rest ≡ ss)
    by [] q h = cc
    by (last ∷ rest) q h =
        let t : map shape_of rest ≡ ss = cc in
        (rest, last, sym (reverse-reverse blocks) ∙ ap reverse q ∙ reverse-append (last ∷ []) rest, t)

-- another block in the place of the last
set_shapes : (old new : List OpenBlock) (block : OpenBlock) (s t : Shape) (ss : List Shape) → map shape_of (reverse old) ≡ s ∷ ss
    → ((front : List OpenBlock) (last : OpenBlock) → old ≡ front ++ last ∷ [] → new ≡ front ++ block ∷ []) → shape_of block ≡ t → map shape_of (reverse new) ≡ t ∷ ss
set_shapes old new block s t ss e k q =
    let l = last_block old s ss e in
    let n = k (reverse l.0) l.1 l.2 in
    ap (λ x. map shape_of (reverse x)) n ∙ ap (map shape_of) (reverse-append (reverse l.0) (block ∷ []) ∙ ap (λ x. block ∷ x) (reverse-reverse l.0))
    ∙ ap (λ x. x ∷ map shape_of l.0) q ∙ ap (λ x. t ∷ x) l.3

put_on : (ts : List ValType) (left below new mid : List Operand) → reverse new ≡ known ts ++ reverse mid → reverse mid ≡ left ++ below → reverse new ≡ (known ts ++ left) ++ below
put_on ts left below new mid e q = e ∙ ap (λ x. known ts ++ x) q ∙ sym (append_assoc (known ts) left below)

pub fixed_goes : (takes gives : List ValType) (s : TypeStacks) (r : Option OpenBlock) (b : OpenBlock) (mid new : List Operand) (got : Bool) → Inner s r → r ≡ Some b
    → Pops (pop_all b.unreachable (reverse takes)) b.height got s.operands.items mid → got ≡ true → reverse new ≡ known (reverse gives) ++ reverse mid
    → (f : Frame) (fs : List Frame) → Stand (f ∷ fs) s → (gs : List Frame) × (step_by (Fixed takes gives) f fs ≡ Some gs) × Stands gs new s.blocks.items
fixed_goes takes gives s r b mid new got k e p g put f fs st =
    let q = popped (λ u. pop_all u (reverse takes)) b f fs s.operands.items mid got (agreed s r b f fs k e st) st.operands_are p g in (
      with_stack (known (reverse gives) ++ q.0) f ∷ fs,
      ap (λ o. then_if o (λ os. Some (with_stack (known (reverse gives) ++ os) f ∷ fs))) q.1,
      record { operands_are = put_on (reverse gives) q.0 (flat fs) new mid put q.2; blocks_are = st.blocks_are },
    )

-- what can't be popped stops each instruction that takes it
pub takes_stop : {Y : Type 0} (takes : List ValType) (later : Frame → List Frame → List Operand → Option Y) (s : TypeStacks) (r : Option OpenBlock) (b : OpenBlock) (mid : List Operand) (got : Bool) → Inner s r → r ≡ Some b
    → Pops (pop_all b.unreachable (reverse takes)) b.height got s.operands.items mid → got ≡ false
    → (f : Frame) (fs : List Frame) → Stand (f ∷ fs) s → then_if (pop_all f.unreachable (reverse takes) f.stack) (later f fs) ≡ None
takes_stop takes later s r b mid got k e p g f fs st =
    ap (λ o. then_if o (later f fs)) (unpopped (λ u. pop_all u (reverse takes)) b f fs s.operands.items mid got (agreed s r b f fs k e st) st.operands_are p g)

pub leave_goes : (takes : List ValType) (s : TypeStacks) (r : Option OpenBlock) (b block : OpenBlock) (mid new : List Operand) (blocks : List OpenBlock) (got : Bool) → Inner s r → r ≡ Some b
    → Pops (pop_all b.unreachable (reverse takes)) b.height got s.operands.items mid → got ≡ true → new ≡ take b.height mid
    → ((front : List OpenBlock) (last : OpenBlock) → s.blocks.items ≡ front ++ last ∷ [] → blocks ≡ front ++ block ∷ [])
    → block ≡ record { enclosing = b.enclosing; label = b.label; result = b.result; height = b.height; unreachable = true }
    → (f : Frame) (fs : List Frame) → Stand (f ∷ fs) s → (gs : List Frame) × (step_by (Leaves takes) f fs ≡ Some gs) × Stands gs new blocks
leave_goes takes s r b block mid new blocks got k e p g cut set is f fs st =
    let a = agreed s r b f fs k e st in
    let q = popped (λ u. pop_all u (reverse takes)) b f fs s.operands.items mid got a st.operands_are p g in
    let whole : mid ≡ reverse (flat fs) ++ reverse q.0 = sym (reverse-reverse mid) ∙ ap reverse q.2 ∙ reverse-append q.0 (flat fs) in
    let n : b.height ≡ length (reverse (flat fs)) = sym a.height ∙ sym (length-reverse (flat fs)) in
    let left : new ≡ reverse (flat fs) = cut ∙ ap (take b.height) whole ∙ ap (λ x. take x (reverse (flat fs) ++ reverse q.0)) n ∙ take-append_seam (reverse (flat fs)) (reverse q.0) in
    let t : shape_of block ≡ shape (made_unreachable f) (length (flat fs)) = ap shape_of is ∙ same a.enclosing a.label a.result (sym a.height) in (
      made_unreachable f ∷ fs,
      ap (λ o. then_if o (λ os. Some (made_unreachable f ∷ fs))) q.1,
      record { operands_are = ap reverse left ∙ reverse-reverse (flat fs); blocks_are = set_shapes s.blocks.items blocks block (shape f (length (flat fs))) (shape (made_unreachable f) (length (flat fs))) (shapes fs) st.blocks_are set t },
    )
  where
    same : {x y : Enclosing} {l m t u : List ValType} {n o : ℕ} → x ≡ y → l ≡ m → t ≡ u → n ≡ o
        → ◌≡◌ {A = Shape} (record { enclosing = x; label = l; result = t; height = n; unreachable = true }) (record { enclosing = y; label = m; result = u; height = o; unreachable = true })
    same ex el et en = cc

pub enter_goes : (takes : List ValType) (enclosing : Enclosing) (label leaves : Option ValType) (s : TypeStacks) (r : Option OpenBlock) (b block : OpenBlock) (mid : List Operand) (blocks : List OpenBlock) (got : Bool) → Inner s r → r ≡ Some b
    → Pops (pop_all b.unreachable (reverse takes)) b.height got s.operands.items mid → got ≡ true → blocks ≡ s.blocks.items ++ block ∷ []
    → block ≡ record { enclosing = enclosing; label = label; result = leaves; height = length mid; unreachable = false }
    → (f : Frame) (fs : List Frame) → Stand (f ∷ fs) s → (gs : List Frame) × (step_by (Enters takes enclosing (seq label) (seq leaves)) f fs ≡ Some gs) × Stands gs mid blocks
enter_goes takes enclosing label leaves s r b block mid blocks got k e p g push is f fs st =
    let q = popped (λ u. pop_all u (reverse takes)) b f fs s.operands.items mid got (agreed s r b f fs k e st) st.operands_are p g in
    let h = with_stack q.0 f in
    let n : length mid ≡ length (q.0 ++ flat fs) = sym (length-reverse mid) ∙ ap length q.2 in
    let t : shape_of block ≡ shape (opened enclosing (seq label) (seq leaves)) (length (q.0 ++ flat fs)) = ap shape_of is ∙ ap (shape (opened enclosing (seq label) (seq leaves))) n in (
      opened enclosing (seq label) (seq leaves) ∷ h ∷ fs,
      ap (λ o. then_if o (λ os. Some (opened enclosing (seq label) (seq leaves) ∷ with_stack os f ∷ fs))) q.1,
      record {
        operands_are = q.2;
        blocks_are = ap (λ x. map shape_of (reverse x)) push ∙ ap (map shape_of) (reverse-append s.blocks.items (block ∷ [])) ∙ ap (λ x. x ∷ map shape_of (reverse s.blocks.items)) t
            ∙ ap (λ x. shape (opened enclosing (seq label) (seq leaves)) (length (q.0 ++ flat fs)) ∷ x) st.blocks_are;
      },
    )

-- the result of the innermost block
closed_there : (b : OpenBlock) (f : Frame) (fs : List Frame) (old mid : List Operand) (got : Bool) → Agrees b f fs → reverse old ≡ f.stack ++ flat fs → TakesResult b got old mid
    → (closed (pop_all f.unreachable f.result f.stack) ≡ got) × (got ≡ true → reverse mid ≡ flat fs)
closed_there b f fs old mid got a e p =
    let r = p f.stack (flat fs) e a.height in
    (subst (λ x. closed (pop_all x f.result f.stack) ≡ got) a.unreachable (subst (λ x. closed (pop_all b.unreachable x f.stack) ≡ got) a.result r.0), r.1)

pub turn_goes : (s : TypeStacks) (r : Option OpenBlock) (b block : OpenBlock) (mid : List Operand) (blocks : List OpenBlock) (got : Bool) → Inner s r → r ≡ Some b → b.enclosing ≡ FirstArm
    → TakesResult b got s.operands.items mid → got ≡ true
    → ((front : List OpenBlock) (last : OpenBlock) → s.blocks.items ≡ front ++ last ∷ [] → blocks ≡ front ++ block ∷ [])
    → block ≡ record { enclosing = Whole; label = b.label; result = b.result; height = b.height; unreachable = false }
    → (f : Frame) (fs : List Frame) → Stand (f ∷ fs) s → (gs : List Frame) × (step_by Turning f fs ≡ Some gs) × Stands gs mid blocks
turn_goes s r b block mid blocks got k e en p g set is f fs st =
    let a = agreed s r b f fs k e st in
    let c = closed_there b f fs s.operands.items mid got a st.operands_are p in
    let t : shape_of block ≡ shape (opened Whole f.label f.result) (length (flat fs)) = ap shape_of is ∙ same a.label a.result (sym a.height) in (
      opened Whole f.label f.result ∷ fs,
      ap (λ x. only (both (may_turn x) (closed (pop_all f.unreachable f.result f.stack))) (opened Whole f.label f.result ∷ fs)) (sym a.enclosing ∙ en)
          ∙ ap (λ x. only x (opened Whole f.label f.result ∷ fs)) (c.0 ∙ g),
      record { operands_are = c.1 g; blocks_are = set_shapes s.blocks.items blocks block (shape f (length (flat fs))) (shape (opened Whole f.label f.result) (length (flat fs))) (shapes fs) st.blocks_are set t },
    )
  where
    same : {l m t u : List ValType} {n o : ℕ} → l ≡ m → t ≡ u → n ≡ o
        → ◌≡◌ {A = Shape} (record { enclosing = Whole; label = l; result = t; height = n; unreachable = false }) (record { enclosing = Whole; label = m; result = u; height = o; unreachable = false })
    same el et en = cc

pub turn_in_whole : (s : TypeStacks) (r : Option OpenBlock) (b : OpenBlock) → Inner s r → r ≡ Some b → b.enclosing ≡ Whole → (f : Frame) (fs : List Frame) → Stand (f ∷ fs) s → step_by Turning f fs ≡ None
turn_in_whole s r b k e en f fs st =
    let a = agreed s r b f fs k e st in
    ap (λ x. only (both (may_turn x) (closed (pop_all f.unreachable f.result f.stack))) (opened Whole f.label f.result ∷ fs)) (sym a.enclosing ∙ en)

both_false : (a : Bool) → both a false ≡ false
both_false true = refl
both_false false = refl

pub not_closed : {Y : Type 0} (may : Frame → Bool) (y : Frame → List Frame → Y) (s : TypeStacks) (r : Option OpenBlock) (b : OpenBlock) (mid : List Operand) (got : Bool) → Inner s r → r ≡ Some b
    → TakesResult b got s.operands.items mid → got ≡ false
    → (f : Frame) (fs : List Frame) → Stand (f ∷ fs) s → only (both (may f) (closed (pop_all f.unreachable f.result f.stack))) (y f fs) ≡ None
not_closed may y s r b mid got k e p g f fs st =
    let c = closed_there b f fs s.operands.items mid got (agreed s r b f fs k e st) st.operands_are p in
    ap (λ x. only (both (may f) x) (y f fs)) (c.0 ∙ g) ∙ ap (λ x. only x (y f fs)) (both_false (may f))

may_end_there : (b : OpenBlock) (f : Frame) (fs : List Frame) (may : Bool) → Agrees b f fs → may ≡ may_end b.enclosing (seq b.result) → may_end f.enclosing f.result ≡ may
may_end_there b f fs may a m = sym (m ∙ ap (λ x. may_end x (seq b.result)) a.enclosing ∙ ap (may_end f.enclosing) a.result)

pub may_not_end : (s : TypeStacks) (r : Option OpenBlock) (b : OpenBlock) (may : Bool) → Inner s r → r ≡ Some b → may ≡ may_end b.enclosing (seq b.result) → may ≡ false
    → (f : Frame) (fs : List Frame) → Stand (f ∷ fs) s → step_by Ending f fs ≡ None
may_not_end s r b may k e m g f fs st =
    ap (λ x. only (both x (closed (pop_all f.unreachable f.result f.stack))) (give f.result fs)) (may_end_there b f fs may (agreed s r b f fs k e st) m ∙ g)

-- the blocks behind an `end`
popped_blocks : (old new : List OpenBlock) (s : Shape) (ss : List Shape) → map shape_of (reverse old) ≡ s ∷ ss → new ≡ take (length old - 1) old → map shape_of (reverse new) ≡ ss
popped_blocks old new s ss e p =
    let l = last_block old s ss e in
    let n : length old - 1 ≡ length (reverse l.0) = omega (arith, ap length l.2, length-append (reverse l.0) (l.1 ∷ [])) in
    let q : new ≡ reverse l.0 = p ∙ ap (λ x. take x old) n ∙ ap (take (length (reverse l.0))) l.2 ∙ take-append_seam (reverse l.0) (l.1 ∷ []) in
    ap (λ x. map shape_of (reverse x)) q ∙ ap (map shape_of) (reverse-reverse l.0) ∙ l.3

abbrev pub Ended : TypeStacks → Option OpenBlock → OpenBlock → Bool → Bool → List Operand → List OpenBlock → Type 0
Ended s r b may got mid blocks = Inner s r × (r ≡ Some b) × (may ≡ may_end b.enclosing (seq b.result)) × (may ≡ true) × TakesResult b got s.operands.items mid × (got ≡ true) × (blocks ≡ take (length s.blocks.items - 1) s.blocks.items)

end_steps : (s : TypeStacks) (r : Option OpenBlock) (b : OpenBlock) (may got : Bool) (mid : List Operand) (blocks : List OpenBlock) → Ended s r b may got mid blocks → (f : Frame) (fs : List Frame) → Stand (f ∷ fs) s
    → (step_by Ending f fs ≡ Some (give f.result fs)) × (reverse mid ≡ flat fs) × (map shape_of (reverse blocks) ≡ shapes fs) × (seq b.result ≡ f.result)
end_steps s r b may got mid blocks k f fs st =
    let a = agreed s r b f fs k.0 k.1 st in
    let c = closed_there b f fs s.operands.items mid got a st.operands_are k.4 in (
      ap (λ x. only (both x (closed (pop_all f.unreachable f.result f.stack))) (give f.result fs)) (may_end_there b f fs may a k.2 ∙ k.3)
          ∙ ap (λ x. only x (give f.result fs)) (c.0 ∙ k.5),
      c.1 k.5,
      popped_blocks s.blocks.items blocks (shape f (length (flat fs))) (shapes fs) st.blocks_are k.6,
      a.result,
    )

-- no block is left
pub end_of_all : (s : TypeStacks) (r : Option OpenBlock) (b : OpenBlock) (may got : Bool) (mid : List Operand) (blocks : List OpenBlock) → Ended s r b may got mid blocks → length blocks ≡ 0
    → (f : Frame) (fs : List Frame) → Stand (f ∷ fs) s → (gs : List Frame) × (step_by Ending f fs ≡ Some gs) × Stands gs mid blocks
end_of_all s r b may got mid blocks k z f fs st = by fs (end_steps s r b may got mid blocks k f fs st)
  where
    by : (fs : List Frame) → (step_by Ending f fs ≡ Some (give f.result fs)) × (reverse mid ≡ flat fs) × (map shape_of (reverse blocks) ≡ shapes fs) × (seq b.result ≡ f.result)
        → (gs : List Frame) × (step_by Ending f fs ≡ Some gs) × Stands gs mid blocks
    by [] e = ([], e.0, record { operands_are = e.1; blocks_are = e.2 })
    by (g ∷ gs) e = absurd (some_left blocks z e.2)
      where
        some_left : (bs : List OpenBlock) → length bs ≡ 0 → map shape_of (reverse bs) ≡ shapes (g ∷ gs) → ⊥
        some_left [] z e = cc
        some_left (b ∷ bs) z e = absurd (omega arith)

-- a block is left, which gets the result
pub end_of_one : (s : TypeStacks) (r : Option OpenBlock) (b : OpenBlock) (may got : Bool) (mid new : List Operand) (blocks : List OpenBlock) → Ended s r b may got mid blocks → (length blocks ≡ 0 → ⊥)
    → reverse new ≡ known (seq b.result) ++ reverse mid
    → (f : Frame) (fs : List Frame) → Stand (f ∷ fs) s → (gs : List Frame) × (step_by Ending f fs ≡ Some gs) × Stands gs new blocks
end_of_one s r b may got mid new blocks k z put f fs st = by fs (end_steps s r b may got mid blocks k f fs st)
  where
    by : (fs : List Frame) → (step_by Ending f fs ≡ Some (give f.result fs)) × (reverse mid ≡ flat fs) × (map shape_of (reverse blocks) ≡ shapes fs) × (seq b.result ≡ f.result)
        → (gs : List Frame) × (step_by Ending f fs ≡ Some gs) × Stands gs new blocks
    by [] e = absurd (z (none_left (reverse blocks) e.2))
      where
        none_left : (bs : List OpenBlock) → map shape_of bs ≡ [] → length blocks ≡ 0
        none_left bs q = omega (arith, length-reverse blocks, by_length (reverse blocks) e.2)
          where
            by_length : (bs : List OpenBlock) → map shape_of bs ≡ [] → length bs ≡ 0
            by_length [] q = refl
            by_length (b ∷ bs) q = cc
    by (g ∷ gs) e = (
      give f.result (g ∷ gs),
      e.0,
      record {
        operands_are = put ∙ ap (λ x. known x ++ reverse mid) e.3 ∙ ap (λ x. known f.result ++ x) e.1 ∙ sym (append_assoc (known f.result) g.stack (flat gs));
        blocks_are = e.2;
      },
    )

-- an operand of any type
any_there : (b : OpenBlock) (f : Frame) (fs : List Frame) (os old mid : List Operand) (popped : Option Operand) → Agrees b f fs → reverse old ≡ os ++ flat fs → PopsAny b.unreachable b.height popped old mid
    → MatchOption popped (pop_any f.unreachable os ≡ None) (λ o. (left : List Operand) × (pop_any f.unreachable os ≡ Some (o, left)) × (reverse mid ≡ left ++ flat fs))
any_there b f fs os old mid popped a e p =
    subst (λ u. MatchOption popped (pop_any u os ≡ None) (λ o. (left : List Operand) × (pop_any u os ≡ Some (o, left)) × (reverse mid ≡ left ++ flat fs))) a.unreachable (p os (flat fs) e a.height)

any_some : (b : OpenBlock) (f : Frame) (fs : List Frame) (os old mid : List Operand) (popped : Option Operand) (o : Operand) → Agrees b f fs → reverse old ≡ os ++ flat fs → PopsAny b.unreachable b.height popped old mid → popped ≡ Some o
    → (left : List Operand) × (pop_any f.unreachable os ≡ Some (o, left)) × (reverse mid ≡ left ++ flat fs)
any_some b f fs os old mid popped o a e p q = any_there b f fs os old mid (Some o) a e (subst (λ x. PopsAny b.unreachable b.height x old mid) q p)

any_none : (b : OpenBlock) (f : Frame) (fs : List Frame) (os old mid : List Operand) (popped : Option Operand) → Agrees b f fs → reverse old ≡ os ++ flat fs → PopsAny b.unreachable b.height popped old mid → popped ≡ None
    → pop_any f.unreachable os ≡ None
any_none b f fs os old mid popped a e p q = any_there b f fs os old mid None a e (subst (λ x. PopsAny b.unreachable b.height x old mid) q p)

pub discard_goes : (s : TypeStacks) (r : Option OpenBlock) (b : OpenBlock) (mid : List Operand) (popped : Option Operand) (o : Operand) → Inner s r → r ≡ Some b → PopsAny b.unreachable b.height popped s.operands.items mid → popped ≡ Some o
    → (f : Frame) (fs : List Frame) → Stand (f ∷ fs) s → (gs : List Frame) × (step_by Discards f fs ≡ Some gs) × Stands gs mid s.blocks.items
discard_goes s r b mid popped o k e p q f fs st =
    let d = any_some b f fs f.stack s.operands.items mid popped o (agreed s r b f fs k e st) st.operands_are p q in
    (with_stack d.0 f ∷ fs, ap (λ x. then_if x (λ y. Some (with_stack y.1 f ∷ fs))) d.1, record { operands_are = d.2; blocks_are = st.blocks_are })

pub discard_stops : (s : TypeStacks) (r : Option OpenBlock) (b : OpenBlock) (mid : List Operand) (popped : Option Operand) → Inner s r → r ≡ Some b → PopsAny b.unreachable b.height popped s.operands.items mid → popped ≡ None
    → (f : Frame) (fs : List Frame) → Stand (f ∷ fs) s → step_by Discards f fs ≡ None
discard_stops s r b mid popped k e p q f fs st =
    ap (λ x. then_if x (λ y. Some (with_stack y.1 f ∷ fs))) (any_none b f fs f.stack s.operands.items mid popped (agreed s r b f fs k e st) st.operands_are p q)

-- what `select` has taken
abbrev pub Tested : TypeStacks → Option OpenBlock → OpenBlock → Bool → List Operand → Type 0
Tested s r b got one = Inner s r × (r ≡ Some b) × Pops (pop_one b.unreachable I32) b.height got s.operands.items one × (got ≡ true)

abbrev select_from : Frame → List Frame → Option (List Operand) → Option (List Frame)
select_from f fs o = then_if o (λ left. Some (with_stack left f ∷ fs))

tested : (s : TypeStacks) (r : Option OpenBlock) (b : OpenBlock) (got : Bool) (one : List Operand) → Tested s r b got one → (f : Frame) (fs : List Frame) → Stand (f ∷ fs) s
    → (os : List Operand) × (step_by Selects f fs ≡ select_from f fs (select_by f.unreachable os)) × (reverse one ≡ os ++ flat fs) × Agrees b f fs
tested s r b got one t f fs st =
    let a = agreed s r b f fs t.0 t.1 st in
    let p = popped (λ u. pop_one u I32) b f fs s.operands.items one got a st.operands_are t.2 t.3 in
    (p.0, ap (λ x. then_if x (λ os. select_from f fs (select_by f.unreachable os))) p.1, p.2, a)

pub select_untested : (s : TypeStacks) (r : Option OpenBlock) (b : OpenBlock) (got : Bool) (one : List Operand) → Inner s r → r ≡ Some b → Pops (pop_one b.unreachable I32) b.height got s.operands.items one → got ≡ false
    → (f : Frame) (fs : List Frame) → Stand (f ∷ fs) s → step_by Selects f fs ≡ None
select_untested s r b got one k e p g f fs st =
    ap (λ x. then_if x (λ os. select_from f fs (select_by f.unreachable os))) (unpopped (λ u. pop_one u I32) b f fs s.operands.items one got (agreed s r b f fs k e st) st.operands_are p g)

pub select_without_second : (s : TypeStacks) (r : Option OpenBlock) (b : OpenBlock) (got : Bool) (one two : List Operand) (second : Option Operand) → Tested s r b got one → PopsAny b.unreachable b.height second one two → second ≡ None
    → (f : Frame) (fs : List Frame) → Stand (f ∷ fs) s → step_by Selects f fs ≡ None
select_without_second s r b got one two second t p q f fs st =
    let d = tested s r b got one t f fs st in
    d.1 ∙ ap (λ x. select_from f fs (then_if x (λ p. then_if (pop_any f.unreachable p.1) (λ q. then_if (meet p.0 q.0) (λ o. Some (o ∷ q.1)))))) (any_none b f fs d.0 one two second d.3 d.2 p q)

pub select_without_first : (s : TypeStacks) (r : Option OpenBlock) (b : OpenBlock) (got : Bool) (one two three : List Operand) (second first : Option Operand) (o : Operand) → Tested s r b got one
    → PopsAny b.unreachable b.height second one two → second ≡ Some o → PopsAny b.unreachable b.height first two three → first ≡ None
    → (f : Frame) (fs : List Frame) → Stand (f ∷ fs) s → step_by Selects f fs ≡ None
select_without_first s r b got one two three second first o t p q p2 q2 f fs st =
    let d = tested s r b got one t f fs st in
    let x = any_some b f fs d.0 one two second o d.3 d.2 p q in
    d.1 ∙ ap (λ x. select_from f fs (then_if x (λ p. then_if (pop_any f.unreachable p.1) (λ q. then_if (meet p.0 q.0) (λ o. Some (o ∷ q.1)))))) x.1
    ∙ ap (λ x. select_from f fs (then_if x (λ q. then_if (meet o q.0) (λ o. Some (o ∷ q.1))))) (any_none b f fs x.0 two three first d.3 x.2 p2 q2)

pub select_of_two : (s : TypeStacks) (r : Option OpenBlock) (b : OpenBlock) (got : Bool) (one two three : List Operand) (second first met : Option Operand) (o v : Operand) → Tested s r b got one
    → PopsAny b.unreachable b.height second one two → second ≡ Some o → PopsAny b.unreachable b.height first two three → first ≡ Some v → met ≡ meet o v → met ≡ None
    → (f : Frame) (fs : List Frame) → Stand (f ∷ fs) s → step_by Selects f fs ≡ None
select_of_two s r b got one two three second first met o v t p q p2 q2 m n f fs st =
    let d = tested s r b got one t f fs st in
    let x = any_some b f fs d.0 one two second o d.3 d.2 p q in
    let y = any_some b f fs x.0 two three first v d.3 x.2 p2 q2 in
    d.1 ∙ ap (λ x. select_from f fs (then_if x (λ p. then_if (pop_any f.unreachable p.1) (λ q. then_if (meet p.0 q.0) (λ o. Some (o ∷ q.1)))))) x.1
    ∙ ap (λ x. select_from f fs (then_if x (λ q. then_if (meet o q.0) (λ o. Some (o ∷ q.1))))) y.1
    ∙ ap (λ x. select_from f fs (then_if x (λ o. Some (o ∷ y.0)))) (sym m ∙ n)

pub select_goes : (s : TypeStacks) (r : Option OpenBlock) (b : OpenBlock) (got : Bool) (one two three new : List Operand) (second first met : Option Operand) (o v w : Operand) → Tested s r b got one
    → PopsAny b.unreachable b.height second one two → second ≡ Some o → PopsAny b.unreachable b.height first two three → first ≡ Some v → met ≡ meet o v → met ≡ Some w → new ≡ three ++ w ∷ []
    → (f : Frame) (fs : List Frame) → Stand (f ∷ fs) s → (gs : List Frame) × (step_by Selects f fs ≡ Some gs) × Stands gs new s.blocks.items
select_goes s r b got one two three new second first met o v w t p q p2 q2 m n put f fs st =
    let d = tested s r b got one t f fs st in
    let x = any_some b f fs d.0 one two second o d.3 d.2 p q in
    let y = any_some b f fs x.0 two three first v d.3 x.2 p2 q2 in (
      with_stack (w ∷ y.0) f ∷ fs,
      d.1 ∙ ap (λ x. select_from f fs (then_if x (λ p. then_if (pop_any f.unreachable p.1) (λ q. then_if (meet p.0 q.0) (λ o. Some (o ∷ q.1)))))) x.1
          ∙ ap (λ x. select_from f fs (then_if x (λ q. then_if (meet o q.0) (λ o. Some (o ∷ q.1))))) y.1
          ∙ ap (λ x. select_from f fs (then_if x (λ o. Some (o ∷ y.0)))) (sym m ∙ n),
      record { operands_are = ap reverse put ∙ reverse-append three (w ∷ []) ∙ ap (λ x. w ∷ x) y.2; blocks_are = st.blocks_are },
    )

-- labels
labels_shapes : (fs : List Frame) → map (λ (x : Shape). x.label) (shapes fs) ≡ labels_of fs
labels_shapes [] = refl
labels_shapes (f ∷ fs) = ap (λ x. f.label ∷ x) (labels_shapes fs)

map_labels : (bs : List OpenBlock) → map (λ (x : Shape). x.label) (map shape_of bs) ≡ map (λ (b : OpenBlock). seq b.label) bs
map_labels [] = refl
map_labels (b ∷ bs) = ap (λ x. seq b.label ∷ x) (map_labels bs)

labels_are : (s : TypeStacks) (fs : List Frame) → Stand fs s → map (λ (b : OpenBlock). seq b.label) (reverse s.blocks.items) ≡ labels_of fs
labels_are s fs st = sym (map_labels (reverse s.blocks.items)) ∙ ap (map (λ (x : Shape). x.label)) st.blocks_are ∙ labels_shapes fs

pub label_there : (s : TypeStacks) (l n : ℕ) (b d : OpenBlock) → l < n → n ≡ length s.blocks.items → b ≡ get_or s.blocks.items (n - 1 - l) d
    → (fs : List Frame) → Stand fs s → Some (seq b.label) ≡ slice_get (labels_of fs) l
label_there s l n b d h is_n e fs st =
    let bs = s.blocks.items in
    let lt : l < length bs = omega arith in
    let m : l < length (reverse bs) = omega (arith, length-reverse bs) in
    let g : get_or (reverse bs) l d ≡ b = get_or-reverse bs l d lt ∙ ap (λ x. get_or bs (x - 1 - l) d) (sym is_n) ∙ sym e in
    sym (ap (λ x. slice_get x l) (sym (labels_are s fs st)) ∙ slice_get-map (λ (b : OpenBlock). seq b.label) (reverse bs) l
    ∙ ap (option_map (λ (b : OpenBlock). seq b.label)) (slice_get-get_or (reverse bs) l d m) ∙ ap (λ x. Some (seq x.label)) g)

pub no_label : (s : TypeStacks) (l : ℕ) → length s.blocks.items ≤ l → (fs : List Frame) → Stand fs s → None ≡ slice_get (labels_of fs) l
no_label s l h fs st =
    let bs = s.blocks.items in
    let n : length (reverse bs) ≤ l = omega (arith, length-reverse bs) in
    sym (ap (λ x. slice_get x l) (sym (labels_are s fs st)) ∙ slice_get-map (λ (b : OpenBlock). seq b.label) (reverse bs) l
    ∙ ap (option_map (λ (b : OpenBlock). seq b.label)) (slice_get_past (reverse bs) l n))

-- a number that is tested for zero
pub is_zero : (n : ℕ) (b : Bool) → b ≡ (n == 0) → b ≡ true → n ≡ 0
is_zero n b e t = (Decides-eqb n 0).0 (sym e ∙ t)

pub is_not_zero : (n : ℕ) (b : Bool) → b ≡ (n == 0) → b ≡ false → n ≡ 0 → ⊥
is_not_zero n b e t z = let q : (n == 0) ≡ true = (Decides-eqb n 0).1 z in cc

pub set_at_end : (front : List OpenBlock) (last block : OpenBlock) (n : ℕ) → n ≡ length front → set (front ++ last ∷ []) n block ≡ front ++ block ∷ []
set_at_end [] last block n e = subst (λ m. set (last ∷ []) m block ≡ block ∷ []) (sym e) refl
set_at_end (x ∷ front) last block n e = subst (λ m. set (x ∷ (front ++ last ∷ [])) m block ≡ x ∷ (front ++ block ∷ [])) (sym e) (ap (λ l. x ∷ l) (set_at_end front last block (length front) refl))

pub put_result : (r : Option ValType) (t : ValType) (mid new : List Operand) → r ≡ Some t → new ≡ mid ++ Some t ∷ [] → reverse new ≡ known (seq r) ++ reverse mid
put_result r t mid new e p = ap reverse p ∙ reverse-append mid (Some t ∷ []) ∙ ap (λ x. known (seq x) ++ reverse mid) (sym e)
