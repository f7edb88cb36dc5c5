-- What was seen so far, and what is still to be seen, are all that is to be seen.
use Rattle.std.proofs.Common.{rules, arith, ◌≡◌, ℕ, zero, suc, ◌+◌, ◌<◌, ◌≤◌, List, [], ◌∷◌, ◌++◌, length, map, drop, get_or, refl, ◌∙◌, sym, ap}
use Rattle.std.proofs.lemmas.List.{append-nil}
use mathlib.Core.List.{append_assoc}
use Rattle.rw_objects.specs.declared.touch.Touch.{Touch}
use Rattle.rw_objects.specs.declared.touch.Mode.TheVariants.{Read}
use Rattle.rw_objects.specs.Counts.{is_touched}
use Rattle.shared_parts.proofs.Writes.{touched_here}
use Rattle.shared_parts.proofs.seat.look.Goals as goal

drop_step : {A : Type 0} (xs : List A) (i j : ℕ) (d : A) → i < length xs → j ≡ suc i → drop i xs ≡ get_or xs i d ∷ drop j xs
drop_step [] i j d low next = absurd (omega (arith, low))
drop_step (x ∷ xs) zero j d low next = ap (λ n. x ∷ drop n (x ∷ xs)) (sym next)
drop_step (x ∷ xs) (suc i) zero d low next = absurd (omega (arith, next))
drop_step (x ∷ xs) (suc i) (suc j) d low next = drop_step xs i j d (omega (arith, low)) (omega (arith, next))

drop_all : {A : Type 0} (xs : List A) (i : ℕ) → length xs ≤ i → drop i xs ≡ []
drop_all [] zero high = refl
drop_all [] (suc i) high = refl
drop_all (x ∷ xs) zero high = absurd (omega (arith, high))
drop_all (x ∷ xs) (suc i) high = drop_all xs i (omega (arith, high))

one_more : {A B : Type 0} (f : A → B) (xs : List A) (i j : ℕ) (d : A) (seen now all : List B) (x : B) → i < length xs → j ≡ suc i → seen ++ map f (drop i xs) ≡ all → now ≡ seen ++ x ∷ [] → x ≡ f (get_or xs i d)
    → now ++ map f (drop j xs) ≡ all
one_more f xs i j d seen now all x low next so_far grown is =
    ap (λ l. l ++ map f (drop j xs)) grown ∙ (append_assoc seen (x ∷ []) (map f (drop j xs)) ∙ (ap (λ y. seen ++ y ∷ map f (drop j xs)) is
    ∙ (ap (λ l. seen ++ map f l) (sym (drop_step xs i j d low next)) ∙ so_far)))

all_seen : {A B : Type 0} (f : A → B) (xs : List A) (i : ℕ) (seen all : List B) → length xs ≤ i → seen ++ map f (drop i xs) ≡ all → seen ≡ all
all_seen f xs i seen all high so_far = sym (append-nil seen) ∙ (ap (λ l. seen ++ map f l) (sym (drop_all xs i high)) ∙ so_far)

pub look-requires-clause-touched : goal.look-requires-clause-touched
look-requires-clause-touched g c =
    let d : Touch = record { object = 0; mode = Read } in
    ap (λ ts. is_touched ts (get_or c.as_slice-touch-items.result.now c.loop-touch.touch-index d).object) (sym c.requires.touches ∙ sym c.as_slice-touch-items.ensures.items)
    ∙ touched_here c.as_slice-touch-items.result.now c.loop-touch.touch-index d c.loop-touch-test.true

pub loop-touch-preserved : goal.loop-touch-preserved
loop-touch-preserved g c =
    let sight = λ (values : ℕ → g.row.S-Value.Denot) (t : Touch). g.S.Striped.cut.sight g.J.Opening.named.memory.fixed c.args.op.now t.object (values t.object) in
    let d : Touch = record { object = 0; mode = Read } in (
      λ values here. one_more (sight values) c.as_slice-touch-items.result.now c.loop-touch.touch-index (c.loop-touch.touch-index + 1) d c.loop-touch.seen.items c.push.new.self.items (map (sight values) c.args.touches.now) c.look.result
          c.loop-touch-test.true (omega arith) (c.loop-touch.invariant.0 values here) c.in_ok-push.ensures.items (c.look.ensures values here),
      search rules,
      search rules,
    )

pub returns : goal.returns
returns g c values here =
    let sight = λ (t : Touch). g.S.Striped.cut.sight g.J.Opening.named.memory.fixed c.args.op.now t.object (values t.object) in
    let end : length c.as_slice-touch-items.result.now ≤ c.loop-touch.touch-index = search rules in
    all_seen sight c.as_slice-touch-items.result.now c.loop-touch.touch-index c.loop-touch.seen.items (map sight c.args.touches.now) end (c.loop-touch.invariant.0 values here) ∙ ap (map sight) c.requires.touches
