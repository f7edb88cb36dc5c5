use Rattle.std.proofs.Common.{◌≡◌, ◌==◌, ℕ, Bool, true, false, ◌||◌, cond, get_or, refl, sym, ap, ◌∙◌, arith}
use Rattle.std.specs.BTreeMap.{is_at}
use Rattle.std.specs.BTreeSet.{contains}
use Rattle.std.specs.Ordering.{nat_cmp}
use Rattle.std.proofs.lemmas.Bool.Decides.{nat_tests}
use Rattle.std.proofs.lemmas.List.Folds.{list_any_more}
use Rattle.replica.proofs.choice.set_of.Goals as goal

is_same : (n m : ℕ) → is_at (nat_cmp n) m ≡ (n == m)
is_same n m = grind (arith, nat_tests)

either : (a b c : Bool) → a ≡ b → cond a true c ≡ (c || b)
either true b true is = refl
either true b false is = is
either false b true is = refl
either false b false is = is

pub loop-object-preserved : goal.loop-object-preserved
loop-object-preserved c object =
    let new = get_or c.args.objects.now c.loop-object.object-index 0 in
    c.in_ok-insert.ensures.updates.0 object
    ∙ either (is_at (nat_cmp new) object) (new == object) (contains nat_cmp c.loop-object.set object) (is_same new object)
    ∙ ap (λ (b : Bool). b || (new == object)) (c.loop-object.invariant object)
    ∙ sym (list_any_more (λ m. m == object) c.args.objects.now c.loop-object.object-index 0 c.loop-object-test.true)
