-- The journal is empty, and the versions and totals are 0.
use Rattle.std.specs.Prelude.{replicate}
use Rattle.std.proofs.Common.{zero, suc, rules, arith, ◌≡◌, ℕ, length, sym, ap, ◌∙◌, subst, refl}
use Rattle.rw_objects.specs.declared.count.Count.{Count}
use Rattle.rw_objects.specs.Counts.{count_at, no_counts, no_count}
use Rattle.shared_parts.specs.Cut.{AllSound}
use Rattle.shared_parts.specs.Calls.{IsLegalHistory, memory_after_calls}
use Rattle.shared_core.proofs.shared.Shared.new.Goals as goal

count_none : (n o : ℕ) → count_at (replicate n no_count) o ≡ no_count
count_none zero o = refl
count_none (suc n) zero = refl
count_none (suc n) (suc o) = count_none n o

length_none : (n : ℕ) → length (replicate n no_count) ≡ n
length_none zero = refl
length_none (suc n) = ap suc (length_none n)

pub invariant_of-held : goal.invariant_of-held
invariant_of-held g c =
    let space = g.S.ObjectSpace.meaning in
    let cut = g.S.Striped.cut in
    let m = g.J.Opening.named.memory in
    let nil = c.named-latest.ensures in
    let mem = ap (λ n. n.memory) c.requires.named in
    let none : count_at c.in_ok-resting.field-0.versions ≡ no_counts = ap count_at c.in_ok-resting.ensures.versions ∙ (λ i o. count_none (space.objects (g.S.ObjectSpace.fixed c.args.opened.space)) o i) in
    let at : (o : ℕ) → count_at c.in_ok-resting.field-0.versions o ≡ no_count = λ o. ap (λ f. f o) none in
    let objects : length c.in_ok-resting.field-0.versions ≡ space.objects (g.S.ObjectSpace.fixed c.args.opened.space) = ap length c.in_ok-resting.ensures.versions ∙ length_none (space.objects (g.S.ObjectSpace.fixed c.args.opened.space)) in record {
      legal = subst (IsLegalHistory space m) (sym nil) tt;
      sound = subst (λ l. AllSound cut m.fixed (memory_after_calls space m l).values) (sym nil) (subst (λ x. AllSound cut x.fixed x.values) mem c.in_ok-resting.ensures.sound);
      counts = none ∙ (ap (λ x. x.counts) mem ∙ ap (λ l. (memory_after_calls space m l).counts) (sym nil));
      sized = objects ∙ ap (λ x. space.objects x.fixed) mem;
      few_versions = λ o. let h = ap (λ (k : Count). k.version) (at o) in omega (arith, h);
      few_reads = λ o. let h = ap (λ (k : Count). k.reads) (at o) in omega (arith, h);
      order = search rules;
      written = search rules;
      total = search rules;
      rest = search rules;
      none = search rules;
    }
