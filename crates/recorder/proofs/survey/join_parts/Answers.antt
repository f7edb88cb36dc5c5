use Rattle.std.proofs.Common.{◌≡◌, ◌+◌, ◌-◌, ◌*◌, ◌<◌, ℕ, min, vec_len, arith, subst, sym, ap, ◌∙◌, rules, slice_index_or, take}
use Rattle.std.specs.Prelude.{Ok, IfOk, Some, unwrap_or}
use Rattle.std.proofs.lemmas.List.{get_or-take, take-take}
use Rattle.recorder.proofs.NumberParts.{part_behind, parts_left}
use Rattle.recorder.proofs.survey.join_parts.Goals as goal

pub returns-then-is_over : goal.returns-then-is_over
returns-then-is_over g c =
    let now = min ((vec_len c.args.parts - vec_len c.loop-part.parts) * c.args.size) c.args.count in
    let all = min (vec_len c.args.parts * c.args.size) c.args.count in
    subst (λ n. g.V.Survey.finds c.args.survey.now c.args.from n c.loop-part.found) (parts_left (vec_len c.args.parts) (vec_len c.loop-part.parts) c.args.size c.args.count) (c.is_over.ensures c.if-is_over.true c.args.from now (all - now) c.loop-part.invariant.0)

pub loop-part-preserved : goal.loop-part-preserved
loop-part-preserved g c =
    let n = vec_len c.args.parts in
    let l = vec_len c.loop-part.parts in
    let m = vec_len c.pop.new.self in
    let d = c.in-Some.part in
    let few = c.loop-part.invariant.1 in
    let items = c.loop-part.invariant.2 in
    let one : m + 1 ≡ l = search rules in
    let got : Some d ≡ Some (slice_index_or c.loop-part.parts.items (l - 1) d) = sym c.in-Some.is ∙ c.pop.ensures.value d (omega (arith, one)) in
    let at : l - 1 ≡ m = omega (arith, one) in
    let below : m < l = omega (arith, one) in
    let same : d ≡ slice_index_or c.args.parts.items m d =
    ap (λ o. unwrap_or o d) got ∙ ap (λ k. slice_index_or c.loop-part.parts.items k d) at ∙ ap (λ xs. slice_index_or xs m d) items ∙ get_or-take l c.args.parts.items m d below in
    let ok : slice_index_or c.args.parts.items m d ≡ Ok c.in_ok-part.field-0 = sym same ∙ c.in_ok-part.was in
    let found = subst (λ r. IfOk r (g.V.Survey.finds c.args.survey.now (c.args.from + min ((n - 1 - m) * c.args.size) c.args.count) (min ((n - m) * c.args.size) c.args.count - min ((n - 1 - m) * c.args.size) c.args.count))) ok (c.requires m d (omega (arith, one, few))) in
    let q : n - 1 - m ≡ n - l = omega (arith, one, few) in
    let p : n - m ≡ (n - l) + 1 = omega (arith, one, few) in
    let both = c.in_ok-join.ensures c.args.from (min ((n - l) * c.args.size) c.args.count) (min (((n - l) + 1) * c.args.size) c.args.count - min ((n - l) * c.args.size) c.args.count) c.loop-part.invariant.0
    (subst (λ k. g.V.Survey.finds c.args.survey.now (c.args.from + min ((n - l) * c.args.size) c.args.count) (min (k * c.args.size) c.args.count - min ((n - l) * c.args.size) c.args.count) c.in_ok-part.field-0) p
    (subst (λ k. g.V.Survey.finds c.args.survey.now (c.args.from + min (k * c.args.size) c.args.count) (min ((n - m) * c.args.size) c.args.count - min (k * c.args.size) c.args.count) c.in_ok-part.field-0) q found)) in (
      subst (λ k. g.V.Survey.finds c.args.survey.now c.args.from (min (k * c.args.size) c.args.count) c.join.new.found) (sym p)
          (subst (λ k. g.V.Survey.finds c.args.survey.now c.args.from k c.join.new.found) (part_behind (n - l) c.args.size c.args.count) both),
      omega (arith, one, few),
      c.pop.ensures.rest ∙ ap (λ k. take k c.loop-part.parts.items) at ∙ ap (take m) items ∙ take-take m l c.args.parts.items (omega (arith, one)),
    )
