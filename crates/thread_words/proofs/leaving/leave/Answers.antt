use Rattle.std.proofs.Common.{◌≡◌, ◌∙◌, ◌-◌, [], ◌++◌, refl, sym, ap, take, drop, vec_len, arith, length}
use Rattle.thread_words.specs.Fields.{is_still}
use Rattle.thread_words.proofs.Returns.{kept_results, can_cut, leaves_to, leaves_all, has_result, function_here}
use Rattle.thread_words.proofs.leaving.leave.Goals as goal

pub result_of_function-result-requires : goal.result_of_function-result-requires
result_of_function-result-requires c = let k = c.requires in (k.1, function_here c.args.valid.now k.0 k.1 c.args.m.now k.2)

pub result_on_top-requires : goal.result_on_top-requires
result_on_top-requires c =
    let k = c.requires in
    let o = c.result_of_function-result.ensures k.1 (function_here c.args.valid.now k.0 k.1 c.args.m.now k.2) in
    let z : vec_len c.args.m.now.callers - 1 ≡ 0 = omega (arith, c.in_default.ensures.cases.0) in
    let n : c.pop.new.self.items ≡ [] = c.in_default.ensures.rest ∙ ap (λ x. take x c.args.m.now.callers.items) z in
    let e : c.args.m.now.callers.items ≡ [] = c.in_default.ensures.items ∙ ap (λ x. x ++ []) n in
    has_result c.args.valid.now k.0 k.1 c.args.m.now _ c.result_of_function-result.result k.2 e o refl (n ∙ sym e) refl refl refl refl

pub returns-in_default : goal.returns-in_default
returns-in_default c = λ s f k.
    let o = c.result_of_function-result.ensures f (function_here c.args.valid.now s f c.args.m.now k) in
    let z : vec_len c.args.m.now.callers - 1 ≡ 0 = omega (arith, c.in_default.ensures.cases.0) in
    let n : c.pop.new.self.items ≡ [] = c.in_default.ensures.rest ∙ ap (λ x. take x c.args.m.now.callers.items) z in
    let e : c.args.m.now.callers.items ≡ [] = c.in_default.ensures.items ∙ ap (λ x. x ++ []) n in
    leaves_all c.args.valid.now s f c.args.m.now _ _ c.result_of_function-result.result c.result_on_top.result k e o refl (n ∙ sym e) refl refl refl refl c.result_on_top.ensures refl

pub cut-requires : goal.cut-requires
cut-requires c =
    let k = c.requires in
    let o = c.result_of_function-result.ensures k.1 (function_here c.args.valid.now k.0 k.1 c.args.m.now k.2) in
    can_cut (length k.1.kind.results) k.0 c.args.m.now c.is_some.result k.2.lies k.2.enough (kept_results k.1.kind.results c.result_of_function-result.result c.is_some.result k.2.few o c.is_some.ensures)

pub returns : goal.returns
returns c = λ s f k.
    let o = c.result_of_function-result.ensures f (function_here c.args.valid.now s f c.args.m.now k) in
    let n = kept_results f.kind.results c.result_of_function-result.result c.is_some.result k.few o c.is_some.ensures in
    leaves_to (length f.kind.results) s c.args.m.now _ c.in-Some.level k.running k.lies k.enough refl refl c.in-Some.ensures.items (c.still_starts-m.ensures ∙ ap (λ x. is_still c.args.m.now.starting x) c.deref.ensures.value)
    (c.cut.ensures.items ∙ ap (λ x. take c.args.m.now.here.words c.args.m.now.words.items ++ drop (length c.args.m.now.words.items - x) c.args.m.now.words.items) n) c.truncate.ensures.items refl
