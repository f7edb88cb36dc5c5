use Rattle.std.proofs.Common.{◌≡◌, ◌∙◌, ◌+◌, Some, sym, ap, add-one, arith}
use Rattle.std.proofs.Math.Facts.{Fits-of_lt}
use Rattle.validator.specs.declared.targets.Target.{Target}
use Rattle.thread_words.proofs.FunctionCode.{end_there}
use Rattle.thread_words.proofs.functions.behind_end_by.Goals as goal

some_same : (a b : Target) → Some a ≡ Some b → a ≡ b
some_same a b h = cc

pub overflow_add-result : goal.overflow_add-result
overflow_add-result c =
    let k = c.requires in
    let t = end_there k.0 k.1 c.args.place k.2 c.args.targets.now k.3 k.4 in
    let e = some_same c.in-Some.target t.0 (sym c.in-Some.is ∙ c.after.ensures ∙ t.1) in
    let f : c.in-Some.target.end ≡ k.2 = ap (λ (x : Target). x.end) e ∙ t.2 in
    let b = t.3 in
    Fits-of_lt (omega arith)

pub unreachable-requires : goal.unreachable-requires
unreachable-requires c =
    let k = c.requires in
    let t = end_there k.0 k.1 c.args.place k.2 c.args.targets.now k.3 k.4 in
    let e = sym c.in-None.is ∙ c.after.ensures ∙ t.1 in
    cc

pub returns : goal.returns
returns c = λ m function end are k.
    let t = end_there m function c.args.place end c.args.targets.now are k in
    let e = some_same c.in-Some.target t.0 (sym c.in-Some.is ∙ c.after.ensures ∙ t.1) in
    ap (λ (x : Target). x.end + 1) e ∙ ap (λ n. n + 1) t.2 ∙ add-one end
