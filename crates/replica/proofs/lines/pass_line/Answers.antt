use Rattle.std.proofs.Common.{◌≡◌, ℕ, ◌<◌, ◌≤◌, List, [], ◌∷◌, ◌++◌, length, refl, sym, ap, subst, ◌∙◌, arith, append_assoc}
use Rattle.std.proofs.lemmas.List.{append-nil}
use Rattle.replica.specs.Lines.{HasNoEnd}
use Rattle.replica.proofs.LineLemmas.{line_whole, line_more}
use Rattle.replica.proofs.lines.pass_line.Goals as goal

pub returns-then-branch-clause-whole : goal.returns-then-branch-clause-whole
returns-then-branch-clause-whole g c _ =
    let b = c.loop-chunk.invariant.passed in
    let w = c.in_ok-take_line.ensures.whole (cc (c.if-branch.true)) in
    let l = line_whole (c.args.chunk.now ++ b.0) b.1 c.loop-chunk.chunk w.0 c.take_line.new.self (b.1 ++ (w.0 ++ 10 ∷ [])) b.3 b.4 w.1 w.2 refl in
    (b.0, b.1 ++ w.0, b.2, l.0, l.1)

pub returns-then-is_empty-clause-last : goal.returns-then-is_empty-clause-last
returns-then-is_empty-clause-last g c _ =
    let b = c.loop-chunk.invariant.passed in
    let w = c.in_ok-take_line.ensures.open (cc (c.if-branch.false)) in
    let l = line_more (c.args.chunk.now ++ b.0) b.1 c.loop-chunk.chunk c.take_line.new.self (b.1 ++ c.loop-chunk.chunk) b.3 b.4 w.0 refl in
    let none : c.refill.new.self ≡ [] = c.is_empty.ensures.0 c.if-is_empty.true in
    let came = subst (λ (l : List ℕ). g.R.Source.brings c.loop-chunk.source l c.refill.new.source) none c.in-Ok.ensures.brought in (
      b.0,
      subst (λ (l : List ℕ). g.R.Source.brings c.args.source.now l c.refill.new.source) (append-nil b.0) (g.met.R.Source.brings_more c.args.source.now c.loop-chunk.source c.refill.new.source b.0 [] b.2 came),
      c.in-Ok.ensures.ended none,
      subst (λ (l : List ℕ). HasNoEnd l) (sym l.1) l.0,
    )

pub loop-chunk-preserved : goal.loop-chunk-preserved
loop-chunk-preserved g c =
    let b = c.loop-chunk.invariant.passed in
    let w = c.in_ok-take_line.ensures.open (cc (c.if-branch.false)) in
    let l = line_more (c.args.chunk.now ++ b.0) b.1 c.loop-chunk.chunk c.take_line.new.self (b.1 ++ c.loop-chunk.chunk) b.3 b.4 w.0 refl in
    let fewer : g.R.Source.calls c.refill.new.source < g.R.Source.calls c.loop-chunk.source = c.in-Ok.ensures.fewer (λ none. let e = c.is_empty.ensures.1 none in absurd cc) in
    let few : length c.refill.new.self ≤ 65536 = c.in-Ok.ensures.few in
    record {
      passed = (
        b.0 ++ c.refill.new.self,
        b.1 ++ c.loop-chunk.chunk,
        g.met.R.Source.brings_more c.args.source.now c.loop-chunk.source c.refill.new.source b.0 c.refill.new.self b.2 c.in-Ok.ensures.brought,
        l.0,
        sym (append_assoc c.args.chunk.now b.0 c.refill.new.self) ∙ ap (λ (l : List ℕ). l ++ c.refill.new.self) l.1,
      );
      same = c.in-Ok.ensures.none_failed ∙ c.loop-chunk.invariant.same;
      fewer = omega (arith, c.loop-chunk.invariant.fewer);
    }
