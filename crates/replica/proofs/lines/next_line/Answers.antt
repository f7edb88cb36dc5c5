use Rattle.std.proofs.Common.{◌≡◌, ℕ, ◌+◌, ◌<◌, ◌≤◌, List, [], ◌++◌, length, sym, ap, subst, ◌∙◌, arith, rules, append_assoc}
use Rattle.std.proofs.lemmas.List.{append-nil}
use Rattle.replica.specs.Lines.{HasNoEnd}
use Rattle.replica.proofs.LineLemmas.{line_whole, line_more}
use Rattle.replica.proofs.lines.next_line.Goals as goal

pub returns-then-branch-clause-whole : goal.returns-then-branch-clause-whole
returns-then-branch-clause-whole g c _ =
    let b = c.loop-line.invariant.begun in
    let w = c.in_ok-take_line.ensures.whole (cc (c.if-branch.true)) in
    let l = line_whole (c.args.chunk.now ++ b.0) c.loop-line.line.items c.loop-line.chunk w.0 c.take_line.new.self c.take_line.new.line.items b.2 b.3 w.1 w.2 w.3 in
    (b.0, c.loop-line.line.items ++ w.0, b.1, l.0, l.1, l.2)

pub returns-then-len-gt-LONGEST_LINE-clause-too_long :
    goal.returns-then-len-gt-LONGEST_LINE-clause-too_long
returns-then-len-gt-LONGEST_LINE-clause-too_long g c _ =
    let b = c.loop-line.invariant.begun in
    let w = c.in_ok-take_line.ensures.open (cc (c.if-branch.false)) in
    let l = line_more (c.args.chunk.now ++ b.0) c.loop-line.line.items c.loop-line.chunk c.take_line.new.self c.take_line.new.line.items b.2 b.3 w.0 w.2 in
    (b.0, c.take_line.new.line.items, b.1, l.0, l.1 ∙ sym (append-nil c.take_line.new.line.items) ∙ ap (λ (r : List ℕ). c.take_line.new.line.items ++ r) (sym w.1), search rules)

pub returns-then-len-gt-LONGEST_LINE-clause-no_more : goal.returns-then-len-gt-LONGEST_LINE-clause-no_more
returns-then-len-gt-LONGEST_LINE-clause-no_more g c _ =
    let w = c.in_ok-take_line.ensures.open (cc (c.if-branch.false)) in
    omega (arith, c.loop-line.invariant.fewer, ap length w.1)

pub returns-in-Err-clause-source_failed : goal.returns-in-Err-clause-source_failed
returns-in-Err-clause-source_failed g c _ =
    let b = c.loop-line.invariant.begun in
    let w = c.in_ok-take_line.ensures.open (cc (c.if-branch.false)) in
    let l = line_more (c.args.chunk.now ++ b.0) c.loop-line.line.items c.loop-line.chunk c.take_line.new.self c.take_line.new.line.items b.2 b.3 w.0 w.2 in (
      (
        b.0,
        subst (λ (l : List ℕ). g.R.Source.brings c.args.source.now l c.refill.new.source) (append-nil b.0) (g.met.R.Source.brings_more c.args.source.now c.loop-line.source c.refill.new.source b.0 [] b.1 c.in-Err.ensures.nothing_brought),
        subst (λ (l : List ℕ). HasNoEnd l) (sym l.1) l.0,
      ),
      c.in-Err.ensures.one_failed ∙ ap (λ n. n + 1) c.loop-line.invariant.same,
    )

pub returns-then-is_empty-clause-last : goal.returns-then-is_empty-clause-last
returns-then-is_empty-clause-last g c _ =
    let b = c.loop-line.invariant.begun in
    let w = c.in_ok-take_line.ensures.open (cc (c.if-branch.false)) in
    let l = line_more (c.args.chunk.now ++ b.0) c.loop-line.line.items c.loop-line.chunk c.take_line.new.self c.take_line.new.line.items b.2 b.3 w.0 w.2 in
    let none : c.refill.new.self ≡ [] = c.is_empty.ensures.0 c.if-is_empty.true in
    let came = subst (λ (l : List ℕ). g.R.Source.brings c.loop-line.source l c.refill.new.source) none c.in-Ok.ensures.brought in (
      b.0,
      subst (λ (l : List ℕ). g.R.Source.brings c.args.source.now l c.refill.new.source) (append-nil b.0) (g.met.R.Source.brings_more c.args.source.now c.loop-line.source c.refill.new.source b.0 [] b.1 came),
      c.in-Ok.ensures.ended none,
      l.0,
      l.1,
    )

pub loop-line-preserved : goal.loop-line-preserved
loop-line-preserved g c =
    let b = c.loop-line.invariant.begun in
    let w = c.in_ok-take_line.ensures.open (cc (c.if-branch.false)) in
    let l = line_more (c.args.chunk.now ++ b.0) c.loop-line.line.items c.loop-line.chunk c.take_line.new.self c.take_line.new.line.items b.2 b.3 w.0 w.2 in
    let fewer : g.R.Source.calls c.refill.new.source < g.R.Source.calls c.loop-line.source = c.in-Ok.ensures.fewer (λ none. let e = c.is_empty.ensures.1 none in absurd cc) in
    let few : length c.refill.new.self ≤ 65536 = c.in-Ok.ensures.few in
    record {
      begun = (
        b.0 ++ c.refill.new.self,
        g.met.R.Source.brings_more c.args.source.now c.loop-line.source c.refill.new.source b.0 c.refill.new.self b.1 c.in-Ok.ensures.brought,
        l.0,
        sym (append_assoc c.args.chunk.now b.0 c.refill.new.self) ∙ ap (λ (l : List ℕ). l ++ c.refill.new.self) l.1,
      );
      same = c.in-Ok.ensures.none_failed ∙ c.loop-line.invariant.same;
      fewer = omega (arith, c.loop-line.invariant.fewer);
    }
