use Rattle.std.proofs.Common.{◌≡◌, ℕ, List, [], ◌++◌, take, drop, rules, refl, sym, ap, subst, ◌∙◌, append_assoc}
use Rattle.std.proofs.lemmas.List.{append-nil, take-append-drop}
use Rattle.std.proofs.lemmas.Result.{err_from_is_err_and}
use Rattle.byte_streams.proofs.sink.write_all.Goals as goal

pub loop-rest-init : goal.loop-rest-init
loop-rest-init g c = record { taken = ([], refl, g.met.W.Sink.takes_nothing c.args.sink.now); same = refl }

pub loop-rest-preserved : goal.loop-rest-preserved
loop-rest-preserved g c =
    let t = c.loop-rest.invariant.taken in
    let n = c.in_ok-count.count in
    let after : c.split_at.result.1.now ≡ drop n c.loop-rest.rest.now = search (rules, c.split_at.ensures) in
    let parts : c.loop-rest.rest.now ≡ take n c.loop-rest.rest.now ++ c.split_at.result.1.now = sym (take-append-drop n c.loop-rest.rest.now) ∙ ap (λ (l : List ℕ). take n c.loop-rest.rest.now ++ l) (sym after) in
    record {
      taken = (
        t.0 ++ take n c.loop-rest.rest.now,
        t.1 ∙ ap (λ (l : List ℕ). t.0 ++ l) parts ∙ sym (append_assoc t.0 (take n c.loop-rest.rest.now) c.split_at.result.1.now),
        g.met.W.Sink.takes_more c.args.sink.now c.loop-rest.sink c.write.new.self t.0 (take n c.loop-rest.rest.now) t.2 c.in_ok-count.ensures.taken,
      );
      same = c.in_ok-count.ensures.none_failed ∙ c.loop-rest.invariant.same;
    }

pub returns-in_err-count-clause-begun : goal.returns-in_err-count-clause-begun
returns-in_err-count-clause-begun g c =
    let p = err_from_is_err_and c.from_residual.result c.from_residual.ensures.1 in
    let t = c.loop-rest.invariant.taken in
    rw p.1 (
      t.0,
      c.loop-rest.rest.now,
      t.1,
      subst (λ (l : List ℕ). g.W.Sink.takes c.args.sink.now l c.write.new.self) (append-nil t.0)
          (g.met.W.Sink.takes_more c.args.sink.now c.loop-rest.sink c.write.new.self t.0 [] t.2 c.in_err-count.ensures.nothing_taken),
    )
