use Rattle.std.proofs.Common.{◌≡◌, ℕ, List, length, sym, ap, subst, ◌∙◌, arith, rules, Some, false}
use Rattle.std.specs.Prelude.{IsTrue, slice_get}
use Rattle.std.proofs.lemmas.Option.{slice_get_within, slice_get-get_or}
use Rattle.replica.specs.declared.thread_log.ThreadLog.{ThreadLog}
use Rattle.replica.specs.Counts.{IsFitting}
use Rattle.replica.proofs.Completeness.{complete_fits, complete_few, fits_complete, fits_more, test_le, le_test}
use Rattle.replica.proofs.log.Log.complete.Goals as goal

pub returns : goal.returns
returns c =
    let log = c.args.self.now in
    let is = c.threads-log-items.ensures.value in
    let sixteen = c.threads-log-items.ensures.sixteen in
    let many : length c.threads-log-items.result.now ≡ length log.threads = ap (λ (l : List ThreadLog). length l) is in
    let all : c.loop-log.thread ≡ length log.threads = (let so_far = c.loop-log.invariant.thread in let end = c.loop-log-test.false in let within = c.loop-log.auto.log-index-end in omega arith) in (
      λ test. let few = test_le c.args.threads c.loop-log.thread test in
          fits_complete c.args.threads log (omega arith) (λ i thread at.
          let there : slice_get c.threads-log-items.result.now i ≡ Some thread = ap (λ (l : List ThreadLog). slice_get l i) is ∙ at in
          c.loop-log.invariant.fits i thread (let within = slice_get_within log.threads i thread at in let so_far = c.loop-log.invariant.thread in omega arith) there),
      λ complete. le_test c.args.threads c.loop-log.thread (let few = complete_few c.args.threads log complete in omega arith),
    )

pub loop-log-preserved : goal.loop-log-preserved
loop-log-preserved c =
    let items = c.threads-log-items.result.now in
    let index = c.loop-log.log-index in
    let here : slice_get items index ≡ Some c.log-item.result = slice_get-get_or items index c.log-item.result c.loop-log-test.true ∙ ap Some (sym c.log-item.is) in
    let yes : IsTrue c.is_fitting.result = search rules in
    let fitting : IsFitting c.args.threads index c.log-item.result = subst (λ (k : ℕ). IsFitting c.args.threads k c.log-item.result) c.loop-log.invariant.thread (c.is_fitting.ensures.0 yes) in
    record {
      thread = (let so_far = c.loop-log.invariant.thread in omega arith);
      fits = fits_more c.args.threads index items c.log-item.result here fitting c.loop-log.invariant.fits;
    }

pub returns-then-not-is_fitting : goal.returns-then-not-is_fitting
returns-then-not-is_fitting c =
    let items = c.threads-log-items.result.now in
    let index = c.loop-log.log-index in
    let is = c.threads-log-items.ensures.value in
    let here : slice_get items index ≡ Some c.log-item.result = slice_get-get_or items index c.log-item.result c.loop-log-test.true ∙ ap Some (sym c.log-item.is) in
    let there : slice_get c.args.self.now.threads index ≡ Some c.log-item.result = ap (λ (l : List ThreadLog). slice_get l index) (sym is) ∙ here in (
      λ no. absurd cc,
      λ complete.
          let fitting = complete_fits c.args.threads c.args.self.now complete index c.log-item.result there in
          let unfit : c.is_fitting.result ≡ false = c.if-not-is_fitting.true in
          let fit = c.is_fitting.ensures.1 (subst (λ (k : ℕ). IsFitting c.args.threads k c.log-item.result) (sym c.loop-log.invariant.thread) fitting) in
          sym unfit ∙ fit,
    )
