use Rattle.std.proofs.Common.{◌≡◌, ◌≤◌, length, Some, arith, sym, ap, ◌∙◌, add-one}
use Rattle.std.specs.Prelude.{slice_get, List}
use Rattle.std.proofs.lemmas.Option.{slice_get-get_or}
use Rattle.std.proofs.lemmas.Result.{err_from_is_err_and}
use Rattle.replica.specs.declared.thread_log.ThreadLog.{ThreadLog}
use Rattle.replica.proofs.MergeLemmas.{entries_next, entries_left, entries_end}
use Rattle.replica.proofs.log.Log.join_entries.Goals as goal

pub loop-thread-preserved : goal.loop-thread-preserved
loop-thread-preserved c =
    let items = c.threads-theirs-items.result.now in
    let index = c.loop-thread.thread in
    let here : slice_get items index ≡ Some c.theirs-item.result = slice_get-get_or items index c.theirs-item.result c.loop-thread-test.true ∙ ap Some (sym c.theirs-item.is) in
    let there : slice_get c.args.other.now.threads index ≡ Some c.theirs-item.result = ap (λ (l : List ThreadLog). slice_get l index) (sym c.threads-theirs-items.ensures.value) ∙ here in
    rw (add-one index) (entries_next c.args.self.now c.args.other.now c.loop-thread.self c.join_thread.new.self index c.theirs-item.result there c.loop-thread.invariant c.in_ok-join_thread.ensures.joined)

pub returns-in_err-join_thread-clause-left : goal.returns-in_err-join_thread-clause-left
returns-in_err-join_thread-clause-left c =
    let items = c.threads-theirs-items.result.now in
    let index = c.loop-thread.thread in
    let here : slice_get items index ≡ Some c.theirs-item.result = slice_get-get_or items index c.theirs-item.result c.loop-thread-test.true ∙ ap Some (sym c.theirs-item.is) in
    let there : slice_get c.args.other.now.threads index ≡ Some c.theirs-item.result = ap (λ (l : List ThreadLog). slice_get l index) (sym c.threads-theirs-items.ensures.value) ∙ here in
    let left = c.in_err-join_thread.ensures.left in
    rw (err_from_is_err_and c.from_residual.result c.from_residual.ensures.1).1
    (index, left.0, entries_left c.args.self.now c.args.other.now c.loop-thread.self c.join_thread.new.self index left.0 c.theirs-item.result there c.loop-thread.invariant left.1)

pub returns-clause-joined : goal.returns-clause-joined
returns-clause-joined c =
    let many : length c.threads-theirs-items.result.now ≡ length c.args.other.now.threads = ap (λ (l : List ThreadLog). length l) c.threads-theirs-items.ensures.value in
    let past : length c.args.other.now.threads ≤ c.loop-thread.thread = (let end = c.loop-thread-test.false in omega arith) in
    entries_end c.args.self.now c.args.other.now c.loop-thread.self c.loop-thread.thread past c.loop-thread.invariant
