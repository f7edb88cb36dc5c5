use Rattle.std.proofs.Common.{◌≡◌, ◌≤◌, length, Some, arith, sym, ap, ◌∙◌, add-one}
use Rattle.std.specs.Prelude.{slice_get, List}
use Rattle.std.proofs.lemmas.Option.{slice_get-get_or}
use Rattle.replica.specs.declared.thread_log.ThreadLog.{ThreadLog}
use Rattle.replica.proofs.MergeLemmas.{ends_next, ends_end}
use Rattle.replica.proofs.log.Log.join_ends.Goals as goal

pub loop-thread-preserved : goal.loop-thread-preserved
loop-thread-preserved c =
    let items = c.threads-theirs-items.result.now in
    let index = c.loop-thread.thread in
    let here : slice_get items index ≡ Some c.theirs-item.result = slice_get-get_or items index c.theirs-item.result c.loop-thread-test.true ∙ ap Some (sym c.theirs-item.is) in
    let there : slice_get c.args.other.now.threads index ≡ Some c.theirs-item.result = ap (λ (l : List ThreadLog). slice_get l index) (sym c.threads-theirs-items.ensures.value) ∙ here in
    rw (add-one index) (ends_next c.args.self.now c.args.other.now c.loop-thread.self c.join_end_of.new.self index c.theirs-item.result there c.loop-thread.invariant c.join_end_of.ensures)

pub returns : goal.returns
returns c =
    let many : length c.threads-theirs-items.result.now ≡ length c.args.other.now.threads = ap (λ (l : List ThreadLog). length l) c.threads-theirs-items.ensures.value in
    let past : length c.args.other.now.threads ≤ c.loop-thread.thread = (let end = c.loop-thread-test.false in omega arith) in
    ends_end c.args.self.now c.args.other.now c.loop-thread.self c.loop-thread.thread past c.loop-thread.invariant
