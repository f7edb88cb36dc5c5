use Rattle.std.proofs.Common.{◌≡◌, [], ◌∷◌, ◌++◌, slice_set}
use Rattle.event_core.specs.Threads.{change_at}
use Rattle.recorder.proofs.Rest.{list_written, list_stays, where_ok, where_err}
use Rattle.recorder.proofs.logs.push_at.Goals as goal

pub returns-clause-ok : goal.returns-clause-ok
returns-clause-ok c =
    let lists = c.args.lists.now.items in
    let old = c.index_mut.result.now in
    let new = c.push.new.self in
    where_ok (new ≡ old ++ c.args.entry.now ∷ []) (slice_set lists c.args.at new ≡ change_at lists c.args.at (λ es. es ++ c.args.entry.now ∷ [])) c.push.result
    (list_written (λ es. es ++ c.args.entry.now ∷ []) lists c.args.at old new c.requires c.index_mut.ensures.value) c.push.ensures.ok

pub returns-clause-err : goal.returns-clause-err
returns-clause-err c =
    let lists = c.args.lists.now.items in
    let old = c.index_mut.result.now in
    let new = c.push.new.self in
    where_err (new ≡ old) (slice_set lists c.args.at new ≡ lists) c.push.result (list_stays lists c.args.at old new c.requires c.index_mut.ensures.value) c.push.ensures.err
