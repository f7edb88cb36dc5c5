use Rattle.std.proofs.Common.{ap}
use Rattle.std.proofs.lemmas.Result.{on_ok_weaker, on_err_weaker}
use Rattle.event_core.specs.Threads.{thread_of, thread_after_local, CanStepLocally}
use Rattle.event_core.proofs.Threads.{map_set, map_set_same, is_at}
use Rattle.event_core.proofs.thread.local.Goals as goal

pub local-requires-clause-next : goal.local-requires-clause-next
local-requires-clause-next g c = (is_at g.M.Machine.state (CanStepLocally g.M.Machine.code) c.args.threads.now.items c.args.at c.index_mut.result.now c.requires.can c.requires.within c.index_mut.ensures.value).next

pub local-requires-clause-steps : goal.local-requires-clause-steps
local-requires-clause-steps g c = (is_at g.M.Machine.state (CanStepLocally g.M.Machine.code) c.args.threads.now.items c.args.at c.index_mut.result.now c.requires.can c.requires.within c.index_mut.ensures.value).steps

pub returns-clause-ok : goal.returns-clause-ok
returns-clause-ok g c = on_ok_weaker c.local.result (λ h.
    map_set (thread_of g.M.Machine.state) (thread_after_local g.M.Machine.code) c.args.threads.now.items c.args.at c.index_mut.result.now _ c.requires.within c.index_mut.ensures.value
    (ap (λ s. record { state = s; places = c.index_mut.result.now.places }) h)) c.local.ensures.ok

pub returns-clause-err : goal.returns-clause-err
returns-clause-err g c = on_err_weaker c.local.result (λ h.
    map_set_same (thread_of g.M.Machine.state) c.args.threads.now.items c.args.at c.index_mut.result.now _ c.requires.within c.index_mut.ensures.value
    (ap (λ s. record { state = s; places = c.index_mut.result.now.places }) h)) c.local.ensures.err
