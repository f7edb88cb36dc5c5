use Rattle.std.proofs.Common.{ap}
use Rattle.std.proofs.lemmas.Result.{on_ok_weaker}
use Rattle.event_core.specs.Threads.{thread_of}
use Rattle.event_core.proofs.Threads.{map_set_same, room_set}
use Rattle.event_core.proofs.thread.room.Goals as goal

pub returns-clause-same : goal.returns-clause-same
returns-clause-same g c =
    map_set_same (thread_of g.M.Machine.state) c.args.threads.now.items c.args.at c.index_mut.result.now _ c.requires c.index_mut.ensures.value
    (ap (λ s. record { state = s; places = c.index_mut.result.now.places }) c.room.ensures.state)

pub returns-clause-ok : goal.returns-clause-ok
returns-clause-ok g c = on_ok_weaker c.room.result (λ h. room_set g.M.Machine.has_room c.args.threads.now.items c.args.at _ c.requires h) c.room.ensures.ok
