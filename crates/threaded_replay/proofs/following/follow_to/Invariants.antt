use Rattle.std.proofs.Common.{◌<◌, true}
use Rattle.wasm_types.specs.declared.sizes.TheConstants.{MOST_THREADS}
use Rattle.event_core.specs.Sound.{IsSoundThread}
use Rattle.workers.specs.Driving.{driven, Advances}
use Rattle.threaded_replay.specs.Following.{IsFollowing}
use Rattle.threaded_replay.proofs.following.follow_to.Given as goal

abbrev pub invariant-loop : goal.invariant-loop
invariant-loop g l =
    (goal.iterator-loop g).can_next l.iterator' × (goal.iterator-loop g).is_finite l.iterator'
    × (l.seat.thread < MOST_THREADS)
    × g.L.ReadLog.reads l.log l.reader
    × g.L.ReadLog.reads l.log l.ahead
    × IsFollowing g.M.Machine.code (g.L.ReadLog.log l.log) l.end (driven g.M.Machine.state l.thread l.seat)
    × IsSoundThread g.M.Machine.code g.J.Opening.named.memory (driven g.M.Machine.state l.thread l.seat).thread
    × Advances g.M.Machine.code (λ t s. true) (driven g.M.Machine.state l.initial.thread l.initial.seat) (driven g.M.Machine.state l.thread l.seat)
