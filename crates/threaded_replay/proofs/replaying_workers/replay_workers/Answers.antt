-- What the workers leave is a world to which a gated run leads.
use Rattle.rw_objects.specs.Memory.{memory_of}
use Rattle.event_core.specs.World.{world_of}
use Rattle.threaded_replay.proofs.Pointing.{all_can_follow, point_sound, point}
use Rattle.threaded_replay.proofs.replaying_workers.replay_workers.Goals as goal

pub run_threads-requires-clause-begins : goal.run_threads-requires-clause-begins
run_threads-requires-clause-begins g c κs within =
    all_can_follow g.M.Machine.code g.M.Machine.state g.L.ReadLog.log (g.S.ObjectSpace.fixed c.args.opened.space) c.args.machines.items c.in_ok-followers.followers.items c.in_ok-followers.ensures.threads c.requires.fresh

pub resume-requires : goal.resume-requires
resume-requires g c =
    point_sound g.M.Machine.code g.M.Machine.state g.L.ReadLog.log c.args.log.now g.S.ObjectSpace.meaning c.are_lawful.ensures.space c.are_lawful.ensures.code (g.S.ObjectSpace.fixed c.args.opened.space) (g.S.ObjectSpace.values c.args.opened.space) c.args.machines.items
    c.in_ok-history.history.order.items c.in_ok-history.history.entries.items (memory_of c.in_ok-history.history.memory) c.in_ok-followers.followers.items c.in_ok-history.followers.items c.in_ok-threads.threads.items
    c.in_ok-followers.ensures.threads c.in_ok-followers.ensures.log c.in_ok-threads.ensures c.in_ok-history.ensures c.requires.few c.requires.fresh

pub returns : goal.returns
returns g c =
    point g.M.Machine.code g.M.Machine.state g.L.ReadLog.log c.args.log.now g.S.ObjectSpace.meaning c.are_lawful.ensures.space c.are_lawful.ensures.code (g.S.ObjectSpace.fixed c.args.opened.space) (g.S.ObjectSpace.values c.args.opened.space) c.args.machines.items
    c.in_ok-history.history.order.items c.in_ok-history.history.entries.items (memory_of c.in_ok-history.history.memory) c.in_ok-followers.followers.items c.in_ok-history.followers.items c.in_ok-threads.threads.items
    c.in_ok-followers.ensures.threads c.in_ok-followers.ensures.log c.in_ok-threads.ensures c.in_ok-history.ensures c.requires.few c.requires.fresh (world_of c.resume.result) c.resume.ensures.threads c.resume.ensures.memory
