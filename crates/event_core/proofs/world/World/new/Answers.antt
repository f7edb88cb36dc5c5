-- The machines made no step.
use Rattle.event_core.proofs.Opens.{opening_is_opening, opening_is_sound}
use Rattle.event_core.proofs.world.World.new.Goals as goal

pub invariant_of-result : goal.invariant_of-result
invariant_of-result g c =
    let opening = opening_is_opening g.M.Machine.code g.M.Machine.state (g.S.ObjectSpace.fixed c.args.space) (g.S.ObjectSpace.values c.args.space) c.args.machines.items c.requires.few c.requires.fresh in
    record { sound = rw (c.in_ok-threads.ensures, c.in_ok-memory.ensures) (opening_is_sound g.M.Machine.code _ opening) }

pub returns-clause-opening : goal.returns-clause-opening
returns-clause-opening g c =
    rw (c.in_ok-threads.ensures, c.in_ok-memory.ensures) (opening_is_opening g.M.Machine.code g.M.Machine.state (g.S.ObjectSpace.fixed c.args.space) (g.S.ObjectSpace.values c.args.space) c.args.machines.items c.requires.few c.requires.fresh)
