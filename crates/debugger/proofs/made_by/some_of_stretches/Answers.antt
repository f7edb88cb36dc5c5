use Rattle.std.proofs.Common.{◌+◌, ◌∙◌, sym, arith}
use Rattle.event_core.specs.World.{world_of}
use Rattle.debugger.specs.declared.made_by.TheConstants.{STRETCH}
use Rattle.debugger.proofs.ThreadEvents.{some_event, no_last}
use Rattle.debugger.proofs.made_by.some_of_stretches.Goals as goal

pub returns-in-Some-some_of_thread-clause-found : goal.returns-in-Some-some_of_thread-clause-found
returns-in-Some-some_of_thread-clause-found g c =
    some_event (g.L.ReadLog.log c.args.log.now) c.args.sought (world_of c.args.world.now).threads c.loop-number.number c.in-Some.places c.in-Some-some_of_thread.place
    (omega (arith, c.loop-number-test.true, c.count-number-end.ensures.count)) (sym c.in-Some.is ∙ c.places.ensures) c.in-Some-some_of_thread.ensures.found

pub returns-clause-found : goal.returns-clause-found
returns-clause-found g c =
    no_last (g.L.ReadLog.log c.args.log.now) c.args.sought (world_of c.args.world.now).threads (c.args.back + STRETCH) c.loop-number.number
    (omega (arith, c.loop-number-test.false, c.count-number-end.ensures.count)) c.loop-number.invariant.none
