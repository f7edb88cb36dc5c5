use Rattle.event_core.specs.World.{world_of}
use Rattle.debugger.proofs.OneWriter.{is_first, no_event_first}
use Rattle.debugger.proofs.made_by.writing_event.Goals as goal

pub returns-then-sought-eq0-clause-found : goal.returns-then-sought-eq0-clause-found
returns-then-sought-eq0-clause-found g c = no_event_first (g.L.ReadLog.log c.args.log.now) c.args.sought c.requires.writer (world_of c.args.world.now) c.if-sought-eq0.true

pub returns-in-Some-clause-found : goal.returns-in-Some-clause-found
returns-in-Some-clause-found g c = is_first (g.L.ReadLog.log c.args.log.now) c.args.sought c.requires.writer (world_of c.args.world.now) c.requires.one c.in-Some.event c.in-Some.ensures.found
