use Rattle.debugger.specs.At.{at_of}
use Rattle.debugger.proofs.Shown.{shown_behind}
use Rattle.debugger.proofs.debugging.debug_log.Goals as goal

pub returns-in-Ok-talked-clause-done : goal.returns-in-Ok-talked-clause-done
returns-in-Ok-talked-clause-done g c = shown_behind (at_of c.in-Ok.debugger) c.in-Ok.ensures.behind c.in-Ok-talked.ensures.done
