-- How a thread stands.
use Rattle.rw_objects.specs.Code.{Code}
use Rattle.event_core.specs.End.{outcome_of}
use Rattle.event_core.specs.Threads.{ThreadAt}
use Rattle.debug_views.specs.declared.threads.ThreadView.{ThreadView}

-- how many steps it made, how many events, and its outcome
abbrev pub view_of_thread : {State Op Reply Fixed : Type 0} → Code State Op Reply Fixed → ThreadAt State → ThreadView
view_of_thread code t = record { steps = code.steps t.state; places = t.places; outcome = outcome_of (code.next t.state) }
