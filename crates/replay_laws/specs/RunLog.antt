-- The log of a run.
use Rattle.std.specs.Prelude.{List, slice_get, option_map}
use Rattle.rw_objects.specs.Space.{Space}
use Rattle.rw_objects.specs.Code.{Code}
use Rattle.event_core.specs.declared.pick.Pick.{Pick}
use Rattle.event_core.specs.Threads.{ThreadAt}
use Rattle.event_core.specs.World.{WorldAt}
use Rattle.event_core.specs.End.{outcome_of}
use Rattle.event_core.specs.Run.{world_run, entries}
use Rattle.log_pieces.specs.declared.end.End.{End}
use Rattle.replay_laws.specs.Log.{Log, known}

-- a thread's steps and places, and how it stands
abbrev pub end_of_thread : {State Op Reply Fixed : Type 0} → Code State Op Reply Fixed → ThreadAt State → End
end_of_thread code t = record { steps = code.steps t.state; places = t.places; outcome = outcome_of (code.next t.state) }

module _ {State Op Reply Value Fixed : Type 0} (space : Space Op Reply Value Fixed) (code : Code State Op Reply Fixed) where
  -- the log of a run: each thread's entries by place, and where it ends
  abbrev pub run_log : WorldAt State Value Fixed → List Pick → Log
  run_log w ps = record {
    entry = λ t place. known (slice_get (entries space code w ps t) place);
    end = λ t. known (option_map (end_of_thread code) (slice_get (world_run space code w ps).threads t));
  }
