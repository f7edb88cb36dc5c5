-- What a thread's next event waits for (LeBlanc and Mellor-Crummey 1987).
use Rattle.std.specs.Prelude.{ℕ, ◌==◌, List, [], ◌++◌, Option, Some, None, codes, if◌then◌else◌}
use Rattle.std.specs.List.{flat_map}
use Rattle.rw_objects.specs.declared.count.Count.{Count}
use Rattle.rw_objects.specs.declared.entry.Entry.{Entry}
use Rattle.rw_objects.specs.declared.touch.Found.{Found}
use Rattle.rw_objects.specs.declared.touch.Found.TheVariants as found
use Rattle.rw_objects.specs.Touch.{object_of}
use Rattle.log_pieces.specs.declared.flat.Flat.{Flat}
use Rattle.log_pieces.specs.declared.flat.Flat.TheVariants.{Known, Clash}
use Rattle.event_core.specs.Threads.{ThreadAt}
use Rattle.replay_laws.specs.Log.{Log}
use Rattle.replay_gate.specs.declared.answers.Gate.{Gate}
use Rattle.replay_gate.specs.declared.answers.Gate.TheVariants as gate
use Rattle.replay_gate.specs.Gate.{gate_of}
use Rattle.debugger.specs.declared.touched.Events.TheVariants.{Ahead}
use Rattle.debugger.specs.declared.touched.Role.{Role}
use Rattle.debugger.specs.declared.touched.Role.TheVariants as role
use Rattle.debugger.specs.declared.touched.Sought.{Sought}
use Rattle.debugger.specs.Around.{next_line}
use Rattle.debugger.specs.Touched.{events_of, sought_line}

abbrev pub sought : Role → (object version : ℕ) → Sought
sought r object version = record { role = r; object = object; version = version }

-- an event that found this of an object waits, where the object has this count, for the write of the version that it
-- found, or behind it for more reads; none where all is as it was found
abbrev pub awaited : Found → Count → Option Sought
awaited (found.Read object version) c = if c.version == version then None else Some (sought role.Writer object version)
awaited (found.Write object version reads) c =
    if c.version == version then (if c.reads == reads then None else Some (sought role.Reader object version)) else Some (sought role.Writer object version)

-- which events ahead of the threads do that
abbrev pub awaited_line : {State : Type 0} → Log → List (ThreadAt State) → Option Sought → List ℕ
awaited_line log threads None = []
awaited_line log threads (Some s) = sought_line s (events_of log s Ahead 0 threads)

abbrev pub found_line : {State : Type 0} → Log → List (ThreadAt State) → (ℕ → Count) → Found → List ℕ
found_line log threads counts f = awaited_line log threads (awaited f (counts (object_of f)))

abbrev pub awaited_lines : {State : Type 0} → Log → List (ThreadAt State) → (ℕ → Count) → List Found → List ℕ
awaited_lines log threads counts all = flat_map (λ f. found_line log threads counts f) all

abbrev pub awaited_by : {State : Type 0} → Log → List (ThreadAt State) → (ℕ → Count) → Option (Flat Entry) → List ℕ
awaited_by log threads counts None = []
awaited_by log threads counts (Some Clash) = []
awaited_by log threads counts (Some (Known item)) = awaited_lines log threads counts item.found

-- how the gate before it is, or what a shut one waits for
abbrev pub gate_text : Gate → List ℕ → List ℕ
gate_text gate.Open lines = codes "open\n"
gate_text gate.Shut lines = lines
gate_text gate.Missing lines = codes "missing\n"
gate_text gate.Clash lines = codes "clash\n"
gate_text gate.Done lines = codes "done\n"

-- the next event of a thread that has made so many, and what it waits for
abbrev pub waits_text : {State : Type 0} → Log → List (ThreadAt State) → (ℕ → Count) → (thread places : ℕ) → List ℕ
waits_text log threads counts thread places =
    next_line thread places (log.entry thread places) ++ gate_text (gate_of log counts thread places) (awaited_by log threads counts (log.entry thread places))
