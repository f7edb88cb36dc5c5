-- The touches of objects by the known entries of a log, and the version that each is of.
use Rattle.std.specs.Prelude.{ℕ, ◌+◌, if◌then◌else◌, List, [], true, false, map}
use Rattle.std.specs.List.{flat_map}
use Rattle.rw_objects.specs.declared.entry.Entry.{Entry}
use Rattle.rw_objects.specs.declared.touch.Found.{Found}
use Rattle.rw_objects.specs.declared.touch.Found.TheVariants.{Read, Write}
use Rattle.log_pieces.specs.declared.flat.Flat.{Flat}
use Rattle.log_pieces.specs.declared.flat.Flat.TheVariants.{Known, Clash}
use Rattle.replica.specs.declared.log.Log.{Log}
use Rattle.replica.specs.Log.{items_at}
use Rattle.replica.specs.Divergence.{threads}
use Rattle.replica.specs.declared.diverging.EventAt.{EventAt}
use Rattle.replica.specs.declared.touch.ObjectTouch.{ObjectTouch}

abbrev pub object_of : ObjectTouch → ℕ
object_of t = t.object

abbrev pub thread_of : ObjectTouch → ℕ
thread_of t = t.thread

-- where its event stands
abbrev pub event_of : ObjectTouch → EventAt
event_of t = record { thread = t.thread; place = t.place }

-- the version that it read, or that it made: a write makes the version behind the one that it found
abbrev pub version_of : ObjectTouch → ℕ
version_of t = if t.is_write then t.found + 1 else t.found

abbrev pub touch_of : ℕ → ℕ → Found → ObjectTouch
touch_of thread place (Read object version) = record { object = object; found = version; is_write = false; thread = thread; place = place }
touch_of thread place (Write object version reads) = record { object = object; found = version; is_write = true; thread = thread; place = place }

-- the touches of a known entry
abbrev pub touches_of_item : ℕ → ℕ × Flat Entry → List ObjectTouch
touches_of_item thread (place, Known entry) = map (touch_of thread place) entry.found
touches_of_item thread (place, Clash) = []

-- by rising thread and place
abbrev pub known_touches : Log → List ObjectTouch
known_touches log = flat_map (λ t. flat_map (touches_of_item t) (items_at log t)) threads
