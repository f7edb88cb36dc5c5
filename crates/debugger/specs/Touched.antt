-- Which events made a version of an object, and which read it (LeBlanc and Mellor-Crummey 1987).
use Rattle.std.specs.Prelude.{◌≡◌, ℕ, zero, suc, ◌+◌, ◌-◌, ◌<◌, ◌≤◌, ◌==◌, ◌&&◌, Bool, true, false, List, [], ◌∷◌, ◌++◌, Option, Some, None, codes, slice_get}
use Rattle.std.specs.List.{list_any}
use Rattle.std.specs.Fmt.{decimal}
use Rattle.rw_objects.specs.declared.count.Count.{Count}
use Rattle.rw_objects.specs.declared.entry.Entry.{Entry}
use Rattle.rw_objects.specs.declared.touch.Found.{Found}
use Rattle.rw_objects.specs.declared.touch.Found.TheVariants as found
use Rattle.log_pieces.specs.declared.end.End.{End}
use Rattle.log_pieces.specs.declared.flat.Flat.{Flat}
use Rattle.log_pieces.specs.declared.flat.Flat.TheVariants.{Known, Clash}
use Rattle.event_core.specs.Threads.{ThreadAt}
use Rattle.replay_laws.specs.Log.{Log}
use Rattle.replica.specs.declared.diverging.EventAt.{EventAt}
use Rattle.replica.specs.Objects.{object_text as bytes_of_object}
use Rattle.debugger.specs.declared.made_by.TheConstants.{STRETCH}
use Rattle.debugger.specs.declared.touched.Events.{Events}
use Rattle.debugger.specs.declared.touched.Events.TheVariants.{Made, Ahead}
use Rattle.debugger.specs.declared.touched.Role.{Role}
use Rattle.debugger.specs.declared.touched.Role.TheVariants as role
use Rattle.debugger.specs.declared.touched.Sought.{Sought}

abbrev pub is_writer : Role → Bool
is_writer role.Writer = true
is_writer role.Reader = false

abbrev pub is_reader : Role → Bool
is_reader role.Writer = false
is_reader role.Reader = true

-- a read is of the version that it found; a write makes the one behind that
abbrev pub is_sought : Sought → Found → Bool
is_sought s (found.Read object version) = is_reader s.role && (object == s.object && version == s.version)
is_sought s (found.Write object version reads) = is_writer s.role && (object == s.object && version + 1 == s.version)

abbrev pub is_sought_entry : Sought → Flat Entry → Bool
is_sought_entry s (Known e) = list_any (is_sought s) e.found
is_sought_entry s Clash = false

abbrev pub is_sought_item : Sought → Option (Flat Entry) → Bool
is_sought_item s None = false
is_sought_item s (Some item) = is_sought_entry s item

-- ` T.P` of an event that did
abbrev pub event_if : Bool → ℕ → ℕ → List ℕ
event_if false thread place = []
event_if true thread place = codes " " ++ (decimal thread ++ (codes "." ++ decimal place))

-- those of n of a thread's events that did, from the first on
abbrev pub events_from : Log → Sought → (thread first n : ℕ) → List ℕ
events_from log s thread first zero = []
events_from log s thread first (suc n) = events_from log s thread first n ++ event_if (is_sought_item s (log.entry thread (first + n))) thread (first + n)

-- the first of the events of a thread that has made so many, and their number: ahead of it are those up to its end
abbrev pub first_of : Events → ℕ → ℕ
first_of Made places = 0
first_of Ahead places = places

abbrev pub count_of : Events → Option (Flat End) → ℕ → ℕ
count_of Made end places = places
count_of Ahead None places = 0
count_of Ahead (Some Clash) places = 0
count_of Ahead (Some (Known end)) places = end.places - places

abbrev pub events_of_thread : Log → Sought → Events → (thread places : ℕ) → List ℕ
events_of_thread log s events thread places = events_from log s thread (first_of events places) (count_of events (log.end thread) places)

-- those of the events of threads, which are numbered from `thread` on
abbrev pub events_of : {State : Type 0} → Log → Sought → Events → ℕ → List (ThreadAt State) → List ℕ
events_of log s events thread [] = []
events_of log s events thread (t ∷ ts) = events_of_thread log s events thread t.places ++ events_of log s events (thread + 1) ts

-- none of a thread's first events did
abbrev pub NoEventOfThread : Log → Sought → (thread places : ℕ) → Type 0
NoEventOfThread log s thread places = (q : ℕ) → q < places → is_sought_item s (log.entry thread q) ≡ false

-- the first of a thread's first events that did
pub record IsFirstOfThread (log : Log) (s : Sought) (thread places p : ℕ) : Type 0 where
  pub made : p < places
  pub sought : is_sought_item s (log.entry thread p) ≡ true
  pub first : NoEventOfThread log s thread p

-- of the events that threads made, those of threads below n did not
abbrev pub NoEventBelow : {State : Type 0} → Log → Sought → List (ThreadAt State) → ℕ → Type 0
NoEventBelow {State} log s threads n = (t : ℕ) → t < n → (at : ThreadAt State) → slice_get threads t ≡ Some at → NoEventOfThread log s t at.places

-- the first of them, by thread and place, that did
pub record IsFirstEvent {State : Type 0} (log : Log) (s : Sought) (threads : List (ThreadAt State)) (e : EventAt) : Type 0 where
  pub at : ThreadAt State
  pub thread : slice_get threads e.thread ≡ Some at
  pub first : IsFirstOfThread log s e.thread at.places e.place
  pub none : NoEventBelow log s threads e.thread

abbrev pub NoEvent : {State : Type 0} → Log → Sought → List (ThreadAt State) → Type 0
NoEvent {State} log s threads = (t : ℕ) (at : ThreadAt State) → slice_get threads t ≡ Some at → NoEventOfThread log s t at.places

abbrev pub IsFoundEvent : {State : Type 0} → Log → Sought → List (ThreadAt State) → Option EventAt → Type 0
IsFoundEvent log s threads None = NoEvent log s threads
IsFoundEvent log s threads (Some e) = IsFirstEvent log s threads e

-- none of a thread's last n events did
abbrev pub NoLastOfThread : Log → Sought → (thread places n : ℕ) → Type 0
NoLastOfThread log s thread places n = (q : ℕ) → q < places → places ≤ q + n → is_sought_item s (log.entry thread q) ≡ false

-- some event of a thread did; or where none of the last n did, no one of the stretch in front of these did
abbrev pub IsSomeOfThread : Log → Sought → (thread places n : ℕ) → Option ℕ → Type 0
IsSomeOfThread log s thread places n None = NoLastOfThread log s thread places n → NoLastOfThread log s thread places (n + STRETCH)
IsSomeOfThread log s thread places n (Some p) = (p < places) × (is_sought_item s (log.entry thread p) ≡ true)

-- of threads below a number, none of the last n events did
abbrev pub NoLastBelow : {State : Type 0} → Log → Sought → List (ThreadAt State) → (n below : ℕ) → Type 0
NoLastBelow {State} log s threads n below = (t : ℕ) → t < below → (at : ThreadAt State) → slice_get threads t ≡ Some at → NoLastOfThread log s t at.places n

abbrev pub NoLast : {State : Type 0} → Log → Sought → List (ThreadAt State) → ℕ → Type 0
NoLast {State} log s threads n = (t : ℕ) (at : ThreadAt State) → slice_get threads t ≡ Some at → NoLastOfThread log s t at.places n

-- some event that threads made did
pub record IsSomeEvent {State : Type 0} (log : Log) (s : Sought) (threads : List (ThreadAt State)) (e : EventAt) : Type 0 where
  pub at : ThreadAt State
  pub thread : slice_get threads e.thread ≡ Some at
  pub made : e.place < at.places
  pub sought : is_sought_item s (log.entry e.thread e.place) ≡ true

-- some did; or of the last n of each thread none did
abbrev pub IsSomeOfLast : {State : Type 0} → Log → Sought → List (ThreadAt State) → ℕ → Option EventAt → Type 0
IsSomeOfLast log s threads n None = NoLast log s threads n
IsSomeOfLast log s threads n (Some e) = IsSomeEvent log s threads e

-- no thread made more than n events
abbrev pub MadeAtMost : {State : Type 0} → List (ThreadAt State) → ℕ → Type 0
MadeAtMost {State} threads n = (t : ℕ) (at : ThreadAt State) → slice_get threads t ≡ Some at → at.places ≤ n

abbrev pub role_words : Role → List ℕ
role_words role.Writer = codes " written by"
role_words role.Reader = codes " read by"

abbrev pub or_nobody : List ℕ → List ℕ
or_nobody [] = codes " nobody"
or_nobody (b ∷ bs) = b ∷ bs

-- `object O version V written by T.P`
abbrev pub sought_line : Sought → List ℕ → List ℕ
sought_line s events = codes "object " ++ (decimal s.object ++ (codes " version " ++ (decimal s.version ++ (role_words s.role ++ (or_nobody events ++ 10 ∷ [])))))

-- a version of an object, and what is sought of it
abbrev pub sought_of : Role → ℕ → Count → Sought
sought_of r object c = record { role = r; object = object; version = c.version }

abbrev pub told_of : {State : Type 0} → Log → List (ThreadAt State) → Sought → List ℕ
told_of log threads s = sought_line s (events_of log s Made 0 threads)

-- `object O bytes F..L version V reads R`, which of the events that threads made wrote that version, and which read it;
-- in blocks of 2 ^ power bytes
abbrev pub object_text : {State : Type 0} → Log → ℕ → List (ThreadAt State) → ℕ → Count → List ℕ
object_text log power threads object c =
    codes "object " ++ (decimal object ++ (codes " " ++ (bytes_of_object power object ++ (codes " version " ++ (decimal c.version ++ (codes " reads " ++ (decimal c.reads ++ (10 ∷
    (told_of log threads (sought_of role.Writer object c) ++ told_of log threads (sought_of role.Reader object c))))))))))
