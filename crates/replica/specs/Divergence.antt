-- What contradicts itself in a gathered log: items that pieces claim differently, and writes of one version that are
-- claimed twice.
use Rattle.std.specs.Prelude.{ℕ, ◌==◌, ◌&&◌, cond, List, [], ◌∷◌, ◌++◌, Option, Some, None}
use Rattle.std.specs.List.{flat_map, range_with_len}
use Rattle.rw_objects.specs.declared.entry.Entry.{Entry}
use Rattle.rw_objects.specs.declared.touch.Found.{Found}
use Rattle.rw_objects.specs.declared.touch.Found.TheVariants.{Read, Write}
use Rattle.log_pieces.specs.declared.end.End.{End}
use Rattle.log_pieces.specs.declared.flat.Flat.{Flat}
use Rattle.log_pieces.specs.declared.flat.Flat.TheVariants as flat
use Rattle.replica.specs.declared.log.Log.{Log}
use Rattle.replica.specs.Log.{items_at, end_at}
use Rattle.replica.specs.declared.diverging.Diverging.{Diverging}
use Rattle.replica.specs.declared.diverging.Diverging.TheVariants.{Clash, DoubleWrite}
use Rattle.replica.specs.declared.diverging.EventAt.{EventAt}
use Rattle.replica.specs.declared.writes.Written.{Written}
use Rattle.replica.specs.declared.writes.WriteAt.{WriteAt}

-- ---- clashes

abbrev pub clash_of_item : ℕ → ℕ × Flat Entry → List Diverging
clash_of_item thread (place, flat.Known entry) = []
clash_of_item thread (place, flat.Clash) = Clash thread (Some place) ∷ []

abbrev pub clash_of_end : ℕ → Option (Flat End) → List Diverging
clash_of_end thread (Some flat.Clash) = Clash thread None ∷ []
clash_of_end thread (Some (flat.Known end)) = []
clash_of_end thread None = []

-- the threads of a log
abbrev pub threads : List ℕ
threads = range_with_len 0 16

-- by rising thread and place
abbrev pub entry_clashes : Log → List Diverging
entry_clashes log = flat_map (λ t. flat_map (clash_of_item t) (items_at log t)) threads

-- by rising thread
abbrev pub end_clashes : Log → List Diverging
end_clashes log = flat_map (λ t. clash_of_end t (end_at log t)) threads

-- ---- writes

abbrev pub write_of : ℕ → ℕ → Found → List WriteAt
write_of thread place (Read object version) = []
write_of thread place (Write object version reads) = record { written = record { object = object; version = version }; at = record { thread = thread; place = place } } ∷ []

-- the writes that a known entry claims
abbrev pub writes_of_item : ℕ → ℕ × Flat Entry → List WriteAt
writes_of_item thread (place, flat.Known entry) = flat_map (write_of thread place) entry.found
writes_of_item thread (place, flat.Clash) = []

-- by rising thread and place
abbrev pub writes : Log → List WriteAt
writes log = flat_map (λ t. flat_map (writes_of_item t) (items_at log t)) threads

-- where the first of these writes stands that is of this object and version
abbrev pub first_of : List WriteAt → Written → Option EventAt
first_of [] w = None
first_of (x ∷ xs) w = cond (x.written.object == w.object && x.written.version == w.version) (Some x.at) (first_of xs w)

abbrev pub double_of : WriteAt → Option EventAt → List Diverging
double_of x None = []
double_of x (Some first) = DoubleWrite x.written.object x.written.version first x.at ∷ []

-- each write that an earlier one claims too, behind the earlier ones; the touches of an entry are of objects that rise,
-- so the earlier one stands at an earlier thread and place
abbrev pub doubles : List WriteAt → List WriteAt → List Diverging
doubles earlier [] = []
doubles earlier (x ∷ xs) = double_of x (first_of earlier x.written) ++ doubles (earlier ++ x ∷ []) xs

-- ---- together

-- clashes of entries, then of ends, then double writes, each by the thread and place at which it stands
abbrev pub divergence : Log → List Diverging
divergence log = entry_clashes log ++ end_clashes log ++ doubles [] (writes log)
