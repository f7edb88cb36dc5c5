-- Which bytes of a memory the objects are that an entry touches. Object 0 is the memory's length, object 1 + 2b is
-- block b, and object 2 + 2b is the queue of those that wait in block b.
use Rattle.std.specs.Prelude.{ℕ, ◌+◌, ◌-◌, ◌*◌, ◌/◌, ◌%◌, ◌^◌, ◌==◌, List, [], ◌++◌, Option, Some, None, codes, if◌then◌else◌}
use Rattle.std.specs.List.{flat_map}
use Rattle.std.specs.Fmt.{decimal}
use Rattle.wasm_types.specs.declared.key.Profile.{Profile}
use Rattle.wasm_types.specs.Memories.{block_power}
use Rattle.rw_objects.specs.declared.entry.Entry.{Entry}
use Rattle.rw_objects.specs.Touch.{object_of}
use Rattle.log_pieces.specs.declared.flat.Flat.{Flat}
use Rattle.log_pieces.specs.declared.flat.Flat.TheVariants.{Known, Clash}
use Rattle.replica.specs.declared.form.ListingForm.{ListingForm}

-- the power by which objects are told, where the form tells of them
abbrev pub blocks_of : ListingForm → Profile → Option ℕ
blocks_of form profile = if form.objects then Some (block_power profile) else None

-- the first byte of the block of an object, or of a queue
abbrev pub block_first : ℕ → ℕ → ℕ
block_first size object = (object - 1) / 2 * size

-- the first and the last of so many bytes
abbrev pub range_text : ℕ → ℕ → List ℕ
range_text first size = decimal first ++ codes ".." ++ decimal (first + size - 1)

abbrev pub object_text : ℕ → ℕ → List ℕ
object_text power object =
    if object == 0 then codes "length"
    else if (object - 1) % 2 == 0 then codes "bytes " ++ range_text (block_first (2 ^ power) object) (2 ^ power)
    else codes "waiters " ++ range_text (block_first (2 ^ power) object) (2 ^ power)

-- `; O: ` and which bytes object O is
abbrev pub touched_text : ℕ → ℕ → List ℕ
touched_text power object = codes "; " ++ decimal object ++ codes ": " ++ object_text power object

abbrev pub touches_text : ℕ → Entry → List ℕ
touches_text power entry = flat_map (λ found. touched_text power (object_of found)) entry.found

-- what stands behind an item, if anything is told there
abbrev pub objects_text : Option ℕ → Flat Entry → List ℕ
objects_text None item = []
objects_text (Some power) (Known entry) = touches_text power entry
objects_text (Some power) Clash = []
