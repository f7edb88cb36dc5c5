-- The objects that a thread's next event touches by the log, as variables: a thread waits for the version that its log has
-- of one (LeBlanc and Mellor-Crummey 1987).
use Rattle.std.specs.Prelude.{ℕ, List, [], ◌++◌, Option, Some, None, codes, map}
use Rattle.std.specs.Fmt.{decimal}
use Rattle.rw_objects.specs.declared.count.Count.{Count}
use Rattle.rw_objects.specs.declared.entry.Entry.{Entry}
use Rattle.rw_objects.specs.declared.touch.Found.{Found}
use Rattle.rw_objects.specs.Text.{found_text}
use Rattle.rw_objects.specs.Touch.{object_of}
use Rattle.log_pieces.specs.declared.flat.Flat.{Flat}
use Rattle.log_pieces.specs.declared.flat.Flat.TheVariants.{Known, Clash}
use Rattle.adapter_messages.specs.declared.parts.Variable.{Variable}

-- how often an object was written, and read since, and how the log has the touch: `version 2 reads 0, next w1@3/0`
abbrev pub version_text : Count → Found → List ℕ
version_text c f = codes "version " ++ decimal c.version ++ codes " reads " ++ decimal c.reads ++ codes ", next " ++ found_text f

-- `object N` is that
abbrev pub version_item : (counts : ℕ → Count) → Found → Variable
version_item counts f = record { name = codes "object " ++ decimal (object_of f); value = version_text (counts (object_of f)) f; reference = 0 }

-- one of each touch that is claimed of the event, and none where nothing is, or what contradicts
abbrev pub versions_of : (counts : ℕ → Count) → Option (Flat Entry) → List Variable
versions_of counts None = []
versions_of counts (Some Clash) = []
versions_of counts (Some (Known e)) = map (version_item counts) e.found
