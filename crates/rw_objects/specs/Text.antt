-- The texts of entries.
use Rattle.std.specs.Prelude.{ℕ, List, ◌∷◌, ◌++◌, codes}
use Rattle.std.specs.List.{flat_map}
use Rattle.std.specs.Fmt.{decimal}
use Rattle.rw_objects.specs.declared.touch.Found.{Found}
use Rattle.rw_objects.specs.declared.touch.Found.TheVariants.{Read, Write}
use Rattle.rw_objects.specs.declared.entry.Kind.{Kind}
use Rattle.rw_objects.specs.declared.entry.Kind.TheVariants.{Access, Woken, TimedOut}
use Rattle.rw_objects.specs.declared.entry.Entry.{Entry}

-- `rO@V`, and `wO@V/R` for a write after R reads
abbrev pub found_text : Found → List ℕ
found_text (Read o v) = codes "r" ++ decimal o ++ codes "@" ++ decimal v
found_text (Write o v r) = codes "w" ++ decimal o ++ codes "@" ++ decimal v ++ codes "/" ++ decimal r

abbrev pub kind_text : Kind → List ℕ
kind_text Access = codes "access"
kind_text Woken = codes "woken"
kind_text TimedOut = codes "timedout"

-- the kind, then each touch after a space
abbrev pub entry_text : Entry → List ℕ
entry_text e = kind_text e.kind ++ flat_map (λ f. 32 ∷ found_text f) e.found
