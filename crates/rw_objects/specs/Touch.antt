-- The object that a touch of an entry names.
use Rattle.std.specs.Prelude.{ℕ}
use Rattle.rw_objects.specs.declared.touch.Found.{Found}
use Rattle.rw_objects.specs.declared.touch.Found.TheVariants.{Read, Write}

abbrev pub object_of : Found → ℕ
object_of (Read o v) = o
object_of (Write o v r) = o
