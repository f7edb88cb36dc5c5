-- the objects so far are told
use Rattle.std.proofs.Common.{◌≡◌, map, take}
use Rattle.rw_objects.specs.Counts.{count_at}
use Rattle.adapter.specs.Versions.{version_item}
use Rattle.adapter.proofs.versions.version_items.Given as goal

abbrev pub invariant-loop-found : goal.invariant-loop-found
invariant-loop-found l = l.items ≡ map (version_item (count_at l.versions)) (take l.found-index l.all)
