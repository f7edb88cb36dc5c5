-- The double writes so far and those of the writes that are left are all; the map has where each version was written
-- first.
use Rattle.std.proofs.Common.{◌≡◌, ◌++◌, [], take, drop}
use Rattle.std.specs.BTreeMap as tree
use Rattle.replica.specs.declared.writes.Written.{Written}
use Rattle.replica.specs.Divergence.{doubles, first_of}
use Rattle.replica.proofs.FirstWrites.{written_cmp}
use Rattle.replica.proofs.doubles.add_doubles.Given as goal

abbrev pub invariant-loop-write : goal.invariant-loop-write
invariant-loop-write l = record {
  made : l.found.items ++ doubles (take l.write-index l.writes) (drop l.write-index l.writes) ≡ l.initial.found.items ++ doubles [] l.writes;
  first : (w : Written) → tree.get written_cmp l.earlier w ≡ first_of (take l.write-index l.writes) w;
}
