-- The lines so far and those of the touches that are left are all.
use Rattle.std.proofs.Common.{◌≡◌, ◌++◌, length}
use Rattle.std.specs.String.{string_bytes}
use Rattle.replica.specs.Rising.{by_number}
use Rattle.replica.specs.Touched.{version_of}
use Rattle.replica.specs.Versions.{knew, version_line}
use Rattle.replica.specs.Chosen.{versions_text}
use Rattle.replica.proofs.Known.{Seen}
use Rattle.replica.proofs.versions.put_versions.Given as goal

abbrev pub invariant-loop-first : goal.invariant-loop-first
invariant-loop-first l = record {
  lines : string_bytes l.text ++ by_number version_of (λ v. version_line l.object v (knew l.touches v)) l.rest ≡ string_bytes l.initial.text ++ versions_text l.object l.touches;
  seen : Seen l.touches l.before l.rest;
}

abbrev pub decreases-loop-first : goal.decreases-loop-first
decreases-loop-first l = length l.rest
