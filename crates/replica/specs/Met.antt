-- What is kept of the versions that touches met.
use Rattle.std.specs.Prelude.{◌≡◌, ℕ, Bool, false, List, Option, Some, None}
use Rattle.std.specs.BTreeMap as tree
use Rattle.std.specs.Ordering.{nat_cmp, ordering_then}
use Rattle.std.specs.declared.cmp.Ordering.{Ordering}
use Rattle.replica.specs.declared.versions_met.LineAt.{LineAt}
use Rattle.replica.specs.declared.versions_met.VersionOf.{VersionOf}
use Rattle.replica.specs.declared.versions_met.VersionMet.{VersionMet}
use Rattle.replica.specs.declared.versions_met.VersionsMet.{VersionsMet}
use Rattle.replica.specs.Members.{has_thread}
use Rattle.replica.specs.ObjectLines.{Seen, maker_of, knows}

-- the derived order of versions
abbrev pub version_cmp : VersionOf → VersionOf → Ordering
version_cmp x y = ordering_then (nat_cmp x.object y.object) (nat_cmp x.version y.version)

abbrev pub met_in : VersionsMet → ℕ → ℕ → Option VersionMet
met_in met object version = tree.get version_cmp met.versions (record { object = object; version = version })

abbrev pub maker_if : Option VersionMet → Option LineAt
maker_if None = None
maker_if (Some v) = v.maker

abbrev pub is_known_if : Option VersionMet → ℕ → Bool
is_known_if None thread = false
is_known_if (Some v) thread = has_thread v.threads thread

-- the line of the write that made a version, as it is kept
abbrev pub maker_in : VersionsMet → ℕ → ℕ → Option LineAt
maker_in met object version = maker_if (met_in met object version)

-- a thread made or read a version, as it is kept
abbrev pub is_known_in : VersionsMet → ℕ → ℕ → ℕ → Bool
is_known_in met object version thread = is_known_if (met_in met object version) thread

-- what is kept is what these touches say
pub record HasMet (met : VersionsMet) (seen : List Seen) : Type 0 where
  pub makers : (object version : ℕ) → maker_in met object version ≡ maker_of object version seen
  pub threads : (object version thread : ℕ) → is_known_in met object version thread ≡ knows object version seen thread
