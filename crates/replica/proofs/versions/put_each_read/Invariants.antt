-- The reads so far and those of the touches that are left are all.
use Rattle.std.proofs.Common.{◌≡◌, ◌++◌, drop}
use Rattle.std.specs.List.{filter, flat_map}
use Rattle.std.specs.String.{string_bytes}
use Rattle.replica.specs.Versions.{is_read, read_text}
use Rattle.replica.proofs.versions.put_each_read.Given as goal

abbrev pub invariant-loop-touch : goal.invariant-loop-touch
invariant-loop-touch l =
    string_bytes l.text ++ flat_map read_text (filter is_read (drop l.touch-index l.touches))
    ≡ string_bytes l.initial.text ++ flat_map read_text (filter is_read l.touches)
