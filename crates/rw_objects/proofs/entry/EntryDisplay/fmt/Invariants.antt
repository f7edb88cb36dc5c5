-- The touches so far are written.
use Rattle.std.proofs.Common.{◌∷◌, take}
use Rattle.std.specs.List.{flat_map}
use Rattle.std.specs.Fmt.{HasWritten, IsPlainFormatter}
use Rattle.rw_objects.specs.Text.{found_text}
use Rattle.rw_objects.proofs.entry.EntryDisplay.fmt.Given as goal

abbrev pub invariant-loop-found : goal.invariant-loop-found
invariant-loop-found g l =
    IsPlainFormatter l.initial.f → HasWritten g.W.Write.write_str_gives l.initial.f (flat_map (λ f. 32 ∷ found_text f) (take l.found-index l.found-items)) l.f
