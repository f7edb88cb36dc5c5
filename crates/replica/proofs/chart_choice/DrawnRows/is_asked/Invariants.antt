-- No touch so far is of an object that is asked for.
use Rattle.std.proofs.Common.{◌≡◌, drop}
use Rattle.std.specs.List.{list_any}
use Rattle.rw_objects.specs.Touch.{object_of}
use Rattle.replica.specs.Chosen.{is_named}
use Rattle.replica.proofs.chart_choice.DrawnRows.is_asked.Given as goal

abbrev pub invariant-loop-found : goal.invariant-loop-found
invariant-loop-found l = list_any (λ f. is_named l.self.objects.only (object_of f)) (drop l.found-index l.found-items) ≡ list_any (λ f. is_named l.self.objects.only (object_of f)) l.found-items
