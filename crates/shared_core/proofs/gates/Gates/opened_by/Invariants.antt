-- The seats so far are told of, and of those to come it is open whether one is opened.
use Rattle.std.specs.Prelude.{◌||◌, ◌++◌, map}
use Rattle.std.specs.List.{list_any}
use Rattle.std.proofs.Common.{◌≡◌, take, drop}
use Rattle.rw_objects.specs.Counts.{count_at}
use Rattle.shared_core.specs.Gates.{is_opened}
use Rattle.shared_core.proofs.gates.Gates.opened_by.Given as goal

abbrev pub invariant-loop-seat : goal.invariant-loop-seat
invariant-loop-seat l = record {
  some : (l.some || list_any (is_opened l.touches (count_at l.versions)) (drop l.seat l.self.awaited.items)) ≡ list_any (is_opened l.touches (count_at l.versions)) l.self.awaited.items;
  seats : l.opened ≡ map (is_opened l.touches (count_at l.versions)) (take l.seat l.self.awaited.items) ++ drop l.seat l.initial.opened;
}
