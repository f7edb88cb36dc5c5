use Rattle.std.proofs.Common.{◌≡◌, length, map, drop}
use Rattle.std.specs.Vec.Iter.{into_iter_items}
use Rattle.workers.specs.Work.{opening_worker}
use Rattle.workers.proofs.recording_workers.open_workers.Given as goal

abbrev pub invariant-loop-machine : goal.invariant-loop-machine
invariant-loop-machine g l = record {
  rest : into_iter_items l.machine-iterator ≡ drop (length l.yielded) l.fn.machines.items;
  workers : l.workers.items ≡ map (opening_worker l.steps) l.yielded;
}
