-- what the touches so far wait for is written
use Rattle.std.proofs.Common.{◌≡◌, ◌++◌, take}
use Rattle.std.specs.Prelude.{string_bytes}
use Rattle.event_core.specs.World.{world_of}
use Rattle.debugger.specs.Waits.{awaited_lines}
use Rattle.debugger.proofs.waits.write_all_awaited.Given as goal

abbrev pub invariant-loop-found : goal.invariant-loop-found
invariant-loop-found g l =
    string_bytes l.text ≡ string_bytes l.initial.text ++ awaited_lines (g.L.ReadLog.log l.log) (world_of l.world).threads (world_of l.world).memory.counts (take l.found-index l.all)
