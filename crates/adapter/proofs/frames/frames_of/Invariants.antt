-- the frames so far are told
use Rattle.std.proofs.Common.{◌≡◌}
use Rattle.wasm_world.specs.Standing.{standing}
use Rattle.adapter.specs.Frames.{frames_of}
use Rattle.adapter.proofs.frames.frames_of.Given as goal

abbrev pub invariant-loop-index : goal.invariant-loop-index
invariant-loop-index l = l.frames ≡ frames_of l.code (standing l.machine.thread.state) l.thread l.first l.index
