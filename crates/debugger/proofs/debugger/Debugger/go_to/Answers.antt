use Rattle.std.proofs.Common.{[], ◌∷◌}
use Rattle.event_core.specs.World.{world_of}
use Rattle.replay_gate.specs.declared.breaks.Break.TheVariants.{Place}
use Rattle.wasm_replay.specs.Replays.{gathered_log}
use Rattle.debugger.specs.At.{at_of}
use Rattle.debugger.proofs.Reached.{stop_reached}
use Rattle.debugger.proofs.debugger.Debugger.go_to.Goals as goal

pub stopped_line-requires : goal.stopped_line-requires
stopped_line-requires c =
    let s = at_of c.args.self.now in
    stop_reached (gathered_log s.log) s.opening (Place c.args.thread c.args.place ∷ []) s.world (world_of c.go_to.new.self.replay.world) s.legs c.go_to.new.self.legs.items c.in-Ok.stopped c.in-Ok.ensures.stops
