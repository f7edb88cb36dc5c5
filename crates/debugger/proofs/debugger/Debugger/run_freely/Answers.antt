use Rattle.std.proofs.Common.{subst, List, sym, rules, []}
use Rattle.wasm_world.specs.SharedMemory.{shared_memory}
use Rattle.event_core.specs.World.{world_of}
use Rattle.wasm_replay.specs.Replays.{gathered_log}
use Rattle.wasm_world.specs.ThreadCode.{thread_code}
use Rattle.replay_gate.specs.declared.breaks.Break.{Break}
use Rattle.replay_gate.specs.Stops.{StopsAt}
use Rattle.replay_session.specs.declared.paused.Paused.{Paused}
use Rattle.debugger.specs.At.{at_of}
use Rattle.debugger.specs.Replies.{RunsOn}
use Rattle.debugger.proofs.Pausing.{runs_so}
use Rattle.debugger.proofs.debugger.Debugger.run_freely.Goals as goal

pub returns-in-Ok-clause-runs : goal.returns-in-Ok-clause-runs
returns-in-Ok-clause-runs c =
    let s = at_of c.args.self.now in
    let u = at_of (record c.args.self.now { session = c.run_on.new.self }) in
    let stopped = c.in-Ok.stopped in
    subst (λ (p : Paused). RunsOn s u p) (sym c.paused_of.ensures)
    (runs_so s u stopped c.requires.instructions c.requires.watches
    (subst (λ (bs : List Break). StopsAt shared_memory thread_code (gathered_log s.log) s.world [] bs u.world stopped) c.deref.ensures.value c.in-Ok.ensures.stops)
    c.in-Ok.ensures.right c.in-Ok.ensures.free c.in-Ok.ensures.legs (search rules))
