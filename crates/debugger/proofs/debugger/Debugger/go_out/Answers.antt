use Rattle.std.proofs.Common.{ap, ◌∙◌, subst, rules}
use Rattle.std.specs.Prelude.{ℕ}
use Rattle.wasm_world.specs.SharedMemory.{shared_memory}
use Rattle.event_core.specs.World.{world_of}
use Rattle.wasm_replay.specs.Replays.{gathered_log}
use Rattle.wasm_world.specs.ThreadCode.{thread_code}
use Rattle.replay_session.specs.Until.{UntilCeases}
use Rattle.debugger.specs.At.{at_of}
use Rattle.debugger.specs.CodeTests.{depth_in, is_out}
use Rattle.debugger.proofs.debugger.Debugger.go_out.Goals as goal

pub returns-clause-goes : goal.returns-clause-goes
returns-clause-goes c =
    let s = at_of c.args.self.now in
    let until = c.thread_until in
    record {
      leads = until.ensures.leads;
      ceased = subst (λ (d : ℕ). UntilCeases shared_memory thread_code (gathered_log s.log) (is_out d) c.args.thread until.result.steps s.world (world_of until.new.self.replay.world) until.result.ceased)
          (c.depth_in-depth.ensures ∙ ap (λ w. depth_in (world_of w) c.args.thread) c.world.ensures.same) until.ensures.ceased;
      right = until.ensures.right;
      free = until.ensures.free;
      legs = until.ensures.legs;
      same = search rules;
    }
