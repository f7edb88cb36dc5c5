use Rattle.std.proofs.Common.{subst, ◌∙◌, List, map, rules}
use Rattle.wasm_world.specs.SharedMemory.{shared_memory}
use Rattle.wasm_world.specs.CodePlace.{CodePlace}
use Rattle.event_core.specs.World.{world_of}
use Rattle.wasm_replay.specs.Replays.{gathered_log}
use Rattle.wasm_world.specs.ThreadCode.{thread_code}
use Rattle.replay_gate.specs.declared.breaks.Break.{Break}
use Rattle.replay_session.specs.Pauses.{PausesAt}
use Rattle.debugger.specs.declared.watching.Seen.{Seen}
use Rattle.debugger.specs.At.{at_of}
use Rattle.debugger.specs.CodeTests.{is_behind}
use Rattle.debugger.specs.Replies.{is_behind_from}
use Rattle.debugger.specs.Watches.{seen_now}
use Rattle.debugger.proofs.debugger.Debugger.run_tested.Goals as goal

pub returns-in-Ok-clause-runs : goal.returns-in-Ok-clause-runs
returns-in-Ok-clause-runs c =
    let s = at_of c.args.self.now in
    let v = world_of c.run_until.new.self.replay.world in
    let log = gathered_log s.log in
    let seen = map (seen_now s.world) s.watches in
    record {
      pauses = subst (λ (bs : List Break). PausesAt shared_memory thread_code log bs (is_behind_from s) s.world v c.in-Ok.how) c.deref.ensures.value
          (subst (λ (ps : List CodePlace). PausesAt shared_memory thread_code log c.deref.result.now (is_behind ps seen) s.world v c.in-Ok.how) c.as_slice.ensures.value
          (subst (λ (ks : List Seen). PausesAt shared_memory thread_code log c.deref.result.now (is_behind c.as_slice.result.now ks) s.world v c.in-Ok.how) (c.as_slice-2.ensures.value ∙ c.in_ok-seen.ensures)
          c.in-Ok.ensures.pauses));
      right = c.in-Ok.ensures.right;
      free = c.in-Ok.ensures.free;
      legs = c.in-Ok.ensures.legs;
      same = search rules;
    }
