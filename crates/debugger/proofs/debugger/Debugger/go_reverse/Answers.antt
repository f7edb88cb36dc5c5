use Rattle.std.proofs.Common.{subst, ◌∙◌, List, map, rules}
use Rattle.wasm_world.specs.SharedMemory.{shared_memory}
use Rattle.wasm_world.specs.CodePlace.{CodePlace}
use Rattle.wasm_replay.specs.Replays.{gathered_log}
use Rattle.wasm_world.specs.ThreadCode.{thread_code}
use Rattle.replay_gate.specs.declared.breaks.Break.{Break}
use Rattle.replay_session.specs.Reverse.{GoesBackUntil}
use Rattle.debugger.specs.declared.watching.Seen.{Seen}
use Rattle.debugger.specs.At.{at_of}
use Rattle.debugger.specs.CodeTests.{is_behind}
use Rattle.debugger.specs.Replies.{is_behind_from}
use Rattle.debugger.specs.Watches.{seen_now}
use Rattle.debugger.proofs.debugger.Debugger.go_reverse.Goals as goal

pub returns-in-Ok-clause-goes : goal.returns-in-Ok-clause-goes
returns-in-Ok-clause-goes c =
    let s = at_of c.args.self.now in
    let legs = c.reverse_until.new.self.legs.items in
    let log = gathered_log s.log in
    let seen = map (seen_now s.world) s.watches in
    record {
      back = subst (λ (bs : List Break). GoesBackUntil shared_memory thread_code log bs (is_behind_from s) s.opening s.legs legs c.in-Ok.found) c.deref.ensures.value
          (subst (λ (ps : List CodePlace). GoesBackUntil shared_memory thread_code log c.deref.result.now (is_behind ps seen) s.opening s.legs legs c.in-Ok.found) c.as_slice.ensures.value
          (subst (λ (ks : List Seen). GoesBackUntil shared_memory thread_code log c.deref.result.now (is_behind c.as_slice.result.now ks) s.opening s.legs legs c.in-Ok.found) (c.as_slice-2.ensures.value ∙ c.in_ok-seen.ensures)
          c.in-Ok.ensures.goes));
      same = search rules;
      led = search rules;
    }
