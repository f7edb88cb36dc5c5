-- Where turns of the threads of an order lead.
use Rattle.std.specs.Prelude.{ℕ, List, [], ◌∷◌}
use Rattle.replay_laws.specs.Turns.{turn_of, world_after_turn}
use Rattle.replay_session.specs.Gone.{steps_of_turn}
use Rattle.replay_session.specs.Legs.{with_thread}
use Rattle.wasm_replay.specs.Replays.{gathered_log}
use Rattle.wasm_world.specs.SharedMemory.{shared_memory}
use Rattle.wasm_world.specs.ThreadCode.{thread_code}
use Rattle.debugger.specs.Replies.{DebugAt, moved}

-- a turn of a thread: where it is refused, the thread is passed over
abbrev pub after_turn : DebugAt → ℕ → DebugAt
after_turn s t =
    let turn = turn_of shared_memory thread_code (gathered_log s.log) s.world t in
    moved s (with_thread s.legs t (steps_of_turn turn)) (world_after_turn shared_memory thread_code s.world t turn)

abbrev pub after_turns : DebugAt → List ℕ → DebugAt
after_turns s [] = s
after_turns s (t ∷ ts) = after_turns (after_turn s t) ts
