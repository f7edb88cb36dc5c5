-- The ordered gated run: turns of the threads of an order, then of each thread again and again.
use Rattle.std.specs.Prelude.{ℕ, zero, suc, ◌-◌, ◌%◌, List, [], ◌∷◌, ◌++◌, length, Option, Some, None, slice_get, unwrap_or}
use Rattle.rw_objects.specs.Space.{Space}
use Rattle.rw_objects.specs.Code.{Code}
use Rattle.event_core.specs.declared.pick.Pick.{Pick}
use Rattle.event_core.specs.declared.pick.Input.{Input}
use Rattle.event_core.specs.World.{WorldAt}
use Rattle.replay_laws.specs.Log.{Log}
use Rattle.replay_laws.specs.Turns.{pick_of, turn_of, world_after_turn, input_of_turn}

-- turn i is of the order's thread i, and past the order's end of threads 0, 1, .. of n in turn
abbrev pub thread_of_turn : List ℕ → ℕ → ℕ → ℕ
thread_of_turn order n i = unwrap_or (slice_get order i) ((i - length order) % n)

abbrev pub pick_made : ℕ → Option Input → List Pick
pick_made t None = []
pick_made t (Some input) = pick_of t input ∷ []

module _ {State Op Reply Value Fixed : Type 0} (space : Space Op Reply Value Fixed) (code : Code State Op Reply Fixed) (log : Log) (w : WorldAt State Value Fixed) (order : List ℕ) where
  -- the world after the first k turns; each makes its thread's step, where the log lets one pass
  abbrev pub ordered_world : ℕ → WorldAt State Value Fixed
  ordered_world zero = w
  ordered_world (suc k) =
      let t = thread_of_turn order (length w.threads) k in
      world_after_turn space code (ordered_world k) t (turn_of space code log (ordered_world k) t)

  -- the picks that the first k turns make
  abbrev pub ordered_picks : ℕ → List Pick
  ordered_picks zero = []
  ordered_picks (suc k) =
      let t = thread_of_turn order (length w.threads) k in
      ordered_picks k ++ pick_made t (input_of_turn (turn_of space code log (ordered_world k) t))
