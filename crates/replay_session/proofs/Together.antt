-- Rounds of local steps, and the turns up to a break, are turns of threads 0, 1, .. in rounds.
use Rattle.std.proofs.Common.{◌≡◌, ℕ, suc, ◌+◌, ◌*◌, ◌/◌, ◌≤◌, List, [], length, sym, ap, ◌∙◌, arith, inl, inr}
use Rattle.std.proofs.Math.Nat.{div-mul-le_self, mul-le-mul_right}
use Rattle.rw_objects.specs.Space.{Space}
use Rattle.rw_objects.specs.Code.{Code, CodeLaws}
use Rattle.event_core.specs.Threads.{all_steps}
use Rattle.event_core.specs.World.{WorldAt}
use Rattle.replay_laws.specs.Log.{Log}
use Rattle.replay_laws.specs.Ordered.{thread_of_turn, ordered_world}
use Rattle.replay_laws.specs.Turns.{turn_of, world_after_turn}
use Rattle.replay_gate.specs.LocalRounds.{RoundsLead}
use Rattle.replay_gate.specs.declared.breaks.Break.{Break}
use Rattle.replay_gate.specs.declared.breaks.Stopped.{Stopped}
use Rattle.replay_gate.specs.declared.breaks.Stopped.TheVariants as stopped
use Rattle.replay_gate.specs.Stops.{IsBehind, StopsAt}
use Rattle.replay_gate.proofs.LocalRounds.{behind_rounds}
use Rattle.replay_session.specs.Rounds.{RoundsGo}
use Rattle.replay_session.specs.Ways.{TurnsLead}
use Rattle.replay_session.proofs.RoundTurns.{few_made, some_made, turns_made}

module _ {State Op Reply Value Fixed : Type 0} (space : Space Op Reply Value Fixed) (code : Code State Op Reply Fixed) (rules : CodeLaws space code) (log : Log) (w : WorldAt State Value Fixed) where
  abbrev n : ℕ
  n = length w.threads

  abbrev point : ℕ → WorldAt State Value Fixed
  point k = ordered_world space code log w [] k

  -- ---- rounds of local steps

  before_first : IsBehind space code log w [] [] (0 + (0 * n + 0)) w
  before_first = record {
    at = ap point (let z : 0 ≡ 0 + (0 * n + 0) = omega arith in z);
    goes_on = λ i l. absurd (omega (arith, l));
    no_break = λ i l. absurd (omega (arith, l));
  }

  pub local_point : (k : ℕ) (v : WorldAt State Value Fixed) → RoundsLead space code log k w v → v ≡ point (k * n)
  local_point k v h =
      elim h [
        | inl x ↦ x.1 ∙ ap point (let z : 0 ≡ 0 * n = omega arith in z ∙ ap (λ i. i * n) (sym x.0))
        | inr r ↦
            let b = behind_rounds space code rules log k w v r w [] [] 0 (λ j b e. absurd cc) before_first in
            b.at ∙ ap point (let z : 0 + ((0 + k) * n + 0) ≡ k * n = omega arith in z)
      ]

  pub local_rounds : (k a : ℕ) (v : WorldAt State Value Fixed) → RoundsLead space code log k w v → all_steps code v.threads ≡ all_steps code w.threads + a → RoundsGo space code log a w v
  local_rounds k a v h s = record { rounds = k; leads = local_point k v h; steps = s }

  pub local_grow : (k : ℕ) (v : WorldAt State Value Fixed) → RoundsLead space code log k w v → all_steps code w.threads ≤ all_steps code v.threads
  local_grow k v h = some_made space code rules log w (k * n) v (local_point k v h)

  -- so few rounds make no more steps
  pub local_few : (k most count : ℕ) (v : WorldAt State Value Fixed) → count ≡ n → k ≤ most / count → RoundsLead space code log k w v → all_steps code v.threads ≤ all_steps code w.threads + most
  local_few k most count v all few h =
      let m = few_made space code rules log w (k * n) v (local_point k v h) in
      let e = ap (λ i. k * i) all in
      let a = mul-le-mul_right count few in
      let b = div-mul-le_self most count in
      omega (arith, m, e, a, b)

  -- ---- the turns up to a break

  pub stopped_behind : (breaks : List Break) (v : WorldAt State Value Fixed) (s : Stopped) → StopsAt space code log w [] breaks v s → (k : ℕ) × (v ≡ point k)
  stopped_behind breaks v (stopped.Break index) x =
      let t = thread_of_turn [] n x.turns in
      (suc x.turns, x.stops.1 ∙ ap (λ u. world_after_turn space code u t (turn_of space code log u t)) x.behind.at)
  stopped_behind breaks v stopped.Finished x = (x.0.turns, x.0.behind.at)
  stopped_behind breaks v stopped.Stuck x = (x.0.turns, x.0.behind.at)
  stopped_behind breaks v (stopped.Fault f) x = (x.turns, x.stops.1 ∙ x.behind.at)

  pub stops_turns : (breaks : List Break) (v : WorldAt State Value Fixed) (s : Stopped) → StopsAt space code log w [] breaks v s → (a : ℕ) × TurnsLead space code log a w v
  stops_turns breaks v s x = let b = stopped_behind breaks v s x in turns_made space code rules log w b.0 v b.1
