-- A round begins behind rounds of local steps.
use Rattle.std.proofs.Common.{ℕ, ◌+◌, ◌≤◌, false, List, sym, ap, subst, arith, inl, inr}
use Rattle.rw_objects.specs.Space.{Space}
use Rattle.rw_objects.specs.Code.{Code, CodeLaws}
use Rattle.event_core.specs.Threads.{all_steps}
use Rattle.event_core.specs.World.{WorldAt}
use Rattle.replay_laws.specs.Log.{Log}
use Rattle.replay_gate.specs.LocalRounds.{RoundsLead}
use Rattle.replay_gate.specs.declared.breaks.Break.{Break}
use Rattle.replay_gate.specs.Clear.{AreClear}
use Rattle.replay_gate.proofs.LocalRounds.{behind_rounds, quiet_rounds, steps_grow}
use Rattle.replay_gate.proofs.BreakRoundsOn.{NotedRound}

module _ {State Op Reply Value Fixed : Type 0} (space : Space Op Reply Value Fixed) (code : Code State Op Reply Fixed) (rules : CodeLaws space code) (log : Log) where
  pub steps_kept : (k : ℕ) (w v : WorldAt State Value Fixed) → RoundsLead space code log k w v → all_steps code w.threads ≤ all_steps code v.threads
  steps_kept k w v lead =
      elim lead [
        | inl z ↦ let same = ap (λ (x : WorldAt State Value Fixed). all_steps code x.threads) z.1 in omega (arith, same)
        | inr r ↦ steps_grow space code rules log k w v r
      ]

  module _ (start : WorldAt State Value Fixed) (order : List ℕ) (breaks : List Break) (note : WorldAt State Value Fixed → ℕ → WorldAt State Value Fixed → List ℕ) (N : List ℕ → Type 0) where
    -- rounds of local steps, of which nothing is noted
    pub rounds_on : (k : ℕ) (w v : WorldAt State Value Fixed) → RoundsLead space code log k w v → AreClear code w k breaks
        → NotedRound space code log start order breaks note N 0 false false w → NotedRound space code log start order breaks note N 0 false false v
    rounds_on k w v lead clear p =
        elim lead [
          | inl z ↦ subst (NotedRound space code log start order breaks note N 0 false false) (sym z.1) p
          | inr rounds ↦ (
            record {
              rounds = p.0.rounds + k;
              turn = behind_rounds space code rules log k w v rounds start order breaks p.0.rounds clear p.0.turn;
              within = omega arith;
              still = λ h i l. absurd (omega (arith, l));
              shut = λ h i l. absurd (omega (arith, l));
              done = λ h j i l. absurd (omega (arith, l));
              waits = λ h i. absurd cc;
            },
            subst N (sym (quiet_rounds space code rules log k w v rounds start order breaks p.0.rounds clear p.0.turn note)) p.1,
          )
        ]
