-- Turns of threads 0, 1, .. in rounds, up to so many steps.
use Rattle.std.proofs.Common.{◌≡◌, false, ℕ, ◌+◌, ◌-◌, ◌*◌, ◌<◌, ◌≤◌, [], length, ap, ◌∙◌, arith}
use Rattle.rw_objects.specs.Space.{Space, SpaceLaws}
use Rattle.rw_objects.specs.Code.{Code, CodeLaws}
use Rattle.event_core.specs.Threads.{all_steps}
use Rattle.event_core.specs.World.{WorldAt}
use Rattle.replay_laws.specs.Log.{Log, HasLimits}
use Rattle.replay_laws.specs.Ordered.{ordered_world}
use Rattle.replay_laws.specs.Turns.{turn_of}
use Rattle.replay_gate.specs.Answers.{makes_step}
use Rattle.replay_gate.proofs.Rounds.{ordered_length}
use Rattle.replay_session.specs.Gone.{TurnPasses}
use Rattle.replay_session.specs.Ways.{TurnsLead}
use Rattle.replay_session.proofs.GoingAgain.{never_dry}
use Rattle.replay_session.proofs.RoundTurns.{few_so, turn_made, still_rests}
use Rattle.replay_session.proofs.StepsOfWays.{round_next, round_again}

module _ {State Op Reply Value Fixed : Type 0} (space : Space Op Reply Value Fixed) (code : Code State Op Reply Fixed) (log : Log) (w : WorldAt State Value Fixed) (steps : ℕ) where
  -- at world u, behind whole rounds and the turns of the threads before `next`, of so many threads in all: `made` of the
  -- steps are made, and as many as `before` were behind the whole rounds
  pub record RoundsSoFar (made before next count : ℕ) (u : WorldAt State Value Fixed) : Type 0 where
    pub at : (r : ℕ) × (u ≡ ordered_world space code log w [] (r * length w.threads + next))
    pub sum : all_steps code u.threads ≡ all_steps code w.threads + made
    pub few : made ≤ steps
    pub since : before ≤ made
    pub rest : made ≡ before → (t : ℕ) → t < next → makes_step (turn_of space code log u t) ≡ false
    pub within : next ≤ count
    pub all : count ≡ length w.threads
    pub most : count ≤ 16

  pub none_so_far : (count : ℕ) → count ≡ length w.threads → count ≤ 16 → RoundsSoFar 0 0 0 count w
  none_so_far count all most = record {
    at = (0, ap (ordered_world space code log w []) (let z : 0 ≡ 0 * length w.threads + 0 = omega arith in z));
    sum = omega arith;
    few = omega arith;
    since = omega arith;
    rest = λ same t l. absurd (omega (arith, l));
    within = omega arith;
    all = all;
    most = most;
  }

  -- all steps are made
  pub all_so_far : (made before next count : ℕ) (u : WorldAt State Value Fixed) → RoundsSoFar made before next count u → steps ≤ made → TurnsLead space code log steps w u
  all_so_far made before next count u so past =
      let few = so.few in
      let sum = so.sum in
      record { turns = so.at.0 * length w.threads + next; leads = so.at.1; steps = omega (arith, few, past, sum) }

  module _ (laws : CodeLaws space code) (made before next count : ℕ) (u : WorldAt State Value Fixed) (so : RoundsSoFar made before next count u) where
    -- a turn of the next thread
    pub turn_so_far : SpaceLaws space → HasLimits log → made < steps → next < count → (n : ℕ) (v : WorldAt State Value Fixed) → TurnPasses space code log next u v n → RoundsSoFar (made + n) before (next + 1) count v
    turn_so_far spaces limits below more n v passes =
        let all = so.all in
        let since = so.since in
        let one = few_so space code laws log w next n u v passes in
        record {
          at = (so.at.0, round_next space code laws log w so.at.0 next u v n (omega (arith, more, all)) so.at.1 passes);
          sum = turn_made space code laws log w spaces limits next made n u v passes so.sum;
          few = omega (arith, below, one);
          since = omega (arith, since);
          rest = λ none. still_rests space code laws log w next (made - before) n u v passes (λ z. so.rest (omega (arith, z, since))) (omega (arith, none, since));
          within = omega (arith, more);
          all = so.all;
          most = so.most;
        }

    -- a round is whole
    end_of_round : count ≤ next → next ≡ length w.threads
    end_of_round past = let within = so.within in let all = so.all in omega (arith, past, within, all)

    pub round_so_far : count ≤ next → RoundsSoFar made made 0 count u
    round_so_far past = record {
      at = (so.at.0 + 1, round_again space code laws log w so.at.0 u next (end_of_round past) so.at.1);
      sum = so.sum;
      few = so.few;
      since = omega arith;
      rest = λ same t l. absurd (omega (arith, l));
      within = omega arith;
      all = so.all;
      most = so.most;
    }

    -- where all steps can be made, no whole round goes without one
    pub never_stuck : count ≤ next → made ≤ before → made < steps → ∥ ((v : WorldAt State Value Fixed) × TurnsLead space code log steps w v) ∥₁ → ⊥
    never_stuck past still below leads =
        let since = so.since in
        let r = so.at.0 in
        let end = end_of_round past in
        let same : made ≡ before = omega (arith, since, still) in
        let at = round_again space code laws log w r u next end so.at.1 in
        let all : length u.threads ≡ length w.threads = ap (λ x. length x.threads) so.at.1 ∙ ordered_length space code log w [] (r * length w.threads + next) in
        never_dry space code laws log steps w u
        (record {
          made = made;
          few = below;
          rounds = record { rounds = r + 1; leads = at ∙ ap (ordered_world space code log w []) (let z : (r + 1) * length w.threads + 0 ≡ (r + 1) * length w.threads = omega arith in z); steps = so.sum };
          rest = λ t l. so.rest same t (omega (arith, l, all, end));
        }) leads
