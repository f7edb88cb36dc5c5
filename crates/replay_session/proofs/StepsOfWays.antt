-- The steps of a way, leg by leg.
use Rattle.std.proofs.Common.{◌≡◌, ℕ, zero, suc, ◌+◌, ◌-◌, ◌*◌, ◌<◌, ◌≤◌, Bool, true, false, cond, nat_lt, List, [], ◌∷◌, length, refl, sym, ap, ◌∙◌, subst, arith, inl, inr}
use Rattle.std.proofs.Math.Logic.{∥∥₁_elim}
use Rattle.std.proofs.lemmas.Bool.{cases_lt, ltb-true, ltb-false}
use Rattle.std.proofs.lemmas.List.Sums.{sum_by-cons}
use Rattle.rw_objects.specs.Space.{Space, SpaceLaws}
use Rattle.rw_objects.specs.Code.{Code, CodeLaws}
use Rattle.event_core.specs.Threads.{all_steps}
use Rattle.event_core.specs.World.{WorldAt}
use Rattle.replay_laws.specs.Log.{Log, HasLimits}
use Rattle.replay_laws.specs.Ordered.{thread_of_turn, ordered_world}
use Rattle.replay_laws.specs.Turns.{turn_of, world_after_turn}
use Rattle.replay_laws.proofs.Finishing.{thread_there}
use Rattle.replay_gate.specs.Answers.{makes_step}
use Rattle.replay_session.specs.declared.legs.Leg.{Leg}
use Rattle.replay_session.specs.declared.legs.Leg.TheVariants as leg
use Rattle.replay_session.specs.Gone.{TurnPasses}
use Rattle.replay_session.specs.Legs.{steps_of_leg, steps_of_way, leg_with, first_of_leg, first_steps}
use Rattle.replay_session.specs.Reverse.{StepInRounds, StepOfLeg, StepOfWay}
use Rattle.replay_session.specs.Ways.{thread_world, ThreadLeads, LegLeads}
use Rattle.replay_session.proofs.Counting.{turn_grows}
use Rattle.replay_session.proofs.RoundTurns.{grows}
use Rattle.replay_session.proofs.Ways.{leg_once}

-- ---- how many steps the first ones are

of_with : (l : Leg) (n : ℕ) → steps_of_way (leg_with l (suc n) ∷ []) ≡ suc n
of_with (leg.Thread thread steps) n = sum_by-cons steps_of_leg (leg.Thread thread (suc n)) [] ∙ (let z : suc n + 0 ≡ suc n = omega arith in z)
of_with (leg.Rounds steps) n = sum_by-cons steps_of_leg (leg.Rounds (suc n)) [] ∙ (let z : suc n + 0 ≡ suc n = omega arith in z)

pub first_count : (ls : List Leg) (n : ℕ) → n ≤ steps_of_way ls → steps_of_way (first_steps ls n) ≡ n
first_count [] n few = omega (arith, few)
first_count (l ∷ ls) n few =
    let all : steps_of_way (l ∷ ls) ≡ steps_of_leg l + steps_of_way ls = sum_by-cons steps_of_leg l ls in
    go (nat_lt n (steps_of_leg l)) refl (first_count ls (n - steps_of_leg l) (omega (arith, few, all)))
  where
    of_leg : (n : ℕ) → steps_of_way (first_of_leg l n) ≡ n
    of_leg zero = refl
    of_leg (suc n) = of_with l n

    go : (b : Bool) → nat_lt n (steps_of_leg l) ≡ b → steps_of_way (first_steps ls (n - steps_of_leg l)) ≡ n - steps_of_leg l → steps_of_way (cond b (first_of_leg l n) (l ∷ first_steps ls (n - steps_of_leg l))) ≡ n
    go true q rest = of_leg n
    go false q rest =
        let past = ltb-false _ _ q in
        simp sum_by-cons (omega (arith, rest, past))

no_prop : IsProp ⊥
no_prop a b = absurd a

step_or_not : (b : Bool) → (b ≡ false → ⊥) → b ≡ true
step_or_not true h = refl
step_or_not false h = absurd (h refl)

module _ {State Op Reply Value Fixed : Type 0} (space : Space Op Reply Value Fixed) (code : Code State Op Reply Fixed) (log : Log) where
  -- behind so many steps of a way, from world w on, stands world u, and the rest of the way is ahead
  pub record GoesThrough (legs : List Leg) (w : WorldAt State Value Fixed) (before : ℕ) (ahead : List Leg) (u : WorldAt State Value Fixed) : Type 0 where
    pub forth : (n : ℕ) (x : WorldAt State Value Fixed) (t : ℕ) → StepOfWay space code log ahead u n x t → StepOfWay space code log legs w (before + n) x t
    pub back : (n : ℕ) (x : WorldAt State Value Fixed) (t : ℕ) → before ≤ n → StepOfWay space code log legs w n x t → StepOfWay space code log ahead u (n - before) x t
    pub count : before + steps_of_way ahead ≡ steps_of_way legs

module _ {State Op Reply Value Fixed : Type 0} (space : Space Op Reply Value Fixed) (code : Code State Op Reply Fixed) (rules : CodeLaws space code) (log : Log) where
  -- ---- turns of one thread

  pub thread_makes : (t n : ℕ) (w : WorldAt State Value Fixed) → ∥ ((v : WorldAt State Value Fixed) × ThreadLeads space code log t n w v) ∥₁ → (i : ℕ) → i < n → makes_step (turn_of space code log (thread_world space code log w t i) t) ≡ true
  thread_makes t n w h i l = step_or_not (makes_step (turn_of space code log (thread_world space code log w t i) t)) (λ no. ∥∥₁_elim h no_prop (λ x. let s = x.1.steps i l in cc))

  pub thread_next : (t n : ℕ) (w u v : WorldAt State Value Fixed) (k : ℕ) → u ≡ thread_world space code log w t n → makes_step (turn_of space code log u t) ≡ true → TurnPasses space code log t u v k → v ≡ thread_world space code log w t (n + 1)
  thread_next t n w u v k at made p = p.1 ∙ ap (λ x. world_after_turn space code x t (turn_of space code log x t)) at ∙ ap (thread_world space code log w t) (let z : suc n ≡ n + 1 = omega arith in z)

  -- ---- turns in rounds

  module _ (w : WorldAt State Value Fixed) where
    abbrev n : ℕ
    n = length w.threads

    abbrev point : ℕ → WorldAt State Value Fixed
    point k = ordered_world space code log w [] k

    abbrev sum : ℕ → ℕ
    sum k = all_steps code (point k).threads

    in_round : (r k : ℕ) → k < n → thread_of_turn [] n (r * n + k) ≡ k
    in_round r k l = ap (thread_of_turn [] n) (let z : r * n + k ≡ 0 + (r * n + k) = omega arith in z) ∙ thread_there [] n r k l

    pub round_step : (r k made : ℕ) (u : WorldAt State Value Fixed) → k < n → u ≡ point (r * n + k) → all_steps code u.threads ≡ all_steps code w.threads + made → makes_step (turn_of space code log u k) ≡ true → StepInRounds space code log w made u k
    round_step r k made u l at steps step = record { turns = r * n + k; at = at; thread = sym (in_round r k l); step = step; steps = steps }

    pub round_next : (r k : ℕ) (u v : WorldAt State Value Fixed) (s : ℕ) → k < n → u ≡ point (r * n + k) → TurnPasses space code log k u v s → v ≡ point (r * n + (k + 1))
    round_next r k u v s l at p =
        p.1 ∙ ap (λ x. world_after_turn space code x k (turn_of space code log x k)) at
        ∙ ap (λ t. world_after_turn space code (point (r * n + k)) t (turn_of space code log (point (r * n + k)) t)) (sym (in_round r k l))
        ∙ ap point (let z : suc (r * n + k) ≡ r * n + (k + 1) = omega arith in z)

    pub round_again : (r : ℕ) (u : WorldAt State Value Fixed) (k : ℕ) → k ≡ n → u ≡ point (r * n + k) → u ≡ point ((r + 1) * n + 0)
    round_again r u k is at = at ∙ ap point (ap (λ j. r * n + j) is ∙ (let z : r * n + n ≡ (r + 1) * n + 0 = grind arith in z))

    module _ (laws : SpaceLaws space) (limits : HasLimits log) where
      grown : (m : ℕ) (x : WorldAt State Value Fixed) (t : ℕ) (a : StepInRounds space code log w m x t) → (sum a.turns ≡ all_steps code w.threads + m) × (sum (suc a.turns) ≡ all_steps code w.threads + m + 1)
      grown m x t a =
          let here = ap (λ (y : WorldAt State Value Fixed). all_steps code y.threads) a.at in
          let made : makes_step (turn_of space code log (point a.turns) (thread_of_turn [] n a.turns)) ≡ true =
          ap (λ y. makes_step (turn_of space code log y (thread_of_turn [] n a.turns))) (sym a.at) ∙ ap (λ s. makes_step (turn_of space code log x s)) (sym a.thread) ∙ a.step in
          let grow = turn_grows space code rules laws log limits (point a.turns) (thread_of_turn [] n a.turns) made in
          let steps = a.steps in (omega (arith, here, steps), omega (arith, here, steps, grow))

      -- no two turns make the same step
      pub round_once : (m : ℕ) (x y : WorldAt State Value Fixed) (t s : ℕ) → StepInRounds space code log w m x t → StepInRounds space code log w m y s → (y ≡ x) × (s ≡ t)
      round_once m x y t s a b =
          let f = grown m x t a in
          let g = grown m y s b in
          let same : b.turns ≡ a.turns =
          elim (cases_lt a.turns b.turns) [
            | inl l ↦ let h = grows space code rules log w (suc a.turns) b.turns (omega (arith, l)) in let p = f.1 in let q = g.0 in absurd (omega (arith, h, p, q))
            | inr l ↦
                elim (cases_lt b.turns a.turns) [
                  | inl k ↦ let h = grows space code rules log w (suc b.turns) a.turns (omega (arith, k)) in let p = f.0 in let q = g.1 in absurd (omega (arith, h, p, q))
                  | inr k ↦ omega (arith, l, k)
                ]
          ] in (
            b.at ∙ ap point same ∙ sym a.at,
            b.thread ∙ ap (thread_of_turn [] n) same ∙ sym a.thread,
          )

  -- ---- ways

  pub step_within : (l : Leg) (w : WorldAt State Value Fixed) (n : ℕ) (x : WorldAt State Value Fixed) (t : ℕ) → StepOfLeg space code log l w n x t → n < steps_of_leg l
  step_within (leg.Thread thread steps) w n x t h = h.0
  step_within (leg.Rounds steps) w n x t h = h.0

  -- behind the first leg
  pub step_behind : (l : Leg) (ls : List Leg) (w u : WorldAt State Value Fixed) (n : ℕ) (x : WorldAt State Value Fixed) (t : ℕ) → LegLeads space code log l w u → StepOfWay space code log ls u n x t → StepOfWay space code log (l ∷ ls) w (steps_of_leg l + n) x t
  step_behind l ls w u n x t lead h = inr (u, lead, omega arith, subst (λ m. StepOfWay space code log ls u m x t) (let z : n ≡ steps_of_leg l + n - steps_of_leg l = omega arith in z) h)

  pub behind_step : (l : Leg) (ls : List Leg) (w u : WorldAt State Value Fixed) (n : ℕ) (x : WorldAt State Value Fixed) (t : ℕ) → LegLeads space code log l w u → steps_of_leg l ≤ n → StepOfWay space code log (l ∷ ls) w n x t → StepOfWay space code log ls u (n - steps_of_leg l) x t
  behind_step l ls w u n x t lead past (inl h) = let f = step_within l w n x t h in absurd (omega (arith, f, past))
  behind_step l ls w u n x t lead past (inr h) = subst (λ y. StepOfWay space code log ls y (n - steps_of_leg l) x t) (leg_once space code rules log l w h.0 u h.1 lead) h.3

  -- in the first leg
  pub first_step : (l : Leg) (ls : List Leg) (w : WorldAt State Value Fixed) (n : ℕ) (x : WorldAt State Value Fixed) (t : ℕ) → n < steps_of_leg l → StepOfWay space code log (l ∷ ls) w n x t → StepOfLeg space code log l w n x t
  first_step l ls w n x t f (inl h) = h
  first_step l ls w n x t f (inr h) = let p = h.2 in absurd (omega (arith, f, p))

  pub through_start : (legs : List Leg) (w : WorldAt State Value Fixed) → GoesThrough space code log legs w 0 legs w
  through_start legs w = record {
    forth = λ n x t h. subst (λ m. StepOfWay space code log legs w m x t) (let z : n ≡ 0 + n = omega arith in z) h;
    back = λ n x t l h. subst (λ m. StepOfWay space code log legs w m x t) (let z : n ≡ n - 0 = omega arith in z) h;
    count = omega arith;
  }

  pub through_leg : (legs : List Leg) (w : WorldAt State Value Fixed) (before : ℕ) (l : Leg) (ls : List Leg) (u v : WorldAt State Value Fixed) → LegLeads space code log l u v → GoesThrough space code log legs w before (l ∷ ls) u → GoesThrough space code log legs w (before + steps_of_leg l) ls v
  through_leg legs w before l ls u v lead g = record {
    forth = λ n x t h. subst (λ m. StepOfWay space code log legs w m x t) (let z : before + (steps_of_leg l + n) ≡ before + steps_of_leg l + n = omega arith in z) (g.forth (steps_of_leg l + n) x t (step_behind l ls u v n x t lead h));
    back = λ n x t past h.
        subst (λ m. StepOfWay space code log ls v m x t) (let z : n - before - steps_of_leg l ≡ n - (before + steps_of_leg l) = omega (arith, past) in z)
        (behind_step l ls u v (n - before) x t lead (omega (arith, past)) (g.back n x t (omega (arith, past)) h));
    count = let all = g.count in let e : steps_of_way (l ∷ ls) ≡ steps_of_leg l + steps_of_way ls = sum_by-cons steps_of_leg l ls in omega (arith, all, e);
  }

  pub through_few : (legs : List Leg) (w : WorldAt State Value Fixed) (before : ℕ) (l : Leg) (ls : List Leg) (u : WorldAt State Value Fixed) → GoesThrough space code log legs w before (l ∷ ls) u → before + steps_of_leg l ≤ steps_of_way legs
  through_few legs w before l ls u g = let all = g.count in let e : steps_of_way (l ∷ ls) ≡ steps_of_leg l + steps_of_way ls = sum_by-cons steps_of_leg l ls in omega (arith, all, e)

  pub leg_forth : (legs : List Leg) (w : WorldAt State Value Fixed) (before : ℕ) (l : Leg) (ls : List Leg) (u : WorldAt State Value Fixed) → GoesThrough space code log legs w before (l ∷ ls) u
      → (n : ℕ) (x : WorldAt State Value Fixed) (t : ℕ) → n < steps_of_leg l → StepOfLeg space code log l u n x t → StepOfWay space code log legs w (before + n) x t
  leg_forth legs w before l ls u g n x t few h = g.forth n x t (inl h)

  pub leg_back : (legs : List Leg) (w : WorldAt State Value Fixed) (before : ℕ) (l : Leg) (ls : List Leg) (u : WorldAt State Value Fixed) → GoesThrough space code log legs w before (l ∷ ls) u
      → (n : ℕ) (x : WorldAt State Value Fixed) (t : ℕ) → before ≤ n → n < before + steps_of_leg l → StepOfWay space code log legs w n x t → StepOfLeg space code log l u (n - before) x t
  leg_back legs w before l ls u g n x t from few h = first_step l ls u (n - before) x t (omega (arith, from, few)) (g.back n x t from h)

  -- ---- the first steps of a way

  fewer : (l : Leg) (w : WorldAt State Value Fixed) (n m : ℕ) (x : WorldAt State Value Fixed) (t : ℕ) → m ≤ steps_of_leg l → StepOfWay space code log (first_of_leg l m) w n x t → StepOfLeg space code log l w n x t
  fewer l w n zero x t few h = absurd h
  fewer (leg.Thread thread steps) w n (suc m) x t few (inl h) = let f = h.0 in (omega (arith, f, few), h.1, h.2)
  fewer (leg.Rounds steps) w n (suc m) x t few (inl h) = let f = h.0 in (omega (arith, f, few), h.1)
  fewer (leg.Thread thread steps) w n (suc m) x t few (inr h) = absurd h.3
  fewer (leg.Rounds steps) w n (suc m) x t few (inr h) = absurd h.3

  pub of_all : (ls : List Leg) (m : ℕ) (w : WorldAt State Value Fixed) (n : ℕ) (x : WorldAt State Value Fixed) (t : ℕ) → StepOfWay space code log (first_steps ls m) w n x t → StepOfWay space code log ls w n x t
  of_all [] m w n x t = λ h. absurd h
  of_all (l ∷ ls) m w n x t = go (nat_lt m (steps_of_leg l)) refl (λ u. of_all ls (m - steps_of_leg l) u (n - steps_of_leg l) x t)
    where
      go : (b : Bool) → nat_lt m (steps_of_leg l) ≡ b
          → ((u : WorldAt State Value Fixed) → StepOfWay space code log (first_steps ls (m - steps_of_leg l)) u (n - steps_of_leg l) x t → StepOfWay space code log ls u (n - steps_of_leg l) x t)
          → StepOfWay space code log (cond b (first_of_leg l m) (l ∷ first_steps ls (m - steps_of_leg l))) w n x t → StepOfWay space code log (l ∷ ls) w n x t
      go true q rest h = let few = ltb-true m (steps_of_leg l) q in inl (fewer l w n m x t (omega (arith, few)) h)
      go false q rest (inl h) = inl h
      go false q rest (inr h) = inr (h.0, h.1, h.2, rest h.0 h.3)

  more : (l : Leg) (w : WorldAt State Value Fixed) (n m : ℕ) (x : WorldAt State Value Fixed) (t : ℕ) → n < m → StepOfLeg space code log l w n x t → StepOfWay space code log (first_of_leg l m) w n x t
  more l w n zero x t few h = absurd (omega (arith, few))
  more (leg.Thread thread steps) w n (suc m) x t few h = inl (few, h.1, h.2)
  more (leg.Rounds steps) w n (suc m) x t few h = inl (few, h.1)

  pub of_first : (ls : List Leg) (m : ℕ) (w : WorldAt State Value Fixed) (n : ℕ) (x : WorldAt State Value Fixed) (t : ℕ) → n < m → StepOfWay space code log ls w n x t → StepOfWay space code log (first_steps ls m) w n x t
  of_first [] m w n x t few = λ h. absurd h
  of_first (l ∷ ls) m w n x t few = go (nat_lt m (steps_of_leg l)) refl (λ past u. of_first ls (m - steps_of_leg l) u (n - steps_of_leg l) x t (omega (arith, past, few)))
    where
      go : (b : Bool) → nat_lt m (steps_of_leg l) ≡ b
          → (steps_of_leg l ≤ n → (u : WorldAt State Value Fixed) → StepOfWay space code log ls u (n - steps_of_leg l) x t → StepOfWay space code log (first_steps ls (m - steps_of_leg l)) u (n - steps_of_leg l) x t)
          → StepOfWay space code log (l ∷ ls) w n x t → StepOfWay space code log (cond b (first_of_leg l m) (l ∷ first_steps ls (m - steps_of_leg l))) w n x t
      go true q rest h = let past = ltb-true m (steps_of_leg l) q in more l w n m x t few (first_step l ls w n x t (omega (arith, past, few)) h)
      go false q rest (inl h) = inl h
      go false q rest (inr h) = inr (h.0, h.1, h.2, rest h.2 h.0 h.3)
