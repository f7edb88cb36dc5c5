-- A run to a break that is made in parts: each but the last stops behind whole rounds, at a break of the last thread.
use Rattle.std.proofs.Common.{◌≡◌, true, ℕ, zero, suc, ◌+◌, ◌-◌, ◌*◌, ◌/◌, ◌%◌, ◌<◌, ◌≤◌, List, [], ◌∷◌, ◌++◌, length, Some, slice_get, refl, sym, ap, ◌∙◌, subst, arith, inl, inr}
use Rattle.std.proofs.lemmas.Bool.{cases_lt}
use Rattle.std.proofs.lemmas.Option.{slice_get_within}
use Rattle.rw_objects.specs.Space.{Space}
use Rattle.rw_objects.specs.Code.{Code, CodeLaws}
use Rattle.event_core.specs.Threads.{all_steps}
use Rattle.event_core.specs.World.{WorldAt}
use Rattle.replay_laws.specs.declared.turn.Turn.{Turn}
use Rattle.replay_laws.specs.declared.turn.Turn.TheVariants as turn
use Rattle.replay_laws.specs.Log.{Log}
use Rattle.replay_laws.specs.Ordered.{thread_of_turn, ordered_world}
use Rattle.replay_laws.specs.Turns.{turn_of}
use Rattle.replay_gate.specs.Answers.{makes_step}
use Rattle.replay_gate.specs.declared.breaks.Break.{Break}
use Rattle.replay_gate.specs.declared.breaks.Break.TheVariants as break
use Rattle.replay_gate.specs.declared.breaks.Stopped.{Stopped}
use Rattle.replay_gate.specs.declared.breaks.Stopped.TheVariants as stopped
use Rattle.replay_gate.specs.Breaks.{Holds, NoneHits, FirstHits}
use Rattle.replay_gate.specs.Stops.{GoesOn, TurnStopsAt, IsBehind, StopsInTurn, RunsOut, StopsAt}
use Rattle.replay_gate.proofs.BreakRoundsOn.{at_length, at_start, turn_on}
use Rattle.replay_session.specs.Parts.{OfThread}
use Rattle.replay_session.specs.Rounds.{RoundsGo}
use Rattle.replay_session.proofs.RoundTurns.{some_made, same_thread, behind_rounds}

-- an item of the first or the second of two lists
in_front : {A : Type 0} (xs ys : List A) (j : ℕ) → j < length xs → slice_get (xs ++ ys) j ≡ slice_get xs j
in_front [] ys j l = absurd (omega (arith, l))
in_front (x ∷ xs) ys zero l = refl
in_front (x ∷ xs) ys (suc j) l = in_front xs ys j (omega (arith, l))

past_front : {A : Type 0} (xs ys : List A) (j : ℕ) → slice_get (xs ++ ys) (length xs + j) ≡ slice_get ys j
past_front [] ys j = ap (slice_get ys) (omega arith)
past_front (x ∷ xs) ys j = ap (slice_get (x ∷ xs ++ ys)) (let e : length (x ∷ xs) + j ≡ suc (length xs + j) = omega arith in e) ∙ past_front xs ys j

-- a turn that makes a step stops no replay
step_goes_on : (x : Turn) → makes_step x ≡ true → GoesOn x
step_goes_on turn.Done h = absurd cc
step_goes_on turn.Local h = tt
step_goes_on (turn.Event input) h = tt
step_goes_on (turn.Refused r) h = absurd cc

-- the turn behind the last one of a round
whole_rounds : (r k n last : ℕ) → last + 1 ≡ n → (k - 0) % n ≡ last → r * n + suc k ≡ (r + (k / n + 1)) * n
whole_rounds r k n last of_n is =
    let some : 0 < n = omega (arith, of_n) in
    let same : k - 0 ≡ k = omega arith in
    let left : k % n ≡ last = ap (λ x. x % n) (sym same) ∙ is in
    let d : (r + (k / n + 1)) * n ≡ r * n + (n * (k / n) + n) = grind arith in
    omega (arith, some, left, d, of_n)

module _ {State Op Reply Value Fixed : Type 0} (space : Space Op Reply Value Fixed) (code : Code State Op Reply Fixed) where
  -- a break of a thread holds behind a turn of this thread
  of_its_thread : (w v : WorldAt State Value Fixed) (t last : ℕ) (x : Turn) (b : Break) → OfThread last b → Holds space code w v t x b → t ≡ last
  of_its_thread w v t last x (break.Place thread place) of h = h.same ∙ of
  of_its_thread w v t last x (break.Step thread steps) of h = h.same ∙ of
  of_its_thread w v t last x (break.Write objects) of h = absurd of

  module _ (log : Log) where
    -- ---- more breaks

    -- where none of more breaks holds, none of these does
    pub none_of_more : (w : WorldAt State Value Fixed) (t : ℕ) (B E : List Break) → NoneHits space code log w t (B ++ E) → NoneHits space code log w t B
    none_of_more w t B E none j b is = none j b (in_front B E j (slice_get_within B j b is) ∙ is)

    -- where one of the further breaks is the first to hold, none before them does
    pub none_before : (w : WorldAt State Value Fixed) (t : ℕ) (B E : List Break) (i : ℕ) → FirstHits space code log w t (B ++ E) i → length B ≤ i → NoneHits space code log w t B
    none_before w t B E i h past j b is =
        let l = slice_get_within B j b is in
        h.first j b (omega (arith, l, past)) (in_front B E j l ∙ is)

    -- where one of these is the first of more to hold, it is the first of these
    pub first_of_more : (w : WorldAt State Value Fixed) (t : ℕ) (B E : List Break) (i : ℕ) → FirstHits space code log w t (B ++ E) i → i < length B → FirstHits space code log w t B i
    first_of_more w t B E i h l = record {
      one = h.one;
      is = sym (in_front B E i l) ∙ h.is;
      hits = h.hits;
      first = λ j b m is. h.first j b m (in_front B E j (omega (arith, l, m)) ∙ is);
    }

    -- turns up to more breaks are turns up to these
    behind_of_more : (B E : List Break) (k : ℕ) (u v : WorldAt State Value Fixed) → IsBehind space code log u [] (B ++ E) k v → IsBehind space code log u [] B k v
    behind_of_more B E k u v a = record { at = a.at; goes_on = a.goes_on; no_break = λ i l. none_of_more _ _ B E (a.no_break i l) }

    out_of_more : (B E : List Break) (u v : WorldAt State Value Fixed) → RunsOut space code log u [] (B ++ E) v → RunsOut space code log u [] B v
    out_of_more B E u v a = record { turns = a.turns; all_of_order = a.all_of_order; behind = behind_of_more B E a.turns u v a.behind; still = a.still; shut = a.shut }

    -- a run that no further break stops is one to the breaks before them
    pub stops_of_more : (B E : List Break) (u v : WorldAt State Value Fixed) (s : Stopped) → ((i : ℕ) → s ≡ stopped.Break i → i < length B)
        → StopsAt space code log u [] (B ++ E) v s → StopsAt space code log u [] B v s
    stops_of_more B E u v (stopped.Break i) own h =
        let t = thread_of_turn [] (length u.threads) h.turns in
        let first = first_of_more h.world t B E i h.stops.0 (own i refl) in
        record { turns = h.turns; world = h.world; behind = behind_of_more B E h.turns u h.world h.behind; stops = (first, h.stops.1) }
    stops_of_more B E u v stopped.Finished own h = (out_of_more B E u v h.0, h.1)
    stops_of_more B E u v stopped.Stuck own h = (out_of_more B E u v h.0, h.1)
    stops_of_more B E u v (stopped.Fault f) own h = record { turns = h.turns; world = h.world; behind = behind_of_more B E h.turns u h.world h.behind; stops = h.stops }

    -- the turn at which a further break of a thread stops a run is of that thread, and behind it no break before them holds
    behind_extra : (B E : List Break) (last : ℕ) → ((j : ℕ) (b : Break) → slice_get E j ≡ Some b → OfThread last b) → (u v : WorldAt State Value Fixed) (i : ℕ) → length B ≤ i
        → StopsAt space code log u [] (B ++ E) v (stopped.Break i) → (k : ℕ) × (thread_of_turn [] (length u.threads) k ≡ last) × IsBehind space code log u [] B (suc k) v
    behind_extra B E last all u v i past h =
        let t = thread_of_turn [] (length u.threads) h.turns in
        let x = turn_of space code log h.world t in
        let first = h.stops.0 in
        let before = behind_of_more B E h.turns u h.world h.behind in
        let j = i - length B in
        let e : length B + j ≡ i = omega (arith, past) in
        let here : slice_get E j ≡ Some first.one = sym (past_front B E j) ∙ ap (slice_get (B ++ E)) e ∙ first.is in (
          h.turns,
          of_its_thread h.world _ t last x first.one (all j first.one here) first.hits.holds,
          turn_on space code log u [] B h.turns t h.world v before refl (step_goes_on x first.hits.step) (none_before h.world t B E i first past) h.stops.1,
        )

  -- ---- turns behind whole rounds

  module _ (rules : CodeLaws space code) (log : Log) (w : WorldAt State Value Fixed) where
    abbrev n : ℕ
    n = length w.threads

    abbrev point : ℕ → WorldAt State Value Fixed
    point k = ordered_world space code log w [] k

    -- what holds of each turn up to whole rounds, and of each behind them, holds of each
    all_turns : (P : WorldAt State Value Fixed → ℕ → Type 0) (r j : ℕ) (u : WorldAt State Value Fixed) → u ≡ point (r * n) → length u.threads ≡ n
        → ((i : ℕ) → i < r * n → P (point i) (thread_of_turn [] n i))
        → ((i : ℕ) → i < j → P (ordered_world space code log u [] i) (thread_of_turn [] (length u.threads) i))
        → (i : ℕ) → i < r * n + j → P (point i) (thread_of_turn [] n i)
    all_turns P r j u is m before behind i l =
        elim (cases_lt i (r * n)) [
          | inl a ↦ before i a
          | inr a ↦
              let k = i - r * n in
              let at : ordered_world space code log u [] k ≡ point (r * n + k) = behind_rounds space code rules log w r k u (ordered_world space code log u [] k) is refl in
              let of : thread_of_turn [] (length u.threads) k ≡ thread_of_turn [] n (r * n + k) = sym (same_thread space code rules log w r k (length u.threads) m) in
              let there : P (point (r * n + k)) (thread_of_turn [] (length u.threads) k) = subst (λ x. P x (thread_of_turn [] (length u.threads) k)) at (behind k (omega (arith, l, a))) in
              let here : P (point (r * n + k)) (thread_of_turn [] n (r * n + k)) = subst (P (point (r * n + k))) of there in
              subst (λ x. P (point x) (thread_of_turn [] n x)) (let e : r * n + k ≡ i = omega (arith, a) in e) here
        ]

    -- before the first turn
    pub before_first : (B : List Break) → IsBehind space code log w [] B 0 w
    before_first B = at_start space code log w [] B

    -- turns behind whole rounds are turns of the whole run
    pub behind_parts : (B : List Break) (r j : ℕ) (u v : WorldAt State Value Fixed) → IsBehind space code log w [] B (r * n) u → IsBehind space code log u [] B j v
        → IsBehind space code log w [] B (r * n + j) v
    behind_parts B r j u v a b =
        let m = at_length space code log w [] B (r * n) u a in
        record {
          at = behind_rounds space code rules log w r j u v a.at b.at;
          goes_on = all_turns (λ x t. GoesOn (turn_of space code log x t)) r j u a.at m a.goes_on b.goes_on;
          no_break = all_turns (λ x t. NoneHits space code log x t B) r j u a.at m a.no_break b.no_break;
        }

    -- a run that stops at a further break of the last thread leads from whole rounds to whole rounds
    pub on_by_extra : (B E : List Break) (last : ℕ) → last + 1 ≡ n → ((j : ℕ) (b : Break) → slice_get E j ≡ Some b → OfThread last b)
        → (r : ℕ) (u : WorldAt State Value Fixed) → IsBehind space code log w [] B (r * n) u
        → (i : ℕ) (v : WorldAt State Value Fixed) → StopsAt space code log u [] (B ++ E) v (stopped.Break i) → length B ≤ i → (q : ℕ) × IsBehind space code log w [] B (q * n) v
    on_by_extra B E last of_n all r u a i v h past =
        let m = at_length space code log w [] B (r * n) u a in
        let x = behind_extra log B E last all u v i past h in
        let of : (x.0 - 0) % n ≡ last = ap (λ c. (x.0 - 0) % c) (sym m) ∙ x.1 in
        (r + (x.0 / n + 1), subst (λ k. IsBehind space code log w [] B k v) (whole_rounds r x.0 n last of_n of) (behind_parts B r (suc x.0) u v a x.2))

    -- a run from behind whole rounds that no turn stops
    out_on : (B : List Break) (r : ℕ) (u v : WorldAt State Value Fixed) → IsBehind space code log w [] B (r * n) u → RunsOut space code log u [] B v → RunsOut space code log w [] B v
    out_on B r u v a out =
        let m = at_length space code log w [] B (r * n) u a in
        record {
          turns = r * n + out.turns;
          all_of_order = omega arith;
          behind = behind_parts B r out.turns u v a out.behind;
          still = λ t l. out.still t (omega (arith, l, m));
          shut = λ t l. out.shut t (omega (arith, l, m));
        }

    -- a run from behind whole rounds that a turn stops
    in_turn_on : (B : List Break) (r : ℕ) (u v : WorldAt State Value Fixed) (s : Stopped) → IsBehind space code log w [] B (r * n) u → StopsInTurn space code log u [] B v s → StopsInTurn space code log w [] B v s
    in_turn_on B r u v s a h =
        let same = same_thread space code rules log w r h.turns (length u.threads) (at_length space code log w [] B (r * n) u a) in
        record {
          turns = r * n + h.turns;
          world = h.world;
          behind = behind_parts B r h.turns u h.world a h.behind;
          stops = subst (λ t. TurnStopsAt space code log h.world t B v s) (sym same) h.stops;
        }

    -- where a run from behind whole rounds stops, the whole run does
    pub stops_on : (B : List Break) (r : ℕ) (u : WorldAt State Value Fixed) → IsBehind space code log w [] B (r * n) u
        → (v : WorldAt State Value Fixed) (s : Stopped) → StopsAt space code log u [] B v s → StopsAt space code log w [] B v s
    stops_on B r u a v (stopped.Break i) h = in_turn_on B r u v (stopped.Break i) a h
    stops_on B r u a v stopped.Finished h = (out_on B r u v a h.0, h.1)
    stops_on B r u a v stopped.Stuck h = (out_on B r u v a h.0, h.1)
    stops_on B r u a v (stopped.Fault f) h = in_turn_on B r u v (stopped.Fault f) a h

    -- the turns of whole rounds, by the steps that they make
    pub rounds_of : (B : List Break) (r : ℕ) (u : WorldAt State Value Fixed) → IsBehind space code log w [] B (r * n) u → RoundsGo space code log (all_steps code u.threads - all_steps code w.threads) w u
    rounds_of B r u a = let g = some_made space code rules log w (r * n) u a.at in record { rounds = r; leads = a.at; steps = omega (arith, g) }
