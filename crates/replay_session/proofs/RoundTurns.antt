-- Turns of threads 0, 1, .. in rounds are told by how many steps they make.
use Rattle.std.proofs.Common.{◌≡◌, false, ℕ, zero, suc, ◌+◌, ◌-◌, ◌*◌, ◌%◌, ◌<◌, ◌≤◌, ◌⊎◌, [], length, refl, sym, ap, ◌∙◌, subst, arith, inl, inr}
use Rattle.std.proofs.lemmas.Bool.{cases_lt}
use Rattle.std.proofs.Math.Nat.{mul-add-mod_self_right}
use Rattle.rw_objects.specs.Space.{Space, SpaceLaws}
use Rattle.rw_objects.specs.Code.{Code, CodeLaws}
use Rattle.event_core.specs.Threads.{all_steps}
use Rattle.event_core.specs.World.{WorldAt}
use Rattle.replay_laws.specs.declared.turn.Turn.{Turn}
use Rattle.replay_laws.specs.declared.turn.Turn.TheVariants as turn
use Rattle.replay_laws.specs.Log.{Log, HasLimits}
use Rattle.replay_laws.specs.Ordered.{thread_of_turn, ordered_world}
use Rattle.std.proofs.lemmas.Option.{slice_get_past}
use Rattle.replay_laws.specs.Turns.{turn_of, turn_by_thread, world_after_turn}
use Rattle.replay_laws.proofs.Finishing.{thread_there}
use Rattle.replay_gate.specs.Answers.{makes_step}
use Rattle.replay_gate.proofs.Rounds.{ordered_length}
use Rattle.replay_session.specs.Gone.{steps_of_turn, TurnPasses}
use Rattle.replay_session.specs.Rounds.{RoundsGo, AllRest, RunsDry}
use Rattle.replay_session.specs.Ways.{TurnsLead}
use Rattle.replay_session.proofs.Counting.{turn_counts, turn_adds, stays}

no_steps : (x : Turn) → steps_of_turn x ≡ 0 → makes_step x ≡ false
no_steps turn.Done h = refl
no_steps turn.Local h = absurd (omega (arith, h))
no_steps (turn.Event input) h = absurd (omega (arith, h))
no_steps (turn.Refused r) h = refl

pub few_of_turn : (x : Turn) → steps_of_turn x ≤ 1
few_of_turn turn.Done = omega arith
few_of_turn turn.Local = omega arith
few_of_turn (turn.Event input) = omega arith
few_of_turn (turn.Refused r) = omega arith

module _ {State Op Reply Value Fixed : Type 0} (space : Space Op Reply Value Fixed) (code : Code State Op Reply Fixed) (rules : CodeLaws space code) (log : Log) (w : WorldAt State Value Fixed) where
  abbrev point : ℕ → WorldAt State Value Fixed
  point k = ordered_world space code log w [] k

  abbrev sum : ℕ → ℕ
  sum k = all_steps code (point k).threads

  next_counts : (k : ℕ) → (point (suc k) ≡ point k) ⊎ (sum (suc k) ≡ sum k + 1)
  next_counts k = let t = thread_of_turn [] (length w.threads) k in turn_counts space code rules (point k) t (turn_of space code log (point k) t)

  more : (j k : ℕ) → sum k ≤ sum (k + j)
  more zero k = let e = ap sum (let z : k + 0 ≡ k = omega arith in z) in omega (arith, e)
  more (suc j) k =
      let e = ap sum (let z : k + suc j ≡ suc (k + j) = omega arith in z) in
      let b = more j k in
      elim (next_counts (k + j)) [
        | inl same ↦ let s = ap (λ (v : WorldAt State Value Fixed). all_steps code v.threads) same in omega (arith, e, b, s)
        | inr one ↦ omega (arith, e, b, one)
      ]

  pub grows : (i k : ℕ) → i ≤ k → sum i ≤ sum k
  grows i k l = let m = more (k - i) i in let e = ap sum (let z : i + (k - i) ≡ k = omega (arith, l) in z) in omega (arith, m, e)

  alike : (j k : ℕ) → sum (k + j) ≡ sum k → point (k + j) ≡ point k
  alike zero k h = ap point (let z : k + 0 ≡ k = omega arith in z)
  alike (suc j) k h =
      let z : k + suc j ≡ suc (k + j) = omega arith in
      let e = ap sum z in
      let b = more j k in
      elim (next_counts (k + j)) [
        | inl same ↦
            let s = ap (λ (v : WorldAt State Value Fixed). all_steps code v.threads) same in
            ap point z ∙ same ∙ alike j k (omega (arith, e, h, s))
        | inr one ↦ absurd (omega (arith, e, h, b, one))
      ]

  -- where as many steps were made, the world is the same
  pub same_point : (i k : ℕ) → sum i ≡ sum k → point i ≡ point k
  same_point i k h =
      elim (cases_lt i k) [
        | inl l ↦
            let z : i + (k - i) ≡ k = omega (arith, l) in
            let e = ap sum z in
            sym (ap point (sym z) ∙ alike (k - i) i (omega (arith, e, h)))
        | inr l ↦
            let z : k + (i - k) ≡ i = omega (arith, l) in
            let e = ap sum z in
            ap point (sym z) ∙ alike (i - k) k (omega (arith, e, h))
      ]

  -- each number of steps up to that of a point is that of a point
  pub reached : (k s : ℕ) → sum 0 ≤ s → s ≤ sum k → (i : ℕ) × (sum i ≡ s)
  reached zero s low high = (0, omega (arith, low, high))
  reached (suc k) s low high =
      elim (cases_lt (sum k) s) [
        | inl l ↦
            elim (next_counts k) [
              | inl same ↦ let e = ap (λ (v : WorldAt State Value Fixed). all_steps code v.threads) same in absurd (omega (arith, e, l, high))
              | inr one ↦ (suc k, omega (arith, one, l, high))
            ]
        | inr l ↦ reached k s low (omega (arith, l))
      ]

  pub turns_once : (n : ℕ) (v u : WorldAt State Value Fixed) → TurnsLead space code log n w v → TurnsLead space code log n w u → v ≡ u
  turns_once n v u a b =
      let x = ap (λ (y : WorldAt State Value Fixed). all_steps code y.threads) a.leads in
      let z = ap (λ (y : WorldAt State Value Fixed). all_steps code y.threads) b.leads in
      let s = a.steps in
      let r = b.steps in
      a.leads ∙ same_point a.turns b.turns (omega (arith, x, z, s, r)) ∙ sym b.leads

  pub turns_shorter : (n m : ℕ) (v : WorldAt State Value Fixed) → m ≤ n → TurnsLead space code log n w v → (u : WorldAt State Value Fixed) × TurnsLead space code log m w u
  turns_shorter n m v l a =
      let x = ap (λ (y : WorldAt State Value Fixed). all_steps code y.threads) a.leads in
      let s = a.steps in
      let r = reached a.turns (sum 0 + m) (omega arith) (omega (arith, x, s, l)) in
      (point r.0, record { turns = r.0; leads = refl; steps = r.1 })

  pub no_turns : (v : WorldAt State Value Fixed) → TurnsLead space code log 0 w v → v ≡ w
  no_turns v a =
      let x = ap (λ (y : WorldAt State Value Fixed). all_steps code y.threads) a.leads in
      let s = a.steps in
      a.leads ∙ same_point a.turns 0 (omega (arith, x, s))

  -- so many turns make no more steps
  most_more : (j k : ℕ) → sum (k + j) ≤ sum k + j
  most_more zero k = let e = ap sum (let z : k + 0 ≡ k = omega arith in z) in omega (arith, e)
  most_more (suc j) k =
      let e = ap sum (let z : k + suc j ≡ suc (k + j) = omega arith in z) in
      let b = most_more j k in
      elim (next_counts (k + j)) [
        | inl same ↦ let s = ap (λ (v : WorldAt State Value Fixed). all_steps code v.threads) same in omega (arith, e, b, s)
        | inr one ↦ omega (arith, e, b, one)
      ]

  pub few_made : (k : ℕ) (v : WorldAt State Value Fixed) → v ≡ point k → all_steps code v.threads ≤ all_steps code w.threads + k
  few_made k v is =
      let e = ap (λ (y : WorldAt State Value Fixed). all_steps code y.threads) is in
      let z = ap sum (let y : 0 + k ≡ k = omega arith in y) in
      let m = most_more k 0 in
      omega (arith, e, z, m)

  pub some_made : (k : ℕ) (v : WorldAt State Value Fixed) → v ≡ point k → all_steps code w.threads ≤ all_steps code v.threads
  some_made k v is = let e = ap (λ (y : WorldAt State Value Fixed). all_steps code y.threads) is in let g = grows 0 k (omega arith) in omega (arith, e, g)

  pub turns_made : (k : ℕ) (v : WorldAt State Value Fixed) → v ≡ point k → (n : ℕ) × TurnsLead space code log n w v
  turns_made k v is =
      let grow = some_made k v is in
      (all_steps code v.threads - all_steps code w.threads, record { turns = k; leads = is; steps = omega (arith, grow) })

  -- ---- whole rounds, and turns behind them

  abbrev n : ℕ
  n = length w.threads

  -- in the first round turn i is of thread i
  pub in_first : (i : ℕ) → i < n → thread_of_turn [] n i ≡ i
  in_first i l = ap (thread_of_turn [] n) (let z : i ≡ 0 + (0 * n + i) = omega arith in z) ∙ thread_there [] n 0 i l

  pub same_thread : (r j m : ℕ) → m ≡ n → thread_of_turn [] n (r * n + j) ≡ thread_of_turn [] m j
  same_thread r j m is =
      let a : r * n + j - 0 ≡ r * n + j = omega arith in
      let b : j ≡ j - 0 = omega arith in
      ap (λ x. x % n) a ∙ mul-add-mod_self_right r n j ∙ ap (λ x. x % n) b ∙ ap (λ x. (j - 0) % x) (sym is)

  shifted : (r j : ℕ) → point (r * n + j) ≡ ordered_world space code log (point (r * n)) [] j
  shifted r zero = ap point (let z : r * n + 0 ≡ r * n = omega arith in z)
  shifted r (suc j) =
      let u = point (r * n) in
      let m = length u.threads in
      let t = thread_of_turn [] n (r * n + j) in
      ap point (let z : r * n + suc j ≡ suc (r * n + j) = omega arith in z)
      ∙ ap (λ x. world_after_turn space code x t (turn_of space code log x t)) (shifted r j)
      ∙ ap (λ y. let x = ordered_world space code log u [] j in world_after_turn space code x y (turn_of space code log x y)) (same_thread r j m (ordered_length space code log w [] (r * n)))

  pub behind_rounds : (r j : ℕ) (u v : WorldAt State Value Fixed) → u ≡ point (r * n) → v ≡ ordered_world space code log u [] j → v ≡ point (r * n + j)
  behind_rounds r j u v a b = b ∙ ap (λ x. ordered_world space code log x [] j) a ∙ sym (shifted r j)

  pub turns_behind : (a b : ℕ) (u v : WorldAt State Value Fixed) → RoundsGo space code log a w u → TurnsLead space code log b u v → TurnsLead space code log (a + b) w v
  turns_behind a b u v x y =
      let s = x.steps in
      let t = y.steps in
      record { turns = x.rounds * n + y.turns; leads = behind_rounds x.rounds y.turns u v x.leads y.leads; steps = omega (arith, s, t) }

  -- behind rounds there are as many threads
  pub as_many : (a : ℕ) (u : WorldAt State Value Fixed) → RoundsGo space code log a w u → length u.threads ≡ n
  as_many a u x = ap (λ (z : WorldAt State Value Fixed). length z.threads) x.leads ∙ ordered_length space code log w [] (x.rounds * n)

  pub rounds_behind : (a b : ℕ) (u v : WorldAt State Value Fixed) → RoundsGo space code log a w u → RoundsGo space code log b u v → RoundsGo space code log (a + b) w v
  rounds_behind a b u v x y =
      let s = x.steps in
      let t = y.steps in
      let m = as_many a u x in
      let k : x.rounds * n + y.rounds * length u.threads ≡ (x.rounds + y.rounds) * n = ap (λ i. x.rounds * n + y.rounds * i) m ∙ (let d : x.rounds * n + y.rounds * n ≡ (x.rounds + y.rounds) * n = grind arith in d) in
      record { rounds = x.rounds + y.rounds; leads = behind_rounds x.rounds (y.rounds * length u.threads) u v x.leads y.leads ∙ ap point k; steps = omega (arith, s, t) }

  -- behind rounds come others where more steps may be made than there are threads
  pub rounds_on : (a b made count most : ℕ) (u v : WorldAt State Value Fixed) → count ≡ n → count < most → RoundsGo space code log a w u
      → (length u.threads < most → RoundsGo space code log b u v) → a + b ≡ made → RoundsGo space code log made w v
  rounds_on a b made count most u v all more x y is =
      let m = as_many a u x in
      subst (λ i. RoundsGo space code log i w v) is (rounds_behind a b u v x (y (omega (arith, m, all, more))))

  -- turns behind whole rounds are what is left
  pub turns_rest : (s a : ℕ) (u x : WorldAt State Value Fixed) → a ≤ s → RoundsGo space code log a w u → TurnsLead space code log s w x → TurnsLead space code log (s - a) u x
  turns_rest s a u x few r t =
      let p = r.rounds * n in
      let k = t.turns in
      let made = r.steps in
      let all = t.steps in
      let eu = ap (λ (y : WorldAt State Value Fixed). all_steps code y.threads) r.leads in
      let ex = ap (λ (y : WorldAt State Value Fixed). all_steps code y.threads) t.leads in
      elim (cases_lt k p) [
        | inl l ↦
            let g = grows k p (omega (arith, l)) in
            record { turns = 0; leads = t.leads ∙ same_point k p (omega (arith, eu, ex, made, all, few, g)) ∙ sym r.leads; steps = omega (arith, eu, ex, made, all, few, g) }
        | inr l ↦
            let z : k ≡ p + (k - p) = omega (arith, l) in
            record { turns = k - p; leads = t.leads ∙ ap point z ∙ shifted r.rounds (k - p) ∙ ap (λ y. ordered_world space code log y [] (k - p)) (sym r.leads); steps = omega (arith, made, all, few) }
      ]

  pub no_rounds : RoundsGo space code log 0 w w
  no_rounds = record { rounds = 0; leads = ap point (let z : 0 ≡ 0 * n = omega arith in z); steps = omega arith }

  pub turns_of : (a : ℕ) (v : WorldAt State Value Fixed) → RoundsGo space code log a w v → TurnsLead space code log a w v
  turns_of a v x = record { turns = x.rounds * n; leads = x.leads; steps = x.steps }

  -- where no thread has a step, nothing is done any more
  still : (u : WorldAt State Value Fixed) (r : ℕ) → u ≡ point (r * n) → AllRest space code log u → (j : ℕ) → point (r * n + j) ≡ u
  still u r is rest zero = ap point (let z : r * n + 0 ≡ r * n = omega arith in z) ∙ sym is
  still u r is rest (suc j) =
      let t = thread_of_turn [] n (r * n + j) in
      let m : length u.threads ≡ n = ap (λ (z : WorldAt State Value Fixed). length z.threads) is ∙ ordered_length space code log w [] (r * n) in
      ap point (let z : r * n + suc j ≡ suc (r * n + j) = omega arith in z)
      ∙ ap (λ x. world_after_turn space code x t (turn_of space code log x t)) (still u r is rest j)
      ∙ stays space code u t (turn_of space code log u t) (rests u t rest)
    where
      rests : (u : WorldAt State Value Fixed) (t : ℕ) → AllRest space code log u → makes_step (turn_of space code log u t) ≡ false
      rests u t rest =
          elim (cases_lt t (length u.threads)) [
            | inl l ↦ rest t l
            | inr l ↦ ap (λ o. makes_step (turn_by_thread space code log u t o)) (slice_get_past u.threads t l)
          ]

  pub not_dry : (a : ℕ) (u v : WorldAt State Value Fixed) → RunsDry space code log a w u → TurnsLead space code log a w v → ⊥
  not_dry a u v dry y =
      let r = dry.rounds.rounds in
      let same = still u r dry.rounds.leads dry.rest y.turns in
      let past = grows y.turns (r * n + y.turns) (omega arith) in
      let e = ap (λ (z : WorldAt State Value Fixed). all_steps code z.threads) same in
      let f = ap (λ (z : WorldAt State Value Fixed). all_steps code z.threads) y.leads in
      let s = dry.rounds.steps in
      let t = y.steps in
      let few = dry.few in
      omega (arith, past, e, f, s, t, few)

  -- ---- one round, turn by turn

  pub next_point : (k : ℕ) (u v : WorldAt State Value Fixed) → k < n → u ≡ point k → v ≡ world_after_turn space code u k (turn_of space code log u k) → v ≡ point (k + 1)
  next_point k u v l a b =
      b ∙ ap (λ x. world_after_turn space code x k (turn_of space code log x k)) a
      ∙ ap (λ t. world_after_turn space code (point k) t (turn_of space code log (point k) t)) (sym (in_first k l))
      ∙ ap point (let z : suc k ≡ k + 1 = omega arith in z)

  pub one_round : (a : ℕ) (v : WorldAt State Value Fixed) → v ≡ point n → all_steps code v.threads ≡ all_steps code w.threads + a → RoundsGo space code log a w v
  one_round a v is s = record { rounds = 1; leads = is ∙ ap point (let z : n ≡ 1 * n = omega arith in z); steps = s }

  -- how a round goes on by a turn of thread k
  pub turn_made : SpaceLaws space → HasLimits log → (k made steps : ℕ) (u v : WorldAt State Value Fixed) → TurnPasses space code log k u v steps
      → all_steps code u.threads ≡ all_steps code w.threads + made → all_steps code v.threads ≡ all_steps code w.threads + (made + steps)
  turn_made laws limits k made steps u v p before =
      let x = p.0 in
      let e = ap (λ (y : WorldAt State Value Fixed). all_steps code y.threads) p.1 in
      let a = turn_adds space code rules laws log limits u k in
      omega (arith, x, e, a, before)

  pub few_so : (k steps : ℕ) (u v : WorldAt State Value Fixed) → TurnPasses space code log k u v steps → steps ≤ 1
  few_so k steps u v p = let x = p.0 in let f = few_of_turn (turn_of space code log u k) in omega (arith, x, f)

  pub still_rests : (k made steps : ℕ) (u v : WorldAt State Value Fixed) → TurnPasses space code log k u v steps
      → (made ≡ 0 → (t : ℕ) → t < k → makes_step (turn_of space code log u t) ≡ false)
      → made + steps ≡ 0 → (t : ℕ) → t < k + 1 → makes_step (turn_of space code log v t) ≡ false
  still_rests k made steps u v p before none t l =
      let x = p.0 in
      let rests : makes_step (turn_of space code log u k) ≡ false = no_steps (turn_of space code log u k) (omega (arith, x, none)) in
      let same : v ≡ u = p.1 ∙ stays space code u k (turn_of space code log u k) rests in
      subst (λ y. makes_step (turn_of space code log y t) ≡ false) (sym same)
      (elim (cases_lt t k) [
        | inl m ↦ before (omega (arith, none)) t m
        | inr m ↦ let e : k ≡ t = omega (arith, l, m) in subst (λ i. makes_step (turn_of space code log u i) ≡ false) e rests
      ])

  -- ---- rounds that go on

  -- behind the rounds so far come turns, which are rounds where more is missing
  pub missing_all : (steps missing made : ℕ) (u v : WorldAt State Value Fixed) → missing ≤ steps → made ≤ missing → RoundsGo space code log (steps - missing) w u → TurnsLead space code log made u v
      → missing - made ≡ 0 → TurnsLead space code log steps w v
  missing_all steps missing made u v few most x y none =
      subst (λ i. TurnsLead space code log i w v) (let z : steps - missing + made ≡ steps = omega (arith, few, most, none) in z) (turns_behind (steps - missing) made u v x y)

  pub missing_whole : (steps missing made : ℕ) (u v : WorldAt State Value Fixed) → missing ≤ steps → made ≤ missing → RoundsGo space code log (steps - missing) w u → (made < missing → RoundsGo space code log made u v)
      → 0 < missing - made → RoundsGo space code log (steps - (missing - made)) w v
  missing_whole steps missing made u v few most x y some =
      subst (λ i. RoundsGo space code log i w v) (let z : steps - missing + made ≡ steps - (missing - made) = omega (arith, few, most, some) in z) (rounds_behind (steps - missing) made u v x (y (omega (arith, some))))

  pub runs_dry : (steps missing : ℕ) (u v : WorldAt State Value Fixed) → missing ≤ steps → 0 < missing → RoundsGo space code log (steps - missing) w u → RoundsGo space code log 0 u v → AllRest space code log v → RunsDry space code log steps w v
  runs_dry steps missing u v few some x y rest = record {
    made = steps - missing;
    few = omega (arith, few, some);
    rounds = subst (λ i. RoundsGo space code log i w v) (let z : steps - missing + 0 ≡ steps - missing = omega arith in z) (rounds_behind (steps - missing) 0 u v x y);
    rest = rest;
  }

  pub none_yet : (steps : ℕ) → RoundsGo space code log (steps - steps) w w
  none_yet steps = subst (λ i. RoundsGo space code log i w w) (let z : 0 ≡ steps - steps = omega arith in z) no_rounds

  pub none_asked : (steps : ℕ) → steps ≡ 0 → TurnsLead space code log steps w w
  none_asked steps none = record { turns = 0; leads = refl; steps = omega (arith, none) }

  -- rounds by which no step is made lead nowhere
  pub nowhere : (u : WorldAt State Value Fixed) → RoundsGo space code log 0 w u → u ≡ w
  nowhere u x = no_turns u (turns_of 0 u x)
