-- The way of a session leads to its world.
use Rattle.std.proofs.Common.{◌≡◌, ℕ, ◌+◌, ◌-◌, ◌≤◌, List, refl, sym, subst, arith}
use Rattle.std.proofs.Math.Logic.{∥∥₁_elim, ∥∥₁_map}
use Rattle.std.specs.Coded.{le_prop}
use Rattle.rw_objects.specs.Space.{Space, SpaceLaws}
use Rattle.rw_objects.specs.Code.{Code, CodeLaws}
use Rattle.event_core.specs.Sound.{IsSound}
use Rattle.event_core.specs.Threads.{all_steps}
use Rattle.event_core.specs.World.{WorldAt}
use Rattle.event_core.proofs.SoundSteps.{steps_most}
use Rattle.replay_laws.specs.Log.{Log, HasLimits}
use Rattle.replay_session.specs.declared.legs.Leg.{Leg}
use Rattle.replay_session.specs.Legs.{steps_of_way, first_steps, with_thread, with_rounds}
use Rattle.replay_session.specs.Ways.{ThreadLeads, TurnsLead, WayLeads}
use Rattle.replay_session.proofs.Ways.{ways_count_steps, first_steps_lead, thread_behind, thread_counts, rounds_behind}

module _ {State Op Reply Value Fixed : Type 0} (space : Space Op Reply Value Fixed) (code : Code State Op Reply Fixed) where
  -- nothing changed
  pub kept : (log log' : Log) (opened opened' w w' : WorldAt State Value Fixed) (ls ls' : List Leg) → log' ≡ log → opened' ≡ opened → w' ≡ w → ls' ≡ ls
      → ∥ WayLeads space code log ls opened w ∥₁ → ∥ WayLeads space code log' ls' opened' w' ∥₁
  kept log log' opened opened' w w' ls ls' a b c d h =
      subst (λ l. ∥ WayLeads space code l ls' opened' w' ∥₁) (sym a)
      (subst (λ o. ∥ WayLeads space code log ls' o w' ∥₁) (sym b)
      (subst (λ x. ∥ WayLeads space code log ls' opened x ∥₁) (sym c)
      (subst (λ x. ∥ WayLeads space code log x opened w ∥₁) (sym d) h)))

  -- steps of a thread were made
  pub steps_behind : (log log' : Log) (opened opened' w v : WorldAt State Value Fixed) (ls ls' : List Leg) (t n : ℕ) → log' ≡ log → opened' ≡ opened → ls' ≡ ls → ThreadLeads space code log t n w v
      → ∥ WayLeads space code log ls opened w ∥₁ → ∥ ((x : WorldAt State Value Fixed) × WayLeads space code log' ls' opened' x × ThreadLeads space code log' t n x v) ∥₁
  steps_behind log log' opened opened' w v ls ls' t n a b d lead h =
      ∥∥₁_map (kept log log' opened opened' w w ls ls' a b refl d h) (λ x. (w, x, subst (λ l. ThreadLeads space code l t n w v) (sym a) lead))

  -- turns in rounds were
  pub turns_behind : (log log' : Log) (opened opened' w v : WorldAt State Value Fixed) (ls ls' : List Leg) (before : ℕ) → log' ≡ log → opened' ≡ opened → ls' ≡ ls → before ≡ all_steps code w.threads → (n : ℕ) × TurnsLead space code log n w v
      → ∥ WayLeads space code log ls opened w ∥₁ → ∥ ((x : WorldAt State Value Fixed) × WayLeads space code log' ls' opened' x × (before ≡ all_steps code x.threads) × ((n : ℕ) × TurnsLead space code log' n x v)) ∥₁
  turns_behind log log' opened opened' w v ls ls' before a b d is lead h =
      ∥∥₁_map (kept log log' opened opened' w w ls ls' a b refl d h) (λ x. (w, x, is, (lead.0, subst (λ l. TurnsLead space code l lead.0 w v) (sym a) lead.1)))

  module _ (laws : SpaceLaws space) (rules : CodeLaws space code) where
    -- there are few steps
    pub few_steps : (log : Log) → HasLimits log → (opened w : WorldAt State Value Fixed) (ls : List Leg) → IsSound code w.threads w.memory → ∥ WayLeads space code log ls opened w ∥₁ → steps_of_way ls ≤ 16000000000
    few_steps log limits opened w ls sound h =
        ∥∥₁_elim h le_prop (λ x. let c = ways_count_steps space code rules log laws limits ls opened w x in let m = steps_most space code w.threads w.memory sound in omega (arith, c, m))

    -- no thread makes many
    pub few_leads : {log : Log} → HasLimits log → {w v : WorldAt State Value Fixed} {t n : ℕ} → IsSound code v.threads v.memory → ThreadLeads space code log t n w v → n ≤ 16000000000
    few_leads {log} limits {w} {v} {t} {n} sound lead =
        let d = thread_counts space code rules log laws limits t n w v lead in
        let m = steps_most space code v.threads v.memory sound in
        omega (arith, d, m)

    -- the first steps lead somewhere
    pub goes_again : (log log' : Log) (opened start w : WorldAt State Value Fixed) (ls ls' : List Leg) (n : ℕ) → log' ≡ log → start ≡ opened → ls' ≡ first_steps ls n
        → ∥ WayLeads space code log ls opened w ∥₁ → ∥ ((v : WorldAt State Value Fixed) × WayLeads space code log' ls' start v) ∥₁
    goes_again log log' opened start w ls ls' n a b is h =
        subst (λ l. ∥ ((v : WorldAt State Value Fixed) × WayLeads space code l ls' start v) ∥₁) (sym a)
        (subst (λ o. ∥ ((v : WorldAt State Value Fixed) × WayLeads space code log ls' o v) ∥₁) (sym b)
        (subst (λ x. ∥ ((v : WorldAt State Value Fixed) × WayLeads space code log x opened v) ∥₁) (sym is)
        (∥∥₁_map h (λ x. first_steps_lead space code rules log ls opened w x n))))

    -- ---- steps of a thread behind a way

    pub few_more : (log : Log) → HasLimits log → (opened v : WorldAt State Value Fixed) (ls : List Leg) (t n : ℕ) → IsSound code v.threads v.memory
        → ∥ ((w : WorldAt State Value Fixed) × WayLeads space code log ls opened w × ThreadLeads space code log t n w v) ∥₁ → steps_of_way ls + n ≤ 16000000000
    few_more log limits opened v ls t n sound h =
        ∥∥₁_elim h le_prop (λ x.
        let c = ways_count_steps space code rules log laws limits ls opened x.0 x.1 in
        let d = thread_counts space code rules log laws limits t n x.0 v x.2 in
        let m = steps_most space code v.threads v.memory sound in
        omega (arith, c, d, m))

    pub thread_on : (log : Log) (opened v : WorldAt State Value Fixed) (ls ls' : List Leg) (t n : ℕ) → ls' ≡ with_thread ls t n
        → ∥ ((w : WorldAt State Value Fixed) × WayLeads space code log ls opened w × ThreadLeads space code log t n w v) ∥₁ → ∥ WayLeads space code log ls' opened v ∥₁
    thread_on log opened v ls ls' t n is h =
        subst (λ x. ∥ WayLeads space code log x opened v ∥₁) (sym is) (∥∥₁_map h (λ x. thread_behind space code rules log ls t n opened x.0 v x.1 x.2))

    -- ---- rounds behind a way

    pub few_before : (log : Log) (opened v : WorldAt State Value Fixed) (ls : List Leg) (before : ℕ)
        → ∥ ((w : WorldAt State Value Fixed) × WayLeads space code log ls opened w × (before ≡ all_steps code w.threads) × ((n : ℕ) × TurnsLead space code log n w v)) ∥₁ → before ≤ all_steps code v.threads
    few_before log opened v ls before h = ∥∥₁_elim h le_prop (λ x. let b = x.2 in let a = x.3.1.steps in omega (arith, a, b))

    pub rounds_on : (log : Log) (opened v : WorldAt State Value Fixed) (ls ls' : List Leg) (before : ℕ) → ls' ≡ with_rounds ls (all_steps code v.threads - before)
        → ∥ ((w : WorldAt State Value Fixed) × WayLeads space code log ls opened w × (before ≡ all_steps code w.threads) × ((n : ℕ) × TurnsLead space code log n w v)) ∥₁ → ∥ WayLeads space code log ls' opened v ∥₁
    rounds_on log opened v ls ls' before is h =
        subst (λ x. ∥ WayLeads space code log x opened v ∥₁) (sym is)
        (∥∥₁_map h (λ x.
        let b = x.2 in
        let a = x.3.1.steps in
        let n : x.3.0 ≡ all_steps code v.threads - before = omega (arith, a, b) in
        subst (λ m. WayLeads space code log (with_rounds ls m) opened v) n (rounds_behind space code rules log ls x.3.0 opened x.0 v x.1 x.3.1)))
