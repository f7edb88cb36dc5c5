-- Where ways lead.
use Rattle.std.proofs.Common.{◌≡◌, ℕ, zero, suc, ◌+◌, ◌-◌, ◌==◌, ◌<◌, ◌≤◌, Bool, true, false, cond, nat_lt, List, [], ◌∷◌, ◌++◌, refl, sym, ap, ◌∙◌, subst, arith, inl, inr}
use Rattle.std.proofs.lemmas.Bool.{cases_lt, ltb-true}
use Rattle.std.proofs.lemmas.Bool.Decides.{Decides-eqb}
use Rattle.std.proofs.lemmas.List.Sums.{sum_by-cons}
use Rattle.rw_objects.specs.Space.{Space, SpaceLaws}
use Rattle.rw_objects.specs.Code.{Code, CodeLaws}
use Rattle.event_core.specs.Threads.{all_steps}
use Rattle.event_core.specs.World.{WorldAt}
use Rattle.replay_laws.specs.Log.{Log, HasLimits}
use Rattle.replay_laws.specs.Turns.{turn_of, world_after_turn}
use Rattle.replay_gate.specs.Answers.{makes_step}
use Rattle.replay_session.specs.declared.legs.Leg.{Leg}
use Rattle.replay_session.specs.declared.legs.Leg.TheVariants as leg
use Rattle.replay_session.specs.Legs.{steps_of_leg, steps_of_way, leg_with, first_of_leg, first_steps, joined, longer, with_thread, with_rounds}
use Rattle.replay_session.specs.Ways.{thread_world, ThreadLeads, TurnsLead, LegLeads, WayLeads}
use Rattle.replay_session.proofs.Counting.{turn_grows}
use Rattle.replay_session.proofs.RoundTurns.{turns_once, turns_shorter, no_turns}

module _ {State Op Reply Value Fixed : Type 0} (space : Space Op Reply Value Fixed) (code : Code State Op Reply Fixed) (rules : CodeLaws space code) (log : Log) where
  -- ---- turns of one thread

  pub further : (w : WorldAt State Value Fixed) (t m n : ℕ) → thread_world space code log w t (m + n) ≡ thread_world space code log (thread_world space code log w t m) t n
  further w t m zero = ap (thread_world space code log w t) (let z : m + 0 ≡ m = omega arith in z)
  further w t m (suc n) =
      ap (thread_world space code log w t) (let z : m + suc n ≡ suc (m + n) = omega arith in z)
      ∙ ap (λ x. world_after_turn space code x t (turn_of space code log x t)) (further w t m n)

  pub thread_joined : (t m n : ℕ) (w u v : WorldAt State Value Fixed) → ThreadLeads space code log t m w u → ThreadLeads space code log t n u v → ThreadLeads space code log t (m + n) w v
  thread_joined t m n w u v a b = record {
    steps = λ i l.
        elim (cases_lt i m) [
          | inl x ↦ a.steps i x
          | inr x ↦
              let e : thread_world space code log w t i ≡ thread_world space code log u t (i - m) =
              ap (thread_world space code log w t) (let z : i ≡ m + (i - m) = omega (arith, x) in z) ∙ further w t m (i - m) ∙ ap (λ y. thread_world space code log y t (i - m)) (sym a.leads) in
              ap (λ y. makes_step (turn_of space code log y t)) e ∙ b.steps (i - m) (omega (arith, l, x))
        ];
    leads = b.leads ∙ ap (λ y. thread_world space code log y t n) a.leads ∙ sym (further w t m n);
  }

  -- turns behind the first m are what is left
  pub thread_rest : (t n m : ℕ) (w u x : WorldAt State Value Fixed) → m ≤ n → ThreadLeads space code log t m w u → ThreadLeads space code log t n w x → ThreadLeads space code log t (n - m) u x
  thread_rest t n m w u x few a b =
      let there = λ (i : ℕ). ap (λ y. thread_world space code log y t i) a.leads ∙ sym (further w t m i) in
      record {
        steps = λ i l. ap (λ y. makes_step (turn_of space code log y t)) (there i) ∙ b.steps (m + i) (omega (arith, l, few));
        leads = b.leads ∙ ap (thread_world space code log w t) (let z : n ≡ m + (n - m) = omega (arith, few) in z) ∙ sym (there (n - m));
      }

  pub one_turn : (t : ℕ) (w v : WorldAt State Value Fixed) → makes_step (turn_of space code log w t) ≡ true → v ≡ world_after_turn space code w t (turn_of space code log w t) → ThreadLeads space code log t 1 w v
  one_turn t w v made is = record { steps = λ i l. let z : 0 ≡ i = omega (arith, l) in subst (λ j. makes_step (turn_of space code log (thread_world space code log w t j) t) ≡ true) z made; leads = is }

  no_turn : (t : ℕ) (w v : WorldAt State Value Fixed) → v ≡ w → ThreadLeads space code log t 0 w v
  no_turn t w v is = record { steps = λ i l. absurd (omega (arith, l)); leads = is }

  pub no_thread_turns : (t : ℕ) (w : WorldAt State Value Fixed) → ThreadLeads space code log t 0 w w
  no_thread_turns t w = no_turn t w w refl

  pub thread_counts : SpaceLaws space → HasLimits log → (t n : ℕ) (w v : WorldAt State Value Fixed) → ThreadLeads space code log t n w v → all_steps code v.threads ≡ all_steps code w.threads + n
  thread_counts laws limits t n w v a = let e = ap (λ (x : WorldAt State Value Fixed). all_steps code x.threads) a.leads in let c = go n a.steps in omega (arith, e, c)
    where
      go : (m : ℕ) → ((i : ℕ) → i < m → makes_step (turn_of space code log (thread_world space code log w t i) t) ≡ true) → all_steps code (thread_world space code log w t m).threads ≡ all_steps code w.threads + m
      go zero h = omega arith
      go (suc m) h =
          let b = go m (λ i l. h i (omega (arith, l))) in
          let g = turn_grows space code rules laws log limits (thread_world space code log w t m) t (h m (omega arith)) in
          omega (arith, b, g)

  -- ---- legs

  pub leg_once : (l : Leg) (w v u : WorldAt State Value Fixed) → LegLeads space code log l w v → LegLeads space code log l w u → v ≡ u
  leg_once (leg.Thread t n) w v u a b = a.leads ∙ sym b.leads
  leg_once (leg.Rounds n) w v u a b = turns_once space code rules log w n v u a b

  leg_shorter : (l : Leg) (w v : WorldAt State Value Fixed) → LegLeads space code log l w v → (m : ℕ) → m ≤ steps_of_leg l → (u : WorldAt State Value Fixed) × LegLeads space code log (leg_with l m) w u
  leg_shorter (leg.Thread t n) w v a m l = (thread_world space code log w t m, record { steps = λ i k. a.steps i (omega (arith, k, l)); leads = refl })
  leg_shorter (leg.Rounds n) w v a m l = turns_shorter space code rules log w n m v l a

  leg_counts : SpaceLaws space → HasLimits log → (l : Leg) (w v : WorldAt State Value Fixed) → LegLeads space code log l w v → all_steps code v.threads ≡ all_steps code w.threads + steps_of_leg l
  leg_counts laws limits (leg.Thread t n) w v a = thread_counts laws limits t n w v a
  leg_counts laws limits (leg.Rounds n) w v a = a.steps

  -- ---- ways

  pub ways_lead_once : (ls : List Leg) (w v u : WorldAt State Value Fixed) → WayLeads space code log ls w v → WayLeads space code log ls w u → v ≡ u
  ways_lead_once [] w v u a b = a ∙ sym b
  ways_lead_once (l ∷ ls) w v u a b =
      let same = leg_once l w a.0 b.0 a.1 b.1 in
      ways_lead_once ls b.0 v u (subst (λ x. WayLeads space code log ls x v) same a.2) b.2

  pub ways_count_steps : SpaceLaws space → HasLimits log → (ls : List Leg) (w v : WorldAt State Value Fixed) → WayLeads space code log ls w v → all_steps code v.threads ≡ all_steps code w.threads + steps_of_way ls
  ways_count_steps laws limits [] w v a = let e = ap (λ (x : WorldAt State Value Fixed). all_steps code x.threads) a in omega (arith, e)
  ways_count_steps laws limits (l ∷ ls) w v a =
      let here = leg_counts laws limits l w a.0 a.1 in
      let rest = ways_count_steps laws limits ls a.0 v a.2 in
      simp sum_by-cons (omega (arith, here, rest))

  first_leg : (l : Leg) (w v : WorldAt State Value Fixed) → LegLeads space code log l w v → (n : ℕ) → n < steps_of_leg l → (u : WorldAt State Value Fixed) × WayLeads space code log (first_of_leg l n) w u
  first_leg l w v a zero h = (w, refl)
  first_leg l w v a (suc n) h = let s = leg_shorter l w v a (suc n) (omega (arith, h)) in (s.0, (s.0, s.1, refl))

  pub first_steps_lead : (ls : List Leg) (w v : WorldAt State Value Fixed) → WayLeads space code log ls w v → (n : ℕ) → (u : WorldAt State Value Fixed) × WayLeads space code log (first_steps ls n) w u
  first_steps_lead [] w v a n = (w, refl)
  first_steps_lead (l ∷ ls) w v a n =
      let rest = first_steps_lead ls a.0 v a.2 (n - steps_of_leg l) in
      go (nat_lt n (steps_of_leg l)) refl rest
    where
      go : (b : Bool) → nat_lt n (steps_of_leg l) ≡ b → (u : WorldAt State Value Fixed) × WayLeads space code log (first_steps ls (n - steps_of_leg l)) a.0 u
          → (u : WorldAt State Value Fixed) × WayLeads space code log (cond b (first_of_leg l n) (l ∷ first_steps ls (n - steps_of_leg l))) w u
      go true q rest = first_leg l w a.0 a.1 n (ltb-true _ _ q)
      go false q rest = (rest.0, (a.0, a.1, rest.1))

  -- ---- ways that go on

  pub way_joined : (ls ms : List Leg) (w u v : WorldAt State Value Fixed) → WayLeads space code log ls w u → WayLeads space code log ms u v → WayLeads space code log (ls ++ ms) w v
  way_joined [] ms w u v a b = subst (λ x. WayLeads space code log ms x v) a b
  way_joined (l ∷ ls) ms w u v a b = (a.0, a.1, way_joined ls ms a.0 u v a.2 b)

  pub way_parted : (ls ms : List Leg) (w v : WorldAt State Value Fixed) → WayLeads space code log (ls ++ ms) w v → (u : WorldAt State Value Fixed) × WayLeads space code log ls w u × WayLeads space code log ms u v
  way_parted [] ms w v a = (w, refl, a)
  way_parted (l ∷ ls) ms w v a = let r = way_parted ls ms a.0 v a.2 in (r.0, (a.0, a.1, r.1), r.2)

  leg_behind : (ls : List Leg) (l : Leg) (w u v : WorldAt State Value Fixed) → WayLeads space code log ls w u → LegLeads space code log l u v → WayLeads space code log (ls ++ (l ∷ [])) w v
  leg_behind [] l w u v a b = (v, subst (λ x. LegLeads space code log l x v) a b, refl)
  leg_behind (m ∷ ls) l w u v a b = (a.0, a.1, leg_behind ls l a.0 u v a.2 b)

  joined_leads : (l : Leg) (t n : ℕ) (w u v : WorldAt State Value Fixed) → LegLeads space code log l w u → ThreadLeads space code log t n u v → WayLeads space code log (joined l t n) w v
  joined_leads (leg.Rounds m) t n w u v a b = (u, a, (v, b, refl))
  joined_leads (leg.Thread s m) t n w u v a b = go (s == t) refl
    where
      go : (c : Bool) → (s == t) ≡ c → WayLeads space code log (cond c (leg.Thread t (m + n) ∷ []) (leg.Thread s m ∷ leg.Thread t n ∷ [])) w v
      go true q = (v, thread_joined t m n w u v (subst (λ x. ThreadLeads space code log x m w u) ((Decides-eqb s t).0 q) a) b, refl)
      go false q = (u, a, (v, b, refl))

  longer_leads : (ls : List Leg) (t n : ℕ) (w u v : WorldAt State Value Fixed) → WayLeads space code log ls w u → ThreadLeads space code log t n u v → WayLeads space code log (longer ls t n) w v
  longer_leads [] t n w u v a b = (v, subst (λ x. ThreadLeads space code log t n x v) a b, refl)
  longer_leads (l ∷ []) t n w u v a b = joined_leads l t n w a.0 v a.1 (subst (λ x. ThreadLeads space code log t n x v) a.2 b)
  longer_leads (l ∷ m ∷ ls) t n w u v a b = (a.0, a.1, longer_leads (m ∷ ls) t n a.0 u v a.2 b)

  pub thread_behind : (ls : List Leg) (t n : ℕ) (w u v : WorldAt State Value Fixed) → WayLeads space code log ls w u → ThreadLeads space code log t n u v → WayLeads space code log (with_thread ls t n) w v
  thread_behind ls t zero w u v a b = subst (WayLeads space code log ls w) (sym b.leads) a
  thread_behind ls t (suc n) w u v a b = longer_leads ls t (suc n) w u v a b

  pub rounds_behind : (ls : List Leg) (n : ℕ) (w u v : WorldAt State Value Fixed) → WayLeads space code log ls w u → TurnsLead space code log n u v → WayLeads space code log (with_rounds ls n) w v
  rounds_behind ls zero w u v a b = subst (WayLeads space code log ls w) (sym (no_turns space code rules log u v b)) a
  rounds_behind ls (suc n) w u v a b = leg_behind ls (leg.Rounds (suc n)) w u v a b
