-- A way goes on from a world that is kept on it.
use Rattle.std.proofs.Common.{◌≡◌, ℕ, ◌+◌, ◌-◌, ◌≤◌, List, [], ◌∷◌, ◌++◌, refl, sym, ap, ◌∙◌, subst, arith}
use Rattle.std.proofs.lemmas.Grind.{merely}
use Rattle.std.proofs.Math.Logic.{∥∥₁_elim, ∥∥₁_map, ∥∥₁_prop}
use Rattle.rw_objects.specs.Space.{Space}
use Rattle.rw_objects.specs.Code.{Code, CodeLaws}
use Rattle.event_core.specs.World.{WorldAt}
use Rattle.replay_laws.specs.Log.{Log}
use Rattle.replay_session.specs.declared.legs.Leg.{Leg}
use Rattle.replay_session.specs.declared.legs.Leg.TheVariants as leg
use Rattle.replay_session.specs.Kept.{PartLeads, StandsBehind, IsRest}
use Rattle.replay_session.specs.Legs.{steps_of_leg, leg_with, first_steps}
use Rattle.replay_session.specs.Ways.{LegLeads, WayLeads}
use Rattle.replay_session.proofs.RoundTurns.{turns_behind, turns_rest, rounds_behind as rounds_joined, no_rounds}
use Rattle.replay_session.proofs.Ways.{thread_joined, thread_rest, no_thread_turns, ways_lead_once, first_steps_lead, way_joined, way_parted}

all_of_leg : (l : Leg) → leg_with l (steps_of_leg l) ≡ l
all_of_leg (leg.Thread t n) = refl
all_of_leg (leg.Rounds n) = refl

module _ {State Op Reply Value Fixed : Type 0} (space : Space Op Reply Value Fixed) (code : Code State Op Reply Fixed) (rules : CodeLaws space code) (log : Log) where
  -- ---- parts of a leg

  pub part_none : (l : Leg) (w : WorldAt State Value Fixed) → PartLeads space code log (leg_with l 0) w w
  part_none (leg.Thread t n) w = no_thread_turns space code rules log t w
  part_none (leg.Rounds n) w = no_rounds space code rules log w

  pub part_joined : (l : Leg) (m k : ℕ) (w u v : WorldAt State Value Fixed) → PartLeads space code log (leg_with l m) w u → PartLeads space code log (leg_with l k) u v → PartLeads space code log (leg_with l (m + k)) w v
  part_joined (leg.Thread t n) m k w u v a b = thread_joined space code rules log t m k w u v a b
  part_joined (leg.Rounds n) m k w u v a b = rounds_joined space code rules log w m k u v a b

  leg_behind_part : (l : Leg) (m k : ℕ) (w u v : WorldAt State Value Fixed) → PartLeads space code log (leg_with l m) w u → LegLeads space code log (leg_with l k) u v → LegLeads space code log (leg_with l (m + k)) w v
  leg_behind_part (leg.Thread t n) m k w u v a b = thread_joined space code rules log t m k w u v a b
  leg_behind_part (leg.Rounds n) m k w u v a b = turns_behind space code rules log w m k u v a b

  part_rest : (l : Leg) (m : ℕ) (w u v : WorldAt State Value Fixed) → m ≤ steps_of_leg l → PartLeads space code log (leg_with l m) w u → LegLeads space code log l w v → LegLeads space code log (leg_with l (steps_of_leg l - m)) u v
  part_rest (leg.Thread t n) m w u v few a b = thread_rest space code rules log t n m w u v few a b
  part_rest (leg.Rounds n) m w u v few a b = turns_rest space code rules log w n m u v few a b

  -- ---- the rest of a way

  module _ (legs : List Leg) (part : Leg) (way rest : List Leg) (is : IsRest legs part way rest) (w u : WorldAt State Value Fixed) where
    abbrev m : ℕ
    m = steps_of_leg part

    abbrev n : ℕ
    n = steps_of_leg is.next

    gone : (s : StandsBehind space code log legs part w u) → PartLeads space code log (leg_with is.next m) s.0 u
    gone s = subst (λ p. PartLeads space code log p s.0 u) is.part_is s.2

    rest_from : StandsBehind space code log legs part w u → (v : WorldAt State Value Fixed) → WayLeads space code log way w v → WayLeads space code log rest u v
    rest_from s v h =
        let p = way_parted space code rules log legs (is.next ∷ is.more) w v (subst (λ ls. WayLeads space code log ls w v) is.way_is h) in
        let same : p.0 ≡ s.0 = ways_lead_once space code rules log legs w p.0 s.0 p.1 s.1 in
        let lead = subst (λ x. LegLeads space code log is.next x p.2.0) same p.2.1 in
        subst (λ ls. WayLeads space code log ls u v) (sym is.rest_is) (p.2.0, part_rest is.next m s.0 u p.2.0 is.few (gone s) lead, p.2.2)

    rest_to : StandsBehind space code log legs part w u → (v : WorldAt State Value Fixed) → WayLeads space code log rest u v → WayLeads space code log way w v
    rest_to s v h =
        let r = subst (λ ls. WayLeads space code log ls u v) is.rest_is h in
        let few = is.few in
        let all : leg_with is.next (m + (n - m)) ≡ is.next = ap (leg_with is.next) (let z : m + (n - m) ≡ n = omega (arith, few) in z) ∙ all_of_leg is.next in
        let lead = subst (λ l. LegLeads space code log l s.0 r.0) all (leg_behind_part is.next m (n - m) s.0 u r.0 (gone s) r.1) in
        subst (λ ls. WayLeads space code log ls w v) (sym is.way_is) (way_joined space code rules log legs (is.next ∷ is.more) w s.0 v s.1 (r.0, lead, r.2))

    pub rest_leads : ∥ StandsBehind space code log legs part w u ∥₁ → ∥ ((v : WorldAt State Value Fixed) × WayLeads space code log way w v) ∥₁ → ∥ ((v : WorldAt State Value Fixed) × WayLeads space code log rest u v) ∥₁
    rest_leads s h = ∥∥₁_elim s ∥∥₁_prop (λ x. ∥∥₁_map h (λ y. (y.0, rest_from x y.0 y.1)))

    pub rest_led : ∥ StandsBehind space code log legs part w u ∥₁ → (v : WorldAt State Value Fixed) → WayLeads space code log rest u v → ∥ WayLeads space code log way w v ∥₁
    rest_led s v h = ∥∥₁_map s (λ x. rest_to x v h)

  -- ---- replays that stand on a way

  pub stands_first : (l : Leg) (w u : WorldAt State Value Fixed) → u ≡ w → ∥ StandsBehind space code log [] (leg_with l 0) w u ∥₁
  stands_first l w u is = merely (u, is, part_none l u)

  pub stands_on : (legs : List Leg) (part : Leg) (made : ℕ) (w u v : WorldAt State Value Fixed) → ∥ StandsBehind space code log legs part w u ∥₁ → PartLeads space code log (leg_with part made) u v → ∥ StandsBehind space code log legs (leg_with part (steps_of_leg part + made)) w v ∥₁
  stands_on legs part made w u v s h = ∥∥₁_map s (λ x. (x.0, x.1, part_joined part (steps_of_leg part) made x.0 u v (subst (λ p. PartLeads space code log p x.0 u) (sym (all_of_leg part)) x.2) h))

  pub stands_next : (way : List Leg) (l : Leg) (w u : WorldAt State Value Fixed) → ∥ WayLeads space code log way w u ∥₁ → ∥ StandsBehind space code log way (leg_with l 0) w u ∥₁
  stands_next way l w u h = ∥∥₁_map h (λ x. (u, x, part_none l u))

  pub first_leads : (way ls ms : List Leg) (w : WorldAt State Value Fixed) → way ≡ ls ++ ms → ∥ ((v : WorldAt State Value Fixed) × WayLeads space code log way w v) ∥₁ → ∥ ((v : WorldAt State Value Fixed) × WayLeads space code log ls w v) ∥₁
  first_leads way ls ms w is h = ∥∥₁_map h (λ x. let p = way_parted space code rules log ls ms w x.0 (subst (λ y. WayLeads space code log y w x.0) is x.1) in (p.0, p.1))

  pub first_steps_go : (way : List Leg) (n : ℕ) (w : WorldAt State Value Fixed) → ∥ ((v : WorldAt State Value Fixed) × WayLeads space code log way w v) ∥₁ → ∥ ((v : WorldAt State Value Fixed) × WayLeads space code log (first_steps way n) w v) ∥₁
  first_steps_go way n w h = ∥∥₁_map h (λ x. first_steps_lead space code rules log way w x.0 x.1 n)

-- the same, told by equal logs, worlds and legs
module _ {State Op Reply Value Fixed : Type 0} (space : Space Op Reply Value Fixed) (code : Code State Op Reply Fixed) where
  pub stands_same : (log log' : Log) (w w' u u' : WorldAt State Value Fixed) (legs legs' : List Leg) (part part' : Leg) → log' ≡ log → w' ≡ w → u' ≡ u → legs' ≡ legs → part' ≡ part
      → ∥ StandsBehind space code log legs part w u ∥₁ → ∥ StandsBehind space code log' legs' part' w' u' ∥₁
  stands_same log log' w w' u u' legs legs' part part' a b c d e h =
      subst (λ l. ∥ StandsBehind space code l legs' part' w' u' ∥₁) (sym a)
      (subst (λ x. ∥ StandsBehind space code log legs' part' x u' ∥₁) (sym b)
      (subst (λ x. ∥ StandsBehind space code log legs' part' w x ∥₁) (sym c)
      (subst (λ x. ∥ StandsBehind space code log x part' w u ∥₁) (sym d)
      (subst (λ x. ∥ StandsBehind space code log legs x w u ∥₁) (sym e) h))))

  pub leads_same : (log log' : Log) (w w' : WorldAt State Value Fixed) (way way' : List Leg) → log' ≡ log → w' ≡ w → way' ≡ way
      → ∥ ((v : WorldAt State Value Fixed) × WayLeads space code log way w v) ∥₁ → ∥ ((v : WorldAt State Value Fixed) × WayLeads space code log' way' w' v) ∥₁
  leads_same log log' w w' way way' a b c h =
      subst (λ l. ∥ ((v : WorldAt State Value Fixed) × WayLeads space code l way' w' v) ∥₁) (sym a)
      (subst (λ x. ∥ ((v : WorldAt State Value Fixed) × WayLeads space code log way' x v) ∥₁) (sym b)
      (subst (λ x. ∥ ((v : WorldAt State Value Fixed) × WayLeads space code log x w v) ∥₁) (sym c) h))
