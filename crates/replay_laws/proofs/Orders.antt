-- The turns of an order are a gated run.
use Rattle.std.proofs.Common.{◌≡◌, ℕ, zero, suc, List, [], ◌∷◌, ◌++◌, length, Option, Some, None, refl, sym, ap, ◌∙◌, subst}
use Rattle.rw_objects.specs.Space.{Space, SpaceLaws}
use Rattle.rw_objects.specs.Code.{Code, CodeLaws}
use Rattle.event_core.specs.declared.pick.Pick.{Pick}
use Rattle.event_core.specs.declared.pick.Input.{Input}
use Rattle.event_core.specs.World.{WorldAt, world_after}
use Rattle.event_core.specs.Run.{world_run}
use Rattle.replay_laws.specs.declared.turn.Turn.{Turn}
use Rattle.replay_laws.specs.declared.turn.Turn.TheVariants as turn
use Rattle.replay_laws.specs.Log.{Log, HasLimits}
use Rattle.replay_laws.specs.Gates.{IsGatedRun}
use Rattle.replay_laws.specs.Turns.{turn_of, world_after_turn, input_of_turn}
use Rattle.replay_laws.specs.Ordered.{thread_of_turn, pick_made, ordered_world, ordered_picks}
use Rattle.replay_laws.specs.Laws.{OrderedRunsAreGated}
use Rattle.replay_laws.proofs.Passing.{turn_passes}

module _ {State Op Reply Value Fixed : Type 0} (space : Space Op Reply Value Fixed) (code : Code State Op Reply Fixed) where
  pub world_joined : (w : WorldAt State Value Fixed) (ps qs : List Pick) → world_run space code w (ps ++ qs) ≡ world_run space code (world_run space code w ps) qs
  world_joined w [] qs = refl
  world_joined w (p ∷ ps) qs = world_joined (world_after space code w p) ps qs

  pub gated_joined : (log : Log) (w : WorldAt State Value Fixed) (ps qs : List Pick) → IsGatedRun space code log w ps → IsGatedRun space code log (world_run space code w ps) qs → IsGatedRun space code log w (ps ++ qs)
  gated_joined log w [] qs g h = h
  gated_joined log w (p ∷ ps) qs g h = (g.0, gated_joined log (world_after space code w p) ps qs g.1 h)

  -- a turn leaves what its pick, if it has one, leaves
  pub turn_leaves : (w : WorldAt State Value Fixed) (t : ℕ) (x : Turn) → world_after_turn space code w t x ≡ world_run space code w (pick_made t (input_of_turn x))
  turn_leaves w t turn.Done = refl
  turn_leaves w t turn.Local = refl
  turn_leaves w t (turn.Event input) = refl
  turn_leaves w t (turn.Refused r) = refl

  module _ (laws : SpaceLaws space) (rules : CodeLaws space code) where
    pub made_gated : (log : Log) → HasLimits log → (w : WorldAt State Value Fixed) (t : ℕ) (o : Option Input) → input_of_turn (turn_of space code log w t) ≡ o → IsGatedRun space code log w (pick_made t o)
    made_gated log limits w t None q = tt
    made_gated log limits w t (Some i) q = (turn_passes space code rules log limits w t i q, tt)

    pub ordered_runs_are_gated : OrderedRunsAreGated space code
    ordered_runs_are_gated log limits w order zero = record { gated = tt; world = refl }
    ordered_runs_are_gated log limits w order (suc k) =
        let before = ordered_runs_are_gated log limits w order k in
        let v = ordered_world space code log w order k in
        let ps = ordered_picks space code log w order k in
        let t = thread_of_turn order (length w.threads) k in
        let made = pick_made t (input_of_turn (turn_of space code log v t)) in
        record {
          gated = gated_joined log w ps made before.gated (subst (λ u. IsGatedRun space code log u made) before.world (made_gated log limits v t (input_of_turn (turn_of space code log v t)) refl));
          world = turn_leaves v t (turn_of space code log v t) ∙ ap (λ u. world_run space code u made) before.world ∙ sym (world_joined w ps made);
        }
