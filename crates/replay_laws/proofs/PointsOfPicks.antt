-- The points of a run of picks, and what is recorded there.
use Rattle.std.proofs.Common.{◌≡◌, ℕ, zero, suc, List, [], ◌∷◌, Option, Some, None, refl, sym, ap, ◌∙◌, inl, inr}
use Rattle.rw_objects.specs.Space.{Space}
use Rattle.rw_objects.specs.Code.{Code}
use Rattle.event_core.specs.declared.pick.Pick.{Pick}
use Rattle.event_core.specs.Threads.{ThreadAt}
use Rattle.event_core.specs.World.{WorldAt, world_after}
use Rattle.replay_laws.specs.Recorded.{world_at, IsRecordedValue, IsRecordedThread}
use Rattle.replay_laws.proofs.Worlds.{World}
use Rattle.replay_laws.proofs.Logs.{IsPoint, IsRecorded, IsStood}
use Rattle.replay_laws.proofs.Views.{view, happenings, state_at, steps_at, places_at}

module _ {State Op Reply Value Fixed : Type 0} (space : Space Op Reply Value Fixed) (code : Code State Op Reply Fixed) where
  point_is : (w : WorldAt State Value Fixed) (ps : List Pick) (u : World Value (Option State)) → IsPoint (view space code w) (happenings space code w ps) u → (k : ℕ) × (u ≡ view space code (world_at space code w ps k))
  point_is w [] u e = (0, e)
  point_is w (p ∷ ps) u (inl e) = (0, e)
  point_is w (p ∷ ps) u (inr q) = let e = point_is (world_after space code w p) ps u q in (suc e.0, e.1)

  is_point : (w : WorldAt State Value Fixed) (ps : List Pick) (k : ℕ) → IsPoint (view space code w) (happenings space code w ps) (view space code (world_at space code w ps k))
  is_point w [] zero = refl
  is_point w [] (suc k) = refl
  is_point w (p ∷ ps) zero = inl refl
  is_point w (p ∷ ps) (suc k) = inr (is_point (world_after space code w p) ps k)

  pub recorded_is : (w : WorldAt State Value Fixed) (ps : List Pick) (o v : ℕ) (x : Value) → IsRecorded (view space code w) (happenings space code w ps) o v x → IsRecordedValue space code w ps o v x
  recorded_is w ps o v x r =
      let e = point_is w ps r.point r.is_point in
      record { point = e.0; version = sym (ap (λ z. z.version o) e.1) ∙ r.version; value = sym (ap (λ z. z.value o) e.1) ∙ r.value }

  pub is_recorded : (w : WorldAt State Value Fixed) (ps : List Pick) (o v : ℕ) (x : Value) → IsRecordedValue space code w ps o v x → IsRecorded (view space code w) (happenings space code w ps) o v x
  is_recorded w ps o v x r = record { point = view space code (world_at space code w ps r.point); is_point = is_point w ps r.point; version = r.version; value = r.value }

  same_thread : (s : State) (n : ℕ) (th : ThreadAt State) → s ≡ th.state → n ≡ th.places → (let u : ThreadAt State = record { state = s; places = n } in u ≡ th)
  same_thread s n th e f = ap (λ x. record { state = x; places = n }) e ∙ ap (λ x. record { state = th.state; places = x }) f

  found_thread : (o : Option (ThreadAt State)) (th : ThreadAt State) → state_at code o ≡ Some th.state → places_at code o ≡ th.places → o ≡ Some th
  found_thread None th e f = absurd (cc)
  found_thread (Some u) th e f = let s : u.state ≡ th.state = cc in ap Some (same_thread u.state u.places th s f)

  pub stood_is : (w : WorldAt State Value Fixed) (ps : List Pick) (t : ℕ) (th : ThreadAt State) (o : Option (ThreadAt State)) → o ≡ Some th
      → IsStood (view space code w) (happenings space code w ps) t (steps_at code o) (state_at code o) (places_at code o) → IsRecordedThread space code w ps t th
  stood_is w ps t th o is r =
      let e = point_is w ps r.point r.is_point in
      record {
        point = e.0;
        is = found_thread _ th (sym (ap (λ z. z.state t) e.1) ∙ r.state ∙ ap (state_at code) is) (sym (ap (λ z. z.places t) e.1) ∙ r.places ∙ ap (places_at code) is);
      }
