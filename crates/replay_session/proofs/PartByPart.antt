-- A run to a break is made part by part, and kept between the parts.
use Rattle.std.proofs.Common.{◌≡◌, ℕ, ◌+◌, ◌-◌, ◌*◌, ◌<◌, ◌≤◌, true, false, List, [], ◌++◌, length, sym, subst, arith}
use Rattle.std.proofs.Math.Logic.{∥∥₁_map}
use Rattle.std.proofs.lemmas.Bool.{leb-true, leb-false}
use Rattle.rw_objects.specs.Space.{Space}
use Rattle.rw_objects.specs.Code.{Code, CodeLaws}
use Rattle.event_core.specs.Threads.{all_steps}
use Rattle.event_core.specs.World.{WorldAt}
use Rattle.replay_laws.specs.Log.{Log}
use Rattle.replay_gate.specs.declared.breaks.Break.{Break}
use Rattle.replay_gate.specs.declared.breaks.Stopped.{Stopped}
use Rattle.replay_gate.specs.declared.breaks.Stopped.TheVariants as stopped
use Rattle.replay_gate.specs.Stops.{IsBehind, StopsAt}
use Rattle.replay_session.specs.declared.legs.Leg.{Leg}
use Rattle.replay_session.specs.declared.legs.Leg.TheVariants as leg
use Rattle.replay_session.specs.Kept.{StandsBehind}
use Rattle.replay_session.specs.Parts.{HasParts, is_part}
use Rattle.replay_session.specs.Rounds.{RoundsGo}
use Rattle.replay_session.specs.Ways.{WayLeads}
use Rattle.replay_session.proofs.RoundTurns.{some_made}
use Rattle.replay_session.proofs.RunsInParts.{before_first, on_by_extra, stops_of_more, stops_on, rounds_of}

module _ {State Op Reply Value Fixed : Type 0} (space : Space Op Reply Value Fixed) (code : Code State Op Reply Fixed) (rules : CodeLaws space code) (log : Log) (breaks : List Break) (w : WorldAt State Value Fixed) where
  -- behind whole rounds no break has held
  abbrev pub Between : WorldAt State Value Fixed → Type 0
  Between u = (r : ℕ) × IsBehind space code log w [] breaks (r * length w.threads) u

  pub between_none : Between w
  between_none = (0, subst (λ k. IsBehind space code log w [] breaks k w) (let z : 0 ≡ 0 * length w.threads = omega arith in z) (before_first space code rules log w breaks))

  pub more_between : (u : WorldAt State Value Fixed) → Between u → all_steps code w.threads ≤ all_steps code u.threads
  more_between u b = some_made space code rules log w (b.0 * length w.threads) u b.1.at

  -- a replay is kept there
  pub kept_between : (legs : List Leg) (opened u : WorldAt State Value Fixed) (made : ℕ) → made ≡ all_steps code u.threads - all_steps code w.threads → Between u → ∥ WayLeads space code log legs opened w ∥₁ → ∥ StandsBehind space code log legs (leg.Rounds made) opened u ∥₁
  kept_between legs opened u made is b h = ∥∥₁_map h (λ x. (w, x, subst (λ n. RoundsGo space code log n w u) (sym is) (rounds_of space code rules log w breaks b.0 u b.1)))

  module _ (log' : Log) (same : log' ≡ log) (u v : WorldAt State Value Fixed) (between : Between u) where
    -- the last run stops at a break
    pub ends : (s : Stopped) → StopsAt space code log' u [] breaks v s → StopsAt space code log w [] breaks v s
    ends s h = stops_on space code rules log w breaks between.0 u between.1 v s (subst (λ l. StopsAt space code l u [] breaks v s) same h)

    module _ (all : List Break) (last : ℕ) (parts : HasParts last breaks all) where
      with_more : (s : Stopped) → StopsAt space code log' u [] all v s → StopsAt space code log u [] (breaks ++ parts.more) v s
      with_more s h = subst (λ bs. StopsAt space code log u [] bs v s) parts.all_breaks (subst (λ l. StopsAt space code l u [] all v s) same h)

      -- a part ends
      pub goes_on : last + 1 ≡ length w.threads → (s : Stopped) → is_part (length breaks) s ≡ true → StopsAt space code log' u [] all v s → Between v
      goes_on is (stopped.Break i) part h = on_by_extra space code rules log w breaks parts.more last is parts.of_thread between.0 u between.1 i v (with_more (stopped.Break i) h) (leb-true _ _ part)
      goes_on is stopped.Finished part h = absurd cc
      goes_on is stopped.Stuck part h = absurd cc
      goes_on is (stopped.Fault f) part h = absurd cc

      of_breaks : (s : Stopped) → is_part (length breaks) s ≡ false → (i : ℕ) → s ≡ stopped.Break i → i < length breaks
      of_breaks s part i is = leb-false _ _ (subst (λ x. is_part (length breaks) x ≡ false) is part)

      -- or the run does
      pub stops_in_part : (s : Stopped) → is_part (length breaks) s ≡ false → StopsAt space code log' u [] all v s → StopsAt space code log w [] breaks v s
      stops_in_part s part h = stops_on space code rules log w breaks between.0 u between.1 v s (stops_of_more space code log breaks parts.more u v s (of_breaks s part) (with_more s h))
