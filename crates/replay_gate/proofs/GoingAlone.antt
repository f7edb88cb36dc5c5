-- Rounds in which one thread makes local steps and all others rest.
use Rattle.std.proofs.Common.{◌≡◌, ℕ, ◌-◌, ◌<◌, ◌≤◌, List, length, slice_set, Option, Some, None, slice_get, refl, sym, ap, ◌∙◌, subst, arith, inl, inr}
use Rattle.std.proofs.lemmas.Bool.{cases_eq}
use Rattle.std.proofs.lemmas.Option.{same_Some, slice_get_within}
use Rattle.rw_objects.specs.Space.{Space}
use Rattle.rw_objects.specs.Code.{Code, CodeLaws}
use Rattle.event_core.specs.LocalRun.{thread_in}
use Rattle.event_core.specs.Threads.{ThreadAt}
use Rattle.event_core.specs.World.{WorldAt}
use Rattle.log_pieces.specs.declared.end.End.{End}
use Rattle.log_pieces.specs.declared.flat.Flat.{Flat}
use Rattle.log_pieces.specs.declared.flat.Flat.TheVariants as flat
use Rattle.replay_laws.specs.Log.{Log}
use Rattle.replay_gate.specs.Alone.{GoesAlone}
use Rattle.replay_gate.specs.Local.{steps_left_of}
use Rattle.replay_gate.specs.LocalRounds.{RoundsOf, AreLocalRounds}
use Rattle.replay_gate.proofs.RunsAlone.{left_within}
use Rattle.replay_gate.specs.declared.breaks.Break.{Break}
use Rattle.replay_gate.specs.declared.known.Known.{Known}
use Rattle.replay_gate.specs.Clear.{AreClear}
use Rattle.replay_gate.specs.Free.{IsFree, AreFree}
use Rattle.replay_gate.specs.Known.{IsLone, AreKnown, GoesAhead}
use Rattle.replay_gate.proofs.FreeEvents.{later_free, made_locally}
use Rattle.replay_gate.proofs.FreeSteps.{all_free}
use Rattle.replay_gate.proofs.LocalRounds.{fewer_clear}

module _ {State Op Reply Value Fixed : Type 0} (space : Space Op Reply Value Fixed) (code : Code State Op Reply Fixed) where
  -- a thread that has steps left is there
  left_there : (o : Option (Flat End)) (x : Option (ThreadAt State)) (n : ℕ) → 0 < n → n ≤ steps_left_of code o x → (th : ThreadAt State) × (x ≡ Some th)
  left_there None x n some few = absurd (omega (arith, some, few))
  left_there (Some flat.Clash) x n some few = absurd (omega (arith, some, few))
  left_there (Some (flat.Known e)) None n some few = absurd (omega (arith, some, few))
  left_there (Some (flat.Known e)) (Some th) n some few = (th, refl)

  module _ (rules : CodeLaws space code) (log : Log) (w v : WorldAt State Value Fixed) (breaks : List Break) (t left made : ℕ) (goes : GoesAlone code t made w v) (some : 0 < left) (few : made ≤ left) (free : IsFree code log w breaks t left) where
    own : (th after : ThreadAt State) → slice_get w.threads t ≡ Some th → slice_get v.threads t ≡ Some after → RoundsOf space code log made w t th after
    own th after is behind =
        let g = goes.own th is in
        let l = left_within space code log t left w th is some free.within in
        inl (
          g.0,
          record { end = l.end; is_known = l.is_known; within = let x = l.within in omega (arith, x, few); goes = g.1 },
          same_Some after (thread_in g.0 th) (sym behind ∙ g.2),
        )

    module _ (all : List Known) (lone : IsLone all (length w.threads) t) (are : AreKnown space code log w all) where
      each : (i : ℕ) (th after : ThreadAt State) → slice_get w.threads i ≡ Some th → slice_get v.threads i ≡ Some after → RoundsOf space code log made w i th after
      each i th after is behind =
          elim (cases_eq i t) [
            | inl e ↦ subst (λ j. RoundsOf space code log made w j th after) (sym e) (own th after (ap (slice_get w.threads) (sym e) ∙ is) (ap (slice_get v.threads) (sym e) ∙ behind))
            | inr d ↦
                let r = lone.rest i (slice_get_within w.threads i th is) d in
                inr ((are i _ r.1).0, same_Some after th (sym behind ∙ goes.others i d ∙ is))
          ]

      alone_rounds : AreLocalRounds space code log made w v
      alone_rounds = record { memory = goes.memory; len = goes.len; each = each }

      pub alone_ahead : (k : ℕ) → made ≤ k → AreClear code w k breaks → GoesAhead space code log w v breaks
      alone_ahead k l clear = record { rounds = made; leads = inr alone_rounds; clear = λ j b is. fewer_clear code w k made b l (clear j b is) }

    pub alone_free : (frees : List ℕ) → AreFree code log w breaks frees → t < length frees → AreFree code log v breaks (slice_set frees t (left - made))
    alone_free frees are within =
        let th = left_there (log.end t) (slice_get w.threads t) left some free.within in
        let g = goes.own th.0 th.1 in
        all_free code log breaks w v t (left - made) frees are (later_free space code log breaks w v t made left th.0 (thread_in g.0 th.0) th.1 g.2 (made_locally space code rules made th.0.state g.0 g.1) few free) goes.others within
