-- The turns that are left, from a world to which a gated run leads.
use Rattle.std.proofs.Common.{◌≡◌, ◌⊎◌, ℕ, [], length, refl, sym, ap, ◌∙◌, subst, arith, inl, inr}
use Rattle.std.proofs.lemmas.Option.{slice_get_within}
use Rattle.rw_objects.specs.Space.{Space, SpaceLaws}
use Rattle.rw_objects.specs.Code.{Code, CodeLaws}
use Rattle.event_core.specs.declared.pick.Pick.{Pick}
use Rattle.event_core.specs.World.{WorldAt}
use Rattle.event_core.specs.Opening.{IsOpeningWorld}
use Rattle.event_core.specs.End.{RunEnd}
use Rattle.event_core.specs.Run.{end_of_world}
use Rattle.event_core.proofs.Places.{length_run}
use Rattle.replay_laws.specs.declared.turn.Turn.TheVariants as turn
use Rattle.replay_laws.specs.declared.turn.Refusal.{Refusal}
use Rattle.replay_laws.specs.declared.turn.Refusal.TheVariants.{Missing, Clash, Shut, Diverged}
use Rattle.replay_laws.specs.Log.{Log, HasLimits}
use Rattle.replay_laws.specs.Gates.{LetsPass, IsFinished}
use Rattle.replay_laws.specs.Turns.{turn_of}
use Rattle.replay_laws.specs.Ordered.{ordered_world, ordered_picks}
use Rattle.replay_laws.specs.Laws.{IsFree}
use Rattle.replay_laws.specs.Finishing.{PassesOn, OrderedEnds, IsEndOfRun}
use Rattle.replay_laws.proofs.Agreeing.{finished_logs_are_free}
use Rattle.replay_laws.proofs.Orders.{ordered_runs_are_gated}
use Rattle.replay_laws.proofs.Passing.{passing_turn}
use Rattle.replay_laws.proofs.Replays.{finished_replays_vouch, finished_replays_end_alike}
use Rattle.replay_gate.specs.declared.answers.ReplayFault.{ReplayFault}
use Rattle.replay_gate.specs.declared.answers.ReplayFault.TheVariants as fault
use Rattle.replay_gate.specs.Leads.{Leads}
use Rattle.replay_gate.specs.Answers.{fault_of, IsOrderedFault, IsVouchedEnd, IsEndOfRuns, IsWantOfMemory}
use Rattle.replay_gate.proofs.Going.{leads_on}
use Rattle.replay_gate.specs.Finished.{IsStuck, IsGatedFault, IsReplayEnd, IsReplayFault}

module _ {State Op Reply Value Fixed : Type 0} (space : Space Op Reply Value Fixed) (code : Code State Op Reply Fixed) (laws : SpaceLaws space) (rules : CodeLaws space code) (log : Log) (limits : HasLimits log) (w : WorldAt State Value Fixed) where
  -- an end of a finished gated run vouches for the log, and is that of every run whose log this one is below
  vouched_end : IsOpeningWorld code w → (end : RunEnd) → IsEndOfRun space code log w end → IsVouchedEnd space code log w end
  vouched_end opening end r = record { picks = r.picks; vouched = finished_replays_vouch space code laws rules w opening log r.picks r.run.gated r.run.finished; is = r.is }

  end_of_runs : IsOpeningWorld code w → (end : RunEnd) → IsEndOfRun space code log w end → IsEndOfRuns space code log w end
  end_of_runs opening end r picks run below = r.is ∙ finished_replays_end_alike space code laws rules w picks (record { opening = opening; run = run }) log below r.picks r.run.gated r.run.finished

  never_refused : (v : WorldAt State Value Fixed) (t : ℕ) (r : Refusal) → IsFree space code log v → turn_of space code log v t ≡ turn.Refused r → (PassesOn (turn.Refused r) → ⊥) → ⊥
  never_refused v t Missing free h ends = free.no_missing t h
  never_refused v t Clash free h ends = free.no_clash t h
  never_refused v t Diverged free h ends = free.no_divergence t h
  never_refused v t Shut free h ends = ends tt

  never_stuck : (v : WorldAt State Value Fixed) → IsStuck space code log v → IsFinished code log v ⊎ ((p : Pick) × LetsPass space code log v p) → ⊥
  never_stuck v s (inl f) = s.unfinished f
  never_stuck v s (inr p) =
      let within = slice_get_within v.threads p.0.thread p.1.thread p.1.exists in
      let none = s.still p.0.thread within in
      let some = passing_turn space code rules log limits v p.0.thread p.0.input p.1 in
      cc

  -- where some gated run from the log is finished, none comes to a fault
  want_of_memory : (f : ReplayFault) → (f ≡ fault.NoMemory) ⊎ IsGatedFault space code log w f → IsWantOfMemory space code log w f
  want_of_memory f (inl memory) picks run = memory
  want_of_memory f (inr h) picks run =
      let free = subst (IsFree space code log) (sym h.leads.leads) (finished_logs_are_free space code laws rules w log picks run h.leads.picks h.leads.gated) in
      elim h.fault [ inl s ↦ absurd (never_refused h.world s.0 s.1.refusal free s.1.refused s.1.ends) | inr s ↦ absurd (never_stuck h.world s.1 free.goes_on) ]

  module _ (v : WorldAt State Value Fixed) (before : Leads space code log w v) where
    behind : (k : ℕ) → Leads space code log w (ordered_world space code log v [] k)
    behind k =
        let o = ordered_runs_are_gated space code laws rules log limits v [] k in
        leads_on space code log w v (ordered_world space code log v [] k) before (record { picks = ordered_picks space code log v [] k; gated = o.gated; leads = o.world })

    as_many : (k : ℕ) → length (ordered_world space code log v [] k).threads ≡ length v.threads
    as_many k = ap (λ u. length u.threads) (ordered_runs_are_gated space code laws rules log limits v [] k).world ∙ length_run space code v (ordered_picks space code log v [] k)

    -- the end to which rounds come
    end_behind : IsOpeningWorld code w → (end : RunEnd) → OrderedEnds space code log v [] end → IsEndOfRun space code log w end
    end_behind opening end o =
        let a = behind o.turns in
        record { picks = a.picks; run = record { opening = opening; gated = a.gated; finished = subst (IsFinished code log) a.leads o.finished }; is = o.is ∙ ap (end_of_world space code) a.leads }

    -- the fault to which they come
    fault_behind : (f : ReplayFault) → (f ≡ fault.NoMemory) ⊎ IsOrderedFault space code log v [] f → (f ≡ fault.NoMemory) ⊎ IsGatedFault space code log w f
    fault_behind f (inl memory) = inl memory
    fault_behind f (inr (inl s)) = inr (record {
      world = ordered_world space code log v [] s.stops.turns;
      leads = behind s.stops.turns;
      fault = inl (s.thread, record { refusal = s.refusal; refused = s.stops.refused; ends = s.stops.ends; thread = s.stops.thread; exists = s.stops.exists; is = s.is ∙ ap (fault_of s.refusal s.thread) (sym s.stops.stands) });
    })
    fault_behind f (inr (inr s)) = inr (record {
      world = ordered_world space code log v [] s.1.turns;
      leads = behind s.1.turns;
      fault = inr (
        s.0,
        record {
          still = λ t l. s.1.still t (let n = as_many s.1.turns in omega (arith, l, n));
          shut = λ t l. s.1.shut t (let n = as_many s.1.turns in omega (arith, l, n));
          unfinished = s.1.unfinished;
        },
      );
    })

    -- what rounds answer
    pub right_end : IsOpeningWorld code w → (end : RunEnd) → OrderedEnds space code log v [] end → IsReplayEnd space code log w end
    right_end opening end o =
        let r = end_behind opening end o in
        record { finished = r; vouches = vouched_end opening end r; recorded = end_of_runs opening end r }

    pub right_fault : (f : ReplayFault) → (f ≡ fault.NoMemory) ⊎ IsOrderedFault space code log v [] f → IsReplayFault space code log w f
    right_fault f e = let h = fault_behind f e in record { is = h; wants = want_of_memory f h }

  -- where the workers wanted memory
  pub starved_fault : (f : ReplayFault) → f ≡ fault.NoMemory → IsReplayFault space code log w f
  starved_fault f e = record { is = inl e; wants = λ picks run. e }
