-- Turns by which threads go on.
use Rattle.std.proofs.Common.{◌≡◌, ℕ, ◌<◌, Some, refl, sym, ap, ◌∙◌, subst}
use Rattle.std.specs.Prelude.{Option, Result, Ok, Err, IfOk, OnErr}
use Rattle.rw_objects.specs.declared.count.Count.{Count}
use Rattle.rw_objects.specs.declared.entry.Entry.{Entry}
use Rattle.rw_objects.specs.Counts.{all_found}
use Rattle.rw_objects.specs.Memory.{Memory, entry_of}
use Rattle.rw_objects.specs.Space.{Space, SpaceLaws}
use Rattle.rw_objects.specs.Code.{Code, CodeLaws}
use Rattle.wasm_types.specs.declared.no_memory.NoMemory.{NoMemory}
use Rattle.event_core.specs.declared.pick.Input.TheVariants.{Go}
use Rattle.event_core.specs.declared.step.PickStep.TheVariants as step
use Rattle.event_core.specs.World.{WorldAt, step_of_pick, world_after_step}
use Rattle.log_pieces.specs.declared.end.End.{End}
use Rattle.log_pieces.specs.declared.flat.Flat.{Flat}
use Rattle.log_pieces.specs.declared.flat.Flat.TheVariants.{Known}
use Rattle.replay_laws.specs.declared.turn.Turn.{Turn}
use Rattle.replay_laws.specs.declared.turn.Turn.TheVariants as turn
use Rattle.replay_laws.specs.Log.{Log, HasLimits}
use Rattle.replay_laws.specs.Gates.{LetsPass, MeetsLog}
use Rattle.replay_laws.specs.Turns.{pick_of, turn_of, world_after_turn, input_of_turn}
use Rattle.replay_laws.proofs.Passing.{passing_turn}
use Rattle.replay_gate.specs.declared.ready.Ready.{Ready}
use Rattle.replay_gate.specs.declared.ready.Ready.TheVariants as ready
use Rattle.replay_gate.specs.Leads.{Leads}
use Rattle.replay_gate.specs.Local.{HasStepsLeft}
use Rattle.replay_gate.specs.Ready.{IsLogged, IsReady}
use Rattle.replay_gate.proofs.LocalTurns.{steps_locally, left_of}
use Rattle.replay_gate.proofs.Refusing.{turn_merely}
use Rattle.replay_gate.proofs.Taking.{found_open, found_of}
use Rattle.std.proofs.lemmas.Option.{same_Some}

go_turn : (x : Turn) → input_of_turn x ≡ Some Go → (x ≡ turn.Local → ⊥) → x ≡ turn.Event Go
go_turn turn.Done h n = absurd cc
go_turn turn.Local h n = absurd (n refl)
go_turn (turn.Event input) h n = ap (λ i. turn.Event i) (same_Some input Go h)
go_turn (turn.Refused r) h n = absurd cc

-- an entry that would be logged
pub logged_entry : {Op Reply Value Fixed : Type 0} (space : Space Op Reply Value Fixed) (m : Memory Value Fixed) (op : Op) (item : Entry) {counts : ℕ → Count} → counts ≡ m.counts → (space.kind op ≡ item.kind) × (all_found (space.touches op) counts ≡ item.found)
    → entry_of space m op ≡ item
logged_entry space m op item same h =
    let found : all_found (space.touches op) m.counts ≡ item.found = ap (all_found (space.touches op)) (sym same) ∙ h.1 in
    ap (λ k. let e : Entry = record { kind = k; found = all_found (space.touches op) m.counts } in e) h.0 ∙ ap (λ f. let e : Entry = record { kind = item.kind; found = f } in e) found

module _ {State Op Reply Value Fixed : Type 0} (space : Space Op Reply Value Fixed) (code : Code State Op Reply Fixed) (rules : CodeLaws space code) (log : Log) (limits : HasLimits log) (w : WorldAt State Value Fixed) (t : ℕ) where
  pub ready_event : (op : Op) (held : Option (Flat Entry)) (v : WorldAt State Value Fixed) → HasStepsLeft code log w t → step_of_pick space code w (pick_of t Go) ≡ step.Event op → IsLogged space log w t op held
      → v ≡ world_after_step space code w t (step.Event op) → IsReady space code log w t ready.Event held v
  ready_event op held v left is logged after =
      let l = left_of space code log w t left in
      let same = same_Some l.thread logged.thread (sym l.exists ∙ logged.exists) in
      let lets : LetsPass space code log w (pick_of t Go) = record {
        thread = l.thread;
        exists = l.exists;
        end = l.end;
        is_known = l.is_known;
        below = l.below;
        meets = subst (MeetsLog space (log.entry t l.thread.places) l.thread.places l.end.places w.memory) (sym is) (
          subst (λ x. l.thread.places < x) (ends_same l.end logged.end (sym l.is_known ∙ logged.is_known)) (subst (λ th. th.places < logged.end.places) (sym same) logged.below),
          record {
            item = entry_of space w.memory op;
            is_known = ap (λ th. log.entry t th.places) same ∙ logged.claimed;
            opens = found_open (space.touches op) w.memory.counts;
            same_kind = refl;
            same_touches = found_of (space.touches op) w.memory.counts;
          },
        );
      } in
      record {
        is = go_turn (turn_of space code log w t) (passing_turn space code rules log limits w t Go lets) (λ local. not_both (steps_locally space code log w t limits local) is);
        op = op;
        step = is;
        holds = logged.holds;
        leads = after ∙ ap (world_after_step space code w t) (sym is);
      }
    where
      not_both : step_of_pick space code w (pick_of t Go) ≡ step.Local → step_of_pick space code w (pick_of t Go) ≡ step.Event op → ⊥
      not_both a b = cc

      ends_same : (a b : End) → Some (Known a) ≡ Some (Known b) → b.places ≡ a.places
      ends_same a b h = let e : a ≡ b = cc in ap (λ x. x.places) (sym e)

  -- where a turn leads by which a thread goes on, or nothing was made
  pub ready_merely : SpaceLaws space → (opened v : WorldAt State Value Fixed) (held : Option (Flat Entry)) (r : Result Ready NoMemory) → ∥ Leads space code log opened w ∥₁ → IfOk r (λ x. IsReady space code log w t x held v) → OnErr r (v ≡ w)
      → ∥ Leads space code log opened v ∥₁
  ready_merely laws opened v held (Ok ready.Local) leads h err = turn_merely space code laws rules log limits opened w v t leads (h.1 ∙ ap (world_after_turn space code w t) (sym h.0))
  ready_merely laws opened v held (Ok ready.Event) leads h err = turn_merely space code laws rules log limits opened w v t leads (h.leads ∙ ap (world_after_turn space code w t) (sym h.is))
  ready_merely laws opened v held (Ok ready.Not) leads h err = subst (λ x. ∥ Leads space code log opened x ∥₁) (sym h) leads
  ready_merely laws opened v held (Err e) leads h err = subst (λ x. ∥ Leads space code log opened x ∥₁) (sym err) leads
