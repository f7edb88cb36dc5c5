-- A run that a log tells of is a gated run from it.
use Rattle.replay_laws.specs.Log.{Log}
use Rattle.log_pieces.specs.declared.end.End.{End}
use Rattle.log_pieces.specs.declared.flat.Flat.TheVariants.{Known}
use Rattle.rw_objects.specs.declared.entry.Entry.{Entry}
use Rattle.std.proofs.Common.{◌≡◌, ℕ, ◌+◌, ◌-◌, ◌<◌, ◌≤◌, ◌==◌, cond, List, [], ◌∷◌, Option, Some, None, refl, sym, ap, ◌∙◌, subst, inl, arith}
use Rattle.std.specs.Prelude.{slice_get}
use Rattle.std.proofs.lemmas.Bool.Decides.{nat_tests}
use Rattle.replay_laws.proofs.System.{Touch, ReadOf, WriteOf, System}
use Rattle.replay_laws.proofs.Worlds.{World, touches_of, found_by, action, Happening, IsStep, IsRun}
use Rattle.replay_laws.proofs.Logs.{entries_of, IsOpen, IsEventLet, IsLet, IsGated}
use Rattle.replay_laws.proofs.Facts.{fact, events_in}
use Rattle.replay_laws.proofs.Points.{first, last, steps_counter, reaches}
use Rattle.replay_laws.proofs.Places.{own_next, entry_at, rise_places, more_places}
use Rattle.replay_laws.proofs.Counts.{own_step}
use Rattle.replay_laws.proofs.Vouch.{does_found}

open_self : {V S : Type 0} (ts : List Touch) (w : World V S) → IsOpen (found_by w.version w.reads ts) w
open_self [] w = tt
open_self (ReadOf o ∷ ts) w = (refl, open_self ts w)
open_self (WriteOf o ∷ ts) w = (refl, refl, open_self ts w)

own_place : (t a b : ℕ) → b ≡ cond (t == t) (a + 1) a → b ≡ a + 1
own_place t a b e = grind (arith, nat_tests)

module _ {V O R S : Type 0} (sys : System V O R S) (log : Log) where
  -- the log tells of each thread's steps and entries
  pub record Tells (w : World V S) (hs : List (Happening V S)) (u : World V S) : Type 0 where
    pub ends : (t : ℕ) → t < sys.threads → (e : End) × (log.end t ≡ Some (Known e)) × (u.steps t ≤ e.steps) × (u.places t ≤ e.places)
    pub entries : (t i : ℕ) (e : Entry) → slice_get (entries_of t hs) i ≡ Some e → log.entry t (w.places t + i) ≡ Some (Known e)

  event_let : (h : Happening V S) → IsStep sys h → (places : ℕ) (o : Option Entry) → h.entry ≡ o → ((e : Entry) → o ≡ Some e → (h.before.places h.thread < places) × (log.entry h.thread (h.before.places h.thread) ≡ Some (Known e))) → IsEventLet (log.entry h.thread (h.before.places h.thread)) places h o
  event_let h s places None q k = tt
  event_let h s places (Some e) q k =
      let f = does_found sys h (action (sys.next (h.before.state h.thread)) h.input) s.does e q in
      record {
        place = (k e refl).0;
        item = e;
        is_known = (k e refl).1;
        is_open = subst (λ y. IsOpen y h.before) (sym f) (open_self (touches_of e.found) h.before);
        same_kind = refl;
        same_touches = refl;
      }

  head_let : (w : World V S) (x : Happening V S) (hs : List (Happening V S)) (u : World V S) → IsRun sys w (x ∷ hs) u → Tells w (x ∷ hs) u → IsLet log x
  head_let w x hs u r k =
      let t = x.thread in
      let e = k.ends t r.1.exists in
      let a = own_step t t _ _ ((fact sys x r.1).steps t) refl in
      let b = reaches sys (λ y. y.steps t) (λ y. y.state t) (steps_counter sys t) x.after hs u x.after r.2 (first x.after hs) in
      let z = ap (λ y. y.places t) r.0 in
      record {
        end = e.0;
        is_known = e.1;
        below = let c = e.2 in omega arith;
        event = event_let x r.1 e.0.places x.entry refl (λ d q.
            let p = own_place t _ _ ((fact sys x r.1).places t ∙ ap (λ y. cond (t == t) (x.before.places t + events_in y) (x.before.places t)) q) in
            let m = rise_places sys t x.after hs u u r.2 (last sys x.after hs u r.2) in
            let c = e.3 in
            let n : w.places t + 0 ≡ x.before.places t = omega arith in
            (omega arith, ap (log.entry t) (sym n) ∙ k.entries t 0 d (entry_at sys w (x ∷ hs) u r x (inl refl) d q 0 (omega arith))));
      }

  tail_tells : (w : World V S) (x : Happening V S) (hs : List (Happening V S)) (u : World V S) → IsRun sys w (x ∷ hs) u → Tells w (x ∷ hs) u → Tells x.after hs u
  tail_tells w x hs u r k =
      record {
        ends = k.ends;
        entries = λ t j e q.
            let z = ap (λ y. y.places t) r.0 in
            let f = (fact sys x r.1).places t in
            let l = more_places sys t x r.1 in
            let i : ℕ = x.after.places t + j - x.before.places t in
            let a : x.after.places t + j ≡ x.before.places t + i = omega arith in
            let b : w.places t + i ≡ x.after.places t + j = omega arith in
            ap (log.entry t) (sym b) ∙ k.entries t i e (own_next x.thread t (x.before.places t) (x.after.places t) j x.entry (entries_of t hs) (Some e) l f i a q);
      }

  pub gated_by : (w : World V S) (hs : List (Happening V S)) (u : World V S) → IsRun sys w hs u → Tells w hs u → IsGated sys log w hs u
  gated_by w [] u r k = r
  gated_by w (x ∷ hs) u r k = (r.0, r.1, head_let w x hs u r k, gated_by x.after hs u r.2 (tail_tells w x hs u r k))
