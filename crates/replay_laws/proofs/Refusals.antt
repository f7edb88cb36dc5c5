-- No clash and no divergence on the way.
use Rattle.event_core.specs.declared.pick.Input.{Input}
use Rattle.event_core.specs.declared.pick.Input.TheVariants.{Go, TimeOut}
use Rattle.replay_laws.specs.Log.{Log}
use Rattle.log_pieces.specs.declared.end.End.{End}
use Rattle.log_pieces.specs.declared.flat.Flat.{Flat}
use Rattle.log_pieces.specs.declared.flat.Flat.TheVariants.{Clash, Known}
use Rattle.rw_objects.specs.declared.entry.Entry.{Entry}
use Rattle.rw_objects.specs.declared.entry.Kind.{Kind}
use Rattle.rw_objects.specs.declared.entry.Kind.TheVariants.{Access, TimedOut, Woken}
use Rattle.wasm_types.specs.declared.outcome.Outcome.{Outcome}
use Rattle.std.proofs.Common.{◌≡◌, ◌≢◌, ℕ, ◌+◌, ◌<◌, ◌≤◌, ◌==◌, Bool, true, false, cond, List, [], ◌∷◌, Option, Some, None, refl, sym, ap, ◌∙◌, subst, inl, inr, arith}
use Rattle.std.specs.Prelude.{◌⊎◌, slice_get}
use Rattle.std.proofs.lemmas.Bool.Decides.{nat_tests}
use Rattle.replay_laws.proofs.System.{Absent, mode, Next, Local, Ask, Asleep, Halted, System, IsNear}
use Rattle.replay_laws.proofs.Worlds.{World, touches_of, found_by, Do, action, out_of, Happening, IsOpening, Does, IsRun}
use Rattle.replay_laws.specs.Log.{IsBelow, IsBelowLog, known}
use Rattle.replay_laws.proofs.Logs.{entries_of, IsOpen, end_of, log_of, IsPoint}
use Rattle.replay_laws.proofs.Turns.{Answer, Clashing, Diverged, op_for, HasTouches, CanGive, IsReadyAt, action_for, IsItemTurn, Cannot, Is_shut, Not_ready, Passes, OfEntry, IsPlaceTurn, Past_places, At_place, OfNext, IsEndTurn, Ends, Ends_elsewhere, Steps_left, OfEnd, IsTurn, No_thread, Of_thread}
use Rattle.replay_laws.specs.Turns.{input_for}
use Rattle.replay_laws.proofs.Facts.{fact, events_in, touches_found}
use Rattle.replay_laws.proofs.Points.{IsIn, last, step_in, before_in, after_in, same, reaches, steps_counter, places_counter, version_counter}
use Rattle.replay_laws.proofs.Places.{moment, entry_at, rise_places}
use Rattle.replay_laws.proofs.Match.{Way, below_known, below_end, open_found}

no_clash : {A : Type 0} (a : Option (Flat A)) (b : Option A) → IsBelow a (known b) → a ≡ Some Clash → ⊥
no_clash None b l e = cc
no_clash (Some a) None (inl q) e = cc
no_clash (Some a) None (inr q) e = cc
no_clash (Some a) (Some y) (inl q) e = cc
no_clash (Some a) (Some y) (inr q) e = cc

no_clash_cond : {A : Type 0} (a : Option (Flat A)) (c : Bool) (b : A) → IsBelow a (cond c (Some (Known b)) None) → a ≡ Some Clash → ⊥
no_clash_cond a true b l e = no_clash a (Some b) l e
no_clash_cond a false b l e = no_clash a None l e

abbrev pub IsEvent : {O R S : Type 0} → Next O R S → Type 0
IsEvent (Local s) = ⊥
IsEvent (Ask op k) = Unit {0}
IsEvent (Asleep resume out k) = Unit {0}
IsEvent (Halted x) = ⊥

module _ {V O R S : Type 0} (sys : System V O R S) where
  -- a run's step of a thread at an event has an entry, which the thread's action for its kind gives
  pub record Given (h : Happening V S) (n : Next O R S) : Type 0 where
    pub kind : Kind
    pub op : O
    pub after : R → S
    pub does : Does sys h (Do kind op after)
    pub acts : action n (input_for kind) ≡ Do kind op after
    pub names : op_for n kind ≡ Some op

  given_out : (h : Happening V S) (resume : O) (out : Option O) (k : R → S) → Does sys h (out_of out k) → Given h (Asleep resume out k)
  given_out h resume None k d = absurd d
  given_out h resume (Some op) k d = record { kind = TimedOut; op = op; after = k; does = d; acts = refl; names = refl }

  pub given : (h : Happening V S) (n : Next O R S) (i : Input) → IsEvent n → Does sys h (action n i) → Given h n
  given h (Local s) i e d = absurd e
  given h (Ask op k) Go e d = record { kind = Access; op = op; after = k; does = d; acts = refl; names = refl }
  given h (Ask op k) TimeOut e d = absurd d
  given h (Asleep resume out k) Go e d = record { kind = Woken; op = resume; after = k; does = d; acts = refl; names = refl }
  given h (Asleep resume out k) TimeOut e d = given_out h resume out k d
  given h (Halted x) i e d = absurd e

  halted : (h : Happening V S) (n : Next O R S) (i : Input) (x : Outcome) → n ≡ Halted x → Does sys h (action n i) → ⊥
  halted h n i x e d = rw e at d

  own_place : (t a b : ℕ) → b ≡ cond (t == t) (a + 1) a → b ≡ a + 1
  own_place t a b e = grind (arith, nat_tests)

  reach_places : (t : ℕ) (w : World V S) (hs : List (Happening V S)) (u p : World V S) → IsRun sys w hs u → IsPoint w hs p → p.places t ≤ u.places t
  reach_places t w [] u p r q = let e = ap (λ y. y.places t) q in let d = ap (λ y. y.places t) r in omega arith
  reach_places t w (h ∷ hs) u p r (inl q) = let e = ap (λ y. y.places t) q in let d = rise_places sys t w (h ∷ hs) u u r (inr (last sys h.after hs u r.2)) in omega arith
  reach_places t w (h ∷ hs) u p r (inr q) = reach_places t h.after hs u p r.2 q

  module _ (w : World V S) (hs : List (Happening V S)) (u : World V S) (r : IsRun sys w hs u) (opening : IsOpening w) (laws : IsNear sys) (log : Log) (below : IsBelowLog log (log_of sys hs u)) (g : World V S) (way : Way sys w hs g) (t : ℕ) where
    end_clash : log.end t ≡ Some Clash → ⊥
    end_clash e = no_clash_cond (log.end t) _ (end_of sys u t) (below.ends t) e

    entry_clash : log.entry t (g.places t) ≡ Some Clash → ⊥
    entry_clash e = no_clash (log.entry t (g.places t)) (slice_get (entries_of t hs) (g.places t)) (below.entries t (g.places t)) e

    -- the run's own next step of the thread
    pub record Ahead : Type 0 where
      pub step : Happening V S
      pub is_in : IsIn step hs
      pub thread : step.thread ≡ t
      pub state : step.before.state t ≡ g.state t
      pub places : step.before.places t ≡ g.places t

    ahead : g.steps t < u.steps t → Ahead
    ahead l =
        let m = moment sys t (g.steps t) w hs u r (let z = (opening t).0 in omega arith) l in
        let v = way.stood t in
        let p = before_in sys w hs u r m.step m.is_in in
        record {
          step = m.step;
          is_in = m.is_in;
          thread = m.thread;
          state = same sys (λ y. y.steps t) (λ y. y.state t) (steps_counter sys t) w hs u m.step.before v.point r p v.is_point (m.steps ∙ sym v.steps) ∙ v.state;
          places = same sys (λ y. y.steps t) (λ y. y.places t) (places_counter sys t) w hs u m.step.before v.point r p v.is_point (m.steps ∙ sym v.steps) ∙ v.places;
        }

    module _ (exists : t < sys.threads) where
      end_is : (e : End) → log.end t ≡ Some (Known e) → e ≡ end_of sys u t
      end_is e q = below_end sys (log.end t) u t e exists (below.ends t) q

      left : (e : End) → log.end t ≡ Some (Known e) → g.steps t < e.steps → g.steps t < u.steps t
      left e q l = let d = ap (λ y. y.steps) (end_is e q) in omega arith

      does_ahead : (a : Ahead) → Does sys a.step (action (sys.next (g.state t)) a.step.input)
      does_ahead a =
          subst (λ q. Does sys a.step (action (sys.next q) a.step.input)) (ap (λ k. a.step.before.state k) a.thread ∙ a.state) (step_in sys w hs u r a.step a.is_in).does

      given_ahead : (a : Ahead) → IsEvent (sys.next (g.state t)) → Given a.step (sys.next (g.state t))
      given_ahead a e = given a.step (sys.next (g.state t)) a.step.input e (does_ahead a)

      -- the known entry is the run's
      item_is : (a : Ahead) (d : Given a.step (sys.next (g.state t))) (item : Entry) → log.entry t (g.places t) ≡ Some (Known item) → item ≡ record { kind = d.kind; found = found_by a.step.before.version a.step.before.reads (sys.touches d.op) }
      item_is a d item q =
          let x = a.step in
          let z = (opening x.thread).1 in
          let e = entry_at sys w hs u r x a.is_in _ d.does.2 (x.before.places x.thread) (omega arith) in
          let f : x.before.places x.thread ≡ g.places t = ap (λ k. x.before.places k) a.thread ∙ a.places in
          let k = below_known (log.entry t (g.places t)) (slice_get (entries_of t hs) (g.places t)) item (below.entries t (g.places t)) q in
          let c : slice_get (entries_of t hs) (g.places t) ≡ Some (record { kind = d.kind; found = found_by x.before.version x.before.reads (sys.touches d.op) }) = sym (ap (λ k. slice_get (entries_of k hs) (x.before.places x.thread)) a.thread ∙ ap (slice_get (entries_of t hs)) f) ∙ e in
          some_is _ _ (sym k ∙ c)
        where
          some_is : (a b : Entry) → Some a ≡ Some b → a ≡ b
          some_is a b e = cc

      acts_for : (a : Ahead) (d : Given a.step (sys.next (g.state t))) (item : Entry) → log.entry t (g.places t) ≡ Some (Known item) → action_for sys g t item ≡ Do d.kind d.op d.after
      acts_for a d item q = ap (λ y. action (sys.next (g.state t)) (input_for y.kind)) (item_is a d item q) ∙ d.acts

      can_give : (a : Ahead) (d : Given a.step (sys.next (g.state t))) (item : Entry) → log.entry t (g.places t) ≡ Some (Known item) → CanGive sys g t item
      can_give a d item q =
          let e = item_is a d item q in
          subst (λ y. HasTouches sys y item) (sym (ap (λ y. op_for (sys.next (g.state t)) y.kind) e ∙ d.names))
          (sym (ap (λ y. touches_of y.found) e ∙ touches_found a.step.before.version a.step.before.reads (sys.touches d.op)))

      is_ready : (a : Ahead) (d : Given a.step (sys.next (g.state t))) (item : Entry) → log.entry t (g.places t) ≡ Some (Known item) → IsOpen item.found g → IsReadyAt sys g (action_for sys g t item)
      is_ready a d item q o =
          let x = a.step in
          let e = item_is a d item q in
          let f = open_found (sys.touches d.op) x.before.version x.before.reads g (subst (λ y. IsOpen y.found g) e o) in
          let near : (k : ℕ) → mode (sys.touches d.op) k ≢ Absent → g.value k ≡ x.before.value k =
          λ k c. let v = way.recorded k in sym v.value ∙ same sys (λ y. y.version k) (λ y. y.value k) (version_counter sys k) w hs u v.point x.before r v.is_point (before_in sys w hs u r x a.is_in) (v.version ∙ f.version k c) in
          subst (λ y. IsReadyAt sys g y) (sym (acts_for a d item q)) (laws.near_ready d.op g.value x.before.value near ∙ d.does.0)

      places_left : (a : Ahead) → Given a.step (sys.next (g.state t)) → g.places t < u.places t
      places_left a d =
          let x = a.step in
          let f = (fact sys x (step_in sys w hs u r x a.is_in)).places x.thread ∙ ap (λ y. cond (x.thread == x.thread) (x.before.places x.thread + events_in y) (x.before.places x.thread)) d.does.2 in
          let b = own_place x.thread _ _ f in
          let c = reach_places x.thread w hs u x.after r (after_in sys w hs u r x a.is_in) in
          let e : x.before.places x.thread ≡ g.places t = ap (λ k. x.before.places k) a.thread ∙ a.places in
          let k = ap (λ k. u.places k) a.thread in
          omega arith

      at_end : (e : End) → log.end t ≡ Some (Known e) → g.steps t ≡ e.steps → e ≡ end_of sys g t
      at_end e q l =
          let d = end_is e q in
          let v = way.stood t in
          let k : v.point.steps t ≡ u.steps t = v.steps ∙ l ∙ ap (λ y. y.steps) d in
          let s : g.state t ≡ u.state t = sym v.state ∙ same sys (λ y. y.steps t) (λ y. y.state t) (steps_counter sys t) w hs u v.point u r v.is_point (last sys w hs u r) k in
          let p : g.places t ≡ u.places t = sym v.places ∙ same sys (λ y. y.steps t) (λ y. y.places t) (places_counter sys t) w hs u v.point u r v.is_point (last sys w hs u r) k in
          let j : g.steps t ≡ u.steps t = sym v.steps ∙ k in
          rw (d, s, p, j) refl

      -- a refusal that no gated run meets
      abbrev IsBad : Answer → Type 0
      IsBad a = (a ≡ Clashing) ⊎ (a ≡ Diverged)

      not_bad : (a b : Answer) → a ≡ b → IsBad b → IsBad a
      not_bad a b e h = rw e h

      bad_item : (b : Answer) → IsBad b → (e : End) → log.end t ≡ Some (Known e) → g.steps t < e.steps → IsEvent (sys.next (g.state t)) → (item : Entry) → log.entry t (g.places t) ≡ Some (Known item) → IsItemTurn sys g t b item → ⊥
      bad_item b h e q l v item i (Cannot d p) = let a = ahead (left e q l) in d (can_give a (given_ahead a v) item i)
      bad_item b (inl h) e q l v item i (Is_shut c d p) = cc
      bad_item b (inr h) e q l v item i (Is_shut c d p) = cc
      bad_item b h e q l v item i (Not_ready c o d p) = let a = ahead (left e q l) in d (is_ready a (given_ahead a v) item i o)
      bad_item b (inl h) e q l v item i (Passes c o d p) = cc
      bad_item b (inr h) e q l v item i (Passes c o d p) = cc

      bad_entry : (b : Answer) → IsBad b → (e : End) → log.end t ≡ Some (Known e) → g.steps t < e.steps → IsEvent (sys.next (g.state t)) → (item : Option (Flat Entry)) → log.entry t (g.places t) ≡ item → OfEntry sys g t b item → ⊥
      bad_entry b (inl h) e q l v None i p = cc
      bad_entry b (inr h) e q l v None i p = cc
      bad_entry b h e q l v (Some (Known item)) i p = bad_item b h e q l v item i p
      bad_entry b h e q l v (Some Clash) i p = entry_clash i

      bad_place : (b : Answer) → IsBad b → (e : End) → log.end t ≡ Some (Known e) → g.steps t < e.steps → IsEvent (sys.next (g.state t)) → IsPlaceTurn sys log g t b e → ⊥
      bad_place b h e q l v (Past_places p d) = let a = ahead (left e q l) in let c = places_left a (given_ahead a v) in let d = ap (λ y. y.places) (end_is e q) in omega arith
      bad_place b h e q l v (At_place p d) = bad_entry b h e q l v (log.entry t (g.places t)) refl d

      bad_next : (b : Answer) → IsBad b → (e : End) → log.end t ≡ Some (Known e) → g.steps t < e.steps → (n : Next O R S) → sys.next (g.state t) ≡ n → OfNext sys log g t b e n → ⊥
      bad_next b (inl h) e q l (Local s) m p = cc
      bad_next b (inr h) e q l (Local s) m p = cc
      bad_next b h e q l (Ask op k) m p = bad_place b h e q l (rw m tt) p
      bad_next b h e q l (Asleep resume out k) m p = bad_place b h e q l (rw m tt) p
      bad_next b h e q l (Halted x) m p = let a = ahead (left e q l) in halted a.step (sys.next (g.state t)) a.step.input x m (does_ahead a)

      bad_end : (b : Answer) → IsBad b → (e : End) → log.end t ≡ Some (Known e) → IsEndTurn sys log g t b e → ⊥
      bad_end b (inl h) e q (Ends l d p) = cc
      bad_end b (inr h) e q (Ends l d p) = cc
      bad_end b h e q (Ends_elsewhere l d p) = d (at_end e q (let c = ap (λ y. y.steps) (end_is e q) in let v = way.stood t in let m = reaches sys (λ y. y.steps t) (λ y. y.state t) (steps_counter sys t) w hs u v.point r v.is_point in let n = v.steps in omega arith))
      bad_end b h e q (Steps_left l p) = bad_next b h e q l (sys.next (g.state t)) refl p

      bad_of_end : (b : Answer) → IsBad b → (o : Option (Flat (End))) → log.end t ≡ o → OfEnd sys log g t b o → ⊥
      bad_of_end b (inl h) None q p = cc
      bad_of_end b (inr h) None q p = cc
      bad_of_end b h (Some (Known e)) q p = bad_end b h e q p
      bad_of_end b h (Some Clash) q p = end_clash q

    bad : (b : Answer) → (b ≡ Clashing) ⊎ (b ≡ Diverged) → IsTurn sys log g t b → ⊥
    bad b (inl h) (No_thread l p) = cc
    bad b (inr h) (No_thread l p) = cc
    bad b h (Of_thread l p) = bad_of_end l b h (log.end t) refl p

    pub never_clashes : IsTurn sys log g t Clashing → ⊥
    never_clashes p = bad Clashing (inl refl) p

    pub never_diverges : IsTurn sys log g t Diverged → ⊥
    never_diverges p = bad Diverged (inr refl) p
