-- A step that a log of a run lets pass is the run's own step.
use Rattle.event_core.specs.declared.pick.Input.{Input}
use Rattle.event_core.specs.declared.pick.Input.TheVariants.{Go, TimeOut}
use Rattle.replay_laws.specs.Log.{Log}
use Rattle.log_pieces.specs.declared.end.End.{End}
use Rattle.log_pieces.specs.declared.flat.Flat.{Flat}
use Rattle.log_pieces.specs.declared.flat.Flat.TheVariants.{Known}
use Rattle.rw_objects.specs.declared.entry.Entry.{Entry}
use Rattle.rw_objects.specs.declared.touch.Found.TheVariants.{Read as ReadAt, Write as WriteAt}
use Rattle.rw_objects.specs.declared.entry.Kind.{Kind}
use Rattle.rw_objects.specs.declared.entry.Kind.TheVariants.{Access, Woken}
use Rattle.std.proofs.Common.{◌≡◌, ◌≢◌, ℕ, ◌<◌, ◌==◌, Bool, true, false, cond, List, [], ◌∷◌, Option, Some, None, refl, sym, ap, ◌∙◌, subst, inl, inr, arith}
use Rattle.std.specs.Prelude.{◌⊎◌, slice_get, nat_lt}
use Rattle.std.proofs.lemmas.Bool.Decides.{nat_tests}
use Rattle.replay_laws.proofs.System.{Touch, ReadOf, WriteOf, Mode, Absent, Reading, Writing, mode, stronger, Next, Local, Ask, Asleep, Halted, System, IsNear}
use Rattle.replay_laws.proofs.Worlds.{World, found_by, Action, Nothing, Move, Do, action, out_of, advance, IsSameWorld, value_after, Happening, touches_in, meets, IsOpening, Does, IsStep, IsRun}
use Rattle.replay_laws.specs.Log.{IsBelow, IsBelowLog, known}
use Rattle.replay_laws.proofs.Logs.{entries_of, IsOpen, IsEventLet, IsLet, end_at, log_of, IsRecorded, IsStood}
use Rattle.replay_laws.proofs.Facts.{touches_found}
use Rattle.replay_laws.proofs.Points.{IsIn, step_in, before_in, same, steps_counter, places_counter, version_counter}
use Rattle.replay_laws.proofs.Places.{moment, entry_at}

-- an open gate found what the log says
pub record Found_same (ts : List Touch) (v r v' r' : ℕ → ℕ) : Type 0 where
  pub found : found_by v' r' ts ≡ found_by v r ts
  pub version : (o : ℕ) → mode ts o ≢ Absent → v' o ≡ v o
  pub reads : (o : ℕ) → mode ts o ≡ Writing → r' o ≡ r o

touched_read : (x o : ℕ) (m : Mode) → stronger (cond (x == o) Reading Absent) m ≢ Absent → (x ≡ o) ⊎ (m ≢ Absent)
touched_read x o m d = go (x == o) refl d
  where
    go : (b : Bool) → (x == o) ≡ b → stronger (cond b Reading Absent) m ≢ Absent → (x ≡ o) ⊎ (m ≢ Absent)
    go true e d = inl (grind (arith, nat_tests))
    go false e d = inr d

touched_write : (x o : ℕ) (m : Mode) → stronger (cond (x == o) Writing Absent) m ≢ Absent → (x ≡ o) ⊎ (m ≢ Absent)
touched_write x o m d = go (x == o) refl d
  where
    go : (b : Bool) → (x == o) ≡ b → stronger (cond b Writing Absent) m ≢ Absent → (x ≡ o) ⊎ (m ≢ Absent)
    go true e d = inl (grind (arith, nat_tests))
    go false e d = inr d

writing_read : (b : Bool) (m : Mode) → stronger (cond b Reading Absent) m ≡ Writing → m ≡ Writing
writing_read true Absent e = absurd (cc)
writing_read true Reading e = absurd (cc)
writing_read true Writing e = refl
writing_read false m e = e

writing_write : (x o : ℕ) (m : Mode) → stronger (cond (x == o) Writing Absent) m ≡ Writing → (x ≡ o) ⊎ (m ≡ Writing)
writing_write x o m d = go (x == o) refl d
  where
    go : (b : Bool) → (x == o) ≡ b → stronger (cond b Writing Absent) m ≡ Writing → (x ≡ o) ⊎ (m ≡ Writing)
    go true e d = inl (grind (arith, nat_tests))
    go false e d = inr d

pick : (f g : ℕ → ℕ) (P : ℕ → Type 0) (x o : ℕ) → f x ≡ g x → (P o → f o ≡ g o) → (x ≡ o) ⊎ P o → f o ≡ g o
pick f g P x o e h (inl d) = subst (λ y. f y ≡ g y) d e
pick f g P x o e h (inr p) = h p

pub open_found : {V S : Type 0} (ts : List Touch) (v r : ℕ → ℕ) (w : World V S) → IsOpen (found_by v r ts) w → Found_same ts v r w.version w.reads
open_found [] v r w p = record { found = refl; version = λ o d. absurd (d refl); reads = λ o d. absurd (cc) }
open_found (ReadOf x ∷ ts) v r w p =
    let f = open_found ts v r w p.1 in
    record {
      found = ap (λ n. ReadAt x n ∷ found_by w.version w.reads ts) p.0 ∙ ap (λ l. ReadAt x (v x) ∷ l) f.found;
      version = λ o d. pick w.version v (λ o. mode ts o ≢ Absent) x o p.0 (f.version o) (touched_read x o (mode ts o) d);
      reads = λ o d. f.reads o (writing_read (x == o) (mode ts o) d);
    }
open_found (WriteOf x ∷ ts) v r w p =
    let f = open_found ts v r w p.2 in
    record {
      found = ap (λ n. WriteAt x n (w.reads x) ∷ found_by w.version w.reads ts) p.0 ∙ ap (λ n. WriteAt x (v x) n ∷ found_by w.version w.reads ts) p.1 ∙ ap (λ l. WriteAt x (v x) (r x) ∷ l) f.found;
      version = λ o d. pick w.version v (λ o. mode ts o ≢ Absent) x o p.0 (f.version o) (touched_write x o (mode ts o) d);
      reads = λ o d. pick w.reads r (λ o. mode ts o ≡ Writing) x o p.1 (f.reads o) (writing_write x o (mode ts o) d);
    }

-- what a log below another one knows
pub below_known : {A : Type 0} (a : Option (Flat A)) (b : Option A) (x : A) → IsBelow a (known b) → a ≡ Some (Known x) → b ≡ Some x
below_known None b x l e = absurd (cc)
below_known (Some a) None x (inl q) e = absurd (cc)
below_known (Some a) None x (inr q) e = absurd (cc)
below_known (Some a) (Some y) x (inl q) e = (cc)
below_known (Some a) (Some y) x (inr q) e = absurd (cc)

itself : {A : Type 0} (t : ℕ) (a b : A) → cond (t == t) a b ≡ a
itself t a b = grind (arith, nat_tests)

module _ {V O R S : Type 0} (sys : System V O R S) where
  pub below_end : (a : Option (Flat (End))) (u : World V S) (t : ℕ) (x : End) → t < sys.threads → IsBelow a (end_at sys u t) → a ≡ Some (Known x) → x ≡ record { steps = u.steps t; places = u.places t; outcome = sys.outcome (u.state t) }
  below_end a u t x l b e = go (nat_lt t sys.threads) refl b
    where
      end : End
      end = record { steps = u.steps t; places = u.places t; outcome = sys.outcome (u.state t) }

      here : (a : Option (Flat (End))) → IsBelow a (Some (Known end)) → a ≡ Some (Known x) → x ≡ end
      here None b e = absurd (cc)
      here (Some a) (inl q) e = (cc)
      here (Some a) (inr q) e = absurd (cc)

      go : (c : Bool) → nat_lt t sys.threads ≡ c → IsBelow a (cond c (Some (Known end)) None) → x ≡ end
      go true q b = here a b e
      go false q b = absurd (grind (arith, nat_tests))

  -- two steps from one state whose entries have one kind do one thing
  pub record Alike (x h : Happening V S) : Type 0 where
    pub act : Action O R S
    pub left : Does sys x act
    pub right : Does sys h act

  abbrev SameKind : Happening V S → Happening V S → Type 0
  SameKind x h = (d e : Entry) → x.entry ≡ Some d → h.entry ≡ Some e → d.kind ≡ e.kind

  asleep : (x h : Happening V S) (resume : O) (out : Option O) (k : R → S) → Does sys x (Do Woken resume k) → Does sys h (out_of out k) → SameKind x h → ⊥
  asleep x h resume None k a b s = b
  asleep x h resume (Some op) k a b s = let e = s _ _ a.2 b.2 in absurd (cc)

  woken : (x h : Happening V S) (resume : O) (out : Option O) (k : R → S) → Does sys x (out_of out k) → Does sys h (Do Woken resume k) → SameKind x h → ⊥
  woken x h resume None k a b s = a
  woken x h resume (Some op) k a b s = let e = s _ _ a.2 b.2 in absurd (cc)

  alike : (x h : Happening V S) (n : Next O R S) (i j : Input) → Does sys x (action n i) → Does sys h (action n j) → SameKind x h → Alike x h
  alike x h (Local s) Go Go a b c = record { act = Move s; left = a; right = b }
  alike x h (Local s) Go TimeOut a b c = absurd b
  alike x h (Local s) TimeOut j a b c = absurd a
  alike x h (Ask op k) Go Go a b c = record { act = Do Access op k; left = a; right = b }
  alike x h (Ask op k) Go TimeOut a b c = absurd b
  alike x h (Ask op k) TimeOut j a b c = absurd a
  alike x h (Asleep resume out k) Go Go a b c = record { act = Do Woken resume k; left = a; right = b }
  alike x h (Asleep resume out k) Go TimeOut a b c = absurd (asleep x h resume out k a b c)
  alike x h (Asleep resume out k) TimeOut Go a b c = absurd (woken x h resume out k a b c)
  alike x h (Asleep resume out k) TimeOut TimeOut a b c = record { act = out_of out k; left = a; right = b }
  alike x h (Halted o) i j a b c = absurd a

  -- the run's step that a gated step repeats
  pub record Match (hs : List (Happening V S)) (h : Happening V S) : Type 0 where
    pub step : Happening V S
    pub is_in : IsIn step hs
    pub thread : step.thread ≡ h.thread
    pub steps : step.before.steps h.thread ≡ h.before.steps h.thread
    pub places : step.before.places h.thread ≡ h.before.places h.thread
    pub entry : step.entry ≡ h.entry
    pub state : step.after.state h.thread ≡ h.after.state h.thread
    pub version : (o : ℕ) → meets h o ≢ Absent → h.before.version o ≡ step.before.version o
    pub reads : (o : ℕ) → meets h o ≡ Writing → h.before.reads o ≡ step.before.reads o
    pub written : (o : ℕ) → meets h o ≡ Writing → step.after.value o ≡ h.after.value o

  -- every thread and object stands where the run from w had it
  pub record Way (w : World V S) (hs : List (Happening V S)) (g : World V S) : Type 0 where
    pub stood : (t : ℕ) → IsStood w hs t (g.steps t) (g.state t) (g.places t)
    pub recorded : (o : ℕ) → IsRecorded w hs o (g.version o) (g.value o)

  -- what the two steps do alike, given what the log's entry found
  pub record Same (x h : Happening V S) : Type 0 where
    pub entry : x.entry ≡ h.entry
    pub state : x.after.state h.thread ≡ h.after.state h.thread
    pub version : (o : ℕ) → meets h o ≢ Absent → h.before.version o ≡ x.before.version o
    pub reads : (o : ℕ) → meets h o ≡ Writing → h.before.reads o ≡ x.before.reads o
    pub written : (o : ℕ) → meets h o ≡ Writing → x.after.value o ≡ h.after.value o

  state_after : (x : Happening V S) (t : ℕ) (s : S) (events : ℕ) (ts : List Touch) (new : ℕ → V) → x.thread ≡ t → IsSameWorld x.after (advance x.before x.thread s events ts new) → x.after.state t ≡ s
  state_after x t s events ts new e d = d.state t ∙ ap (λ k. cond (t == k) s (x.before.state t)) e ∙ itself t s (x.before.state t)

  value_written : (x : Happening V S) (o : ℕ) (s : S) (events : ℕ) (ts : List Touch) (new : ℕ → V) → IsSameWorld x.after (advance x.before x.thread s events ts new) → mode ts o ≡ Writing → x.after.value o ≡ new o
  value_written x o s events ts new d m = d.value o ∙ ap (λ k. value_after k (new o) (x.before.value o)) m

  pub meets_op : (h : Happening V S) (kind : Kind) (v r : ℕ → ℕ) (ts : List Touch) (o : ℕ) → h.entry ≡ Some (record { kind = kind; found = found_by v r ts }) → meets h o ≡ mode ts o
  meets_op h kind v r ts o e = ap (λ y. mode (touches_in y) o) e ∙ ap (λ l. mode l o) (touches_found v r ts)

  do_same : IsNear sys → (x h : Happening V S) (kind : Kind) (op : O) (k : R → S) → x.thread ≡ h.thread → Does sys x (Do kind op k) → Does sys h (Do kind op k)
      → Found_same (sys.touches op) x.before.version x.before.reads h.before.version h.before.reads
      → ((o : ℕ) → h.before.version o ≡ x.before.version o → x.before.value o ≡ h.before.value o) → Same x h
  do_same laws x h kind op k t a b f v =
      let ts = sys.touches op in
      let near : (o : ℕ) → mode ts o ≢ Absent → x.before.value o ≡ h.before.value o = λ o d. v o (f.version o d) in
      let reply = laws.near_reply op x.before.value h.before.value near in
      let change = laws.near_change op x.before.value h.before.value near in
      let m = λ (o : ℕ). meets_op h kind h.before.version h.before.reads ts o b.2 in
      record {
        entry = a.2 ∙ ap (λ l. Some (record { kind = kind; found = l })) (sym f.found) ∙ sym b.2;
        state = state_after x h.thread _ 1 ts _ t a.1 ∙ ap k reply ∙ sym (state_after h h.thread _ 1 ts _ refl b.1);
        version = λ o d. f.version o (λ e. d (m o ∙ e));
        reads = λ o d. f.reads o (sym (m o) ∙ d);
        written = λ o d. value_written x o _ 1 ts _ a.1 (sym (m o) ∙ d) ∙ change o (sym (m o) ∙ d) ∙ sym (value_written h o _ 1 ts _ b.1 (sym (m o) ∙ d));
      }

  move_same : (x h : Happening V S) (s : S) → x.thread ≡ h.thread → Does sys x (Move s) → Does sys h (Move s) → Same x h
  move_same x h s t a b =
      record {
        entry = a.1 ∙ sym b.1;
        state = state_after x h.thread s 0 [] x.before.value t a.0 ∙ sym (state_after h h.thread s 0 [] h.before.value refl b.0);
        version = λ o d. absurd (d (ap (λ y. mode (touches_in y) o) b.1));
        reads = λ o d. let e : Absent ≡ Writing = sym (ap (λ y. mode (touches_in y) o) b.1) ∙ d in absurd (cc);
        written = λ o d. let e : Absent ≡ Writing = sym (ap (λ y. mode (touches_in y) o) b.1) ∙ d in absurd (cc);
      }

  act_same : IsNear sys → (x h : Happening V S) (a : Action O R S) → x.thread ≡ h.thread → Does sys x a → Does sys h a
      → ((d e : Entry) → x.entry ≡ Some d → h.entry ≡ Some e → IsOpen d.found h.before)
      → ((o : ℕ) → h.before.version o ≡ x.before.version o → x.before.value o ≡ h.before.value o) → Same x h
  act_same laws x h Nothing t a b p v = absurd a
  act_same laws x h (Move s) t a b p v = move_same x h s t a b
  act_same laws x h (Do kind op k) t a b p v = do_same laws x h kind op k t a b (open_found (sys.touches op) x.before.version x.before.reads h.before (p _ _ a.2 b.2)) v

  module _ (w : World V S) (hs : List (Happening V S)) (u : World V S) (r : IsRun sys w hs u) (opening : IsOpening w) (laws : IsNear sys) where
    -- the run's step of h's thread at h's count does the same, where h's entry meets the run's at its place
    pub match_by : (h : Happening V S) → Way w hs h.before → IsStep sys h → h.before.steps h.thread < u.steps h.thread
        → ((d e : Entry) → slice_get (entries_of h.thread hs) (h.before.places h.thread) ≡ Some d → h.entry ≡ Some e → IsOpen d.found h.before × (d.kind ≡ e.kind))
        → Match hs h
    match_by h g s l meet =
        let t = h.thread in
        let m = moment sys t (h.before.steps t) w hs u r (let z = (opening t).0 in omega arith) l in
        let x = m.step in
        let sx = step_in sys w hs u r x m.is_in in
        let px = before_in sys w hs u r x m.is_in in
        let st = g.stood t in
        let state : x.before.state t ≡ h.before.state t = same sys (λ y. y.steps t) (λ y. y.state t) (steps_counter sys t) w hs u x.before st.point r px st.is_point (m.steps ∙ sym st.steps) ∙ st.state in
        let places : x.before.places t ≡ h.before.places t = same sys (λ y. y.steps t) (λ y. y.places t) (places_counter sys t) w hs u x.before st.point r px st.is_point (m.steps ∙ sym st.steps) ∙ st.places in
        let dx : Does sys x (action (sys.next (h.before.state t)) x.input) = subst (λ q. Does sys x (action (sys.next q) x.input)) (ap (λ y. x.before.state y) m.thread ∙ state) sx.does in
        let at : (d : Entry) → x.entry ≡ Some d → slice_get (entries_of t hs) (h.before.places t) ≡ Some d =
        λ d e. subst (λ y. slice_get (entries_of y hs) (h.before.places t) ≡ Some d) m.thread (entry_at sys w hs u r x m.is_in d e (h.before.places t) (let z = (opening x.thread).1 in let q = ap (λ y. x.before.places y) m.thread in omega arith)) in
        let both = alike x h (sys.next (h.before.state t)) x.input h.input dx s.does (λ d e p q. (meet d e (at d p) q).1) in
        let values : (o : ℕ) → h.before.version o ≡ x.before.version o → x.before.value o ≡ h.before.value o =
        λ o e. let v = g.recorded o in same sys (λ y. y.version o) (λ y. y.value o) (version_counter sys o) w hs u x.before v.point r px v.is_point (sym e ∙ sym v.version) ∙ v.value in
        let q = act_same laws x h both.act m.thread both.left both.right (λ d e p q. (meet d e (at d p) q).0) values in
        record { step = x; is_in = m.is_in; thread = m.thread; steps = m.steps; places = places; entry = q.entry; state = q.state; version = q.version; reads = q.reads; written = q.written }

    module _ (log : Log) (below : IsBelowLog log (log_of sys hs u)) where
      meet : (h : Happening V S) (places : ℕ) (e : Entry) → h.entry ≡ Some e → IsEventLet (log.entry h.thread (h.before.places h.thread)) places h h.entry
          → (d : Entry) → slice_get (entries_of h.thread hs) (h.before.places h.thread) ≡ Some d → IsOpen d.found h.before × (d.kind ≡ e.kind)
      meet h places e q l d p =
          let b = rw q at l in
          let k = below_known (log.entry h.thread (h.before.places h.thread)) (slice_get (entries_of h.thread hs) (h.before.places h.thread)) b.item (below.entries h.thread (h.before.places h.thread)) b.is_known in
          let c : b.item ≡ d = cc in
          (subst (λ y. IsOpen y.found h.before) c b.is_open, sym (b.same_kind ∙ ap (λ y. y.kind) c))

      pub match : (h : Happening V S) → Way w hs h.before → IsStep sys h → IsLet log h → Match hs h
      match h g s l =
          let e = below_end (log.end h.thread) u h.thread l.end s.exists (below.ends h.thread) l.is_known in
          let n = ap (λ y. y.steps) e in
          match_by h g s (let b = l.below in omega arith) (λ d e p q. meet h l.end.places e q l.event d p)
