-- No gate shuts for good.
use Rattle.replay_laws.specs.Log.{Log}
use Rattle.log_pieces.specs.declared.flat.Flat.TheVariants.{Known}
use Rattle.rw_objects.specs.declared.entry.Entry.{Entry}
use Rattle.std.proofs.Common.{◌≡◌, ◌≢◌, ℕ, ◌+◌, ◌<◌, ◌≤◌, ◌==◌, Bool, true, false, cond, List, [], ◌∷◌, ◌++◌, Some, None, refl, sym, ap, ◌∙◌, subst, inl, inr, arith}
use Rattle.std.specs.Prelude.{◌⊎◌, ◌&&◌}
use Rattle.std.proofs.lemmas.Bool.{cases_lt}
use Rattle.std.proofs.lemmas.Bool.Decides.{nat_tests}
use Rattle.replay_laws.proofs.System.{Touch, ReadOf, WriteOf, Mode, Absent, Reading, Writing, mode, stronger, System, IsNear}
use Rattle.replay_laws.proofs.Worlds.{World, found_by, Action, Nothing, Move, Do, action, advance, IsSameWorld, version_after, Happening, meets, IsOpening, Does, IsRun}
use Rattle.replay_laws.specs.Log.{known}
use Rattle.replay_laws.proofs.Logs.{IsOpen, IsEventLet, IsFinished, HasStep, end_of, IsPoint, Agrees}
use Rattle.replay_laws.proofs.Facts.{fact, events_in, touches_found}
use Rattle.replay_laws.proofs.Points.{IsIn, last, step_in, before_in, after_in, same, rises, reaches, steps_counter, places_counter, version_counter}
use Rattle.replay_laws.proofs.Places.{entry_at, rise_places}
use Rattle.replay_laws.proofs.Match.{Way, meets_op}
use Rattle.replay_laws.proofs.Counts.{own_step, count, reads_at, base_none, count_same, reads_found}
use Rattle.replay_laws.proofs.Gates.{IsMade, Gates, made, read_made, is_read, made_lt}
use Rattle.replay_laws.proofs.Ends.{version_bound, steps_bound, end_here}

mode_read_here : (o : ℕ) (m : Mode) → stronger (cond (o == o) Reading Absent) m ≢ Absent
mode_read_here o m e = go (o == o) (grind (arith, nat_tests)) m e
  where
    go : (b : Bool) → b ≡ true → (m : Mode) → stronger (cond b Reading Absent) m ≡ Absent → ⊥
    go true p Absent e = cc
    go true p Reading e = cc
    go true p Writing e = cc
    go false p m e = cc

mode_write_here : (o : ℕ) (m : Mode) → stronger (cond (o == o) Writing Absent) m ≡ Writing
mode_write_here o m = go (o == o) (grind (arith, nat_tests))
  where
    go : (b : Bool) → b ≡ true → stronger (cond b Writing Absent) m ≡ Writing
    go true p = refl
    go false p = absurd (cc)

further : (b : Bool) (k m : Mode) → m ≢ Absent → stronger (cond b k Absent) m ≢ Absent
further true Absent m d = d
further true Reading Absent d = absurd (d refl)
further true Reading Reading d = d
further true Reading Writing d = d
further true Writing m d = λ e. absurd (cc)
further false k m d = d

further_write : (b : Bool) (k m : Mode) → m ≡ Writing → stronger (cond b k Absent) m ≡ Writing
further_write true Absent m e = e
further_write true Reading m e = rw e refl
further_write true Writing m e = refl
further_write false k m e = e

-- a gate is open where the touched versions and the written totals are those
pub opens : {V S : Type 0} (ts : List Touch) (v r : ℕ → ℕ) (g : World V S) → ((o : ℕ) → mode ts o ≢ Absent → g.version o ≡ v o) → ((o : ℕ) → mode ts o ≡ Writing → g.reads o ≡ r o) → IsOpen (found_by v r ts) g
opens [] v r g a b = tt
opens (ReadOf o ∷ ts) v r g a b =
    (a o (mode_read_here o (mode ts o)), opens ts v r g (λ x d. a x (further (o == x) Reading (mode ts x) d)) (λ x d. b x (further_write (o == x) Reading (mode ts x) d)))
opens (WriteOf o ∷ ts) v r g a b =
    let e = mode_write_here o (mode ts o) in
    (a o (λ d. let z : Absent ≡ Writing = sym d ∙ e in absurd (cc)), b o e, opens ts v r g (λ x d. a x (further (o == x) Writing (mode ts x) d)) (λ x d. b x (further_write (o == x) Writing (mode ts x) d)))

in_parts : {A : Type 0} (x y : A) (front rest : List A) → IsIn x (front ++ y ∷ rest) → IsIn x front ⊎ ((x ≡ y) ⊎ IsIn x rest)
in_parts x y [] rest i = inr i
in_parts x y (z ∷ front) rest (inl e) = inl (inl e)
in_parts x y (z ∷ front) rest (inr i) = go (in_parts x y front rest i)
  where
    go : IsIn x front ⊎ ((x ≡ y) ⊎ IsIn x rest) → IsIn x (z ∷ front) ⊎ ((x ≡ y) ⊎ IsIn x rest)
    go (inl a) = inl (inr a)
    go (inr b) = inr b

pub itself : {V S : Type 0} (w : World V S) → IsSameWorld w w
itself w = record { state = λ x. refl; steps = λ x. refl; places = λ x. refl; value = λ x. refl; version = λ x. refl; reads = λ x. refl }

module _ {V O R S : Type 0} (sys : System V O R S) where
  -- the first step of a run that was not made
  pub record Undone (w : World V S) (hs : List (Happening V S)) (u g : World V S) : Type 0 where
    pub front : List (Happening V S)
    pub step : Happening V S
    pub rest : List (Happening V S)
    pub is_in : IsIn step hs
    pub front_in : (x : Happening V S) → IsIn x front → IsIn x hs
    pub parts : (x : Happening V S) → IsIn x hs → IsIn x front ⊎ ((x ≡ step) ⊎ IsIn x rest)
    pub to_step : IsRun sys w front step.before
    pub from_step : IsRun sys step.after rest u
    pub front_made : (x : Happening V S) → IsIn x front → IsMade g x
    pub not_made : g.steps step.thread ≤ step.before.steps step.thread

  pub undone : (g w : World V S) (hs : List (Happening V S)) (u : World V S) → IsRun sys w hs u → ((x : Happening V S) → IsIn x hs → IsMade g x) ⊎ Undone w hs u g
  undone g w [] u r = inl (λ x i. absurd i)
  undone g w (h ∷ hs) u r = go (cases_lt (h.before.steps h.thread) (g.steps h.thread)) (undone g h.after hs u r.2)
    where
      here : IsMade g h → ((x : Happening V S) → IsIn x hs → IsMade g x) → (x : Happening V S) → IsIn x (h ∷ hs) → IsMade g x
      here a f x (inl e) = rw e a
      here a f x (inr i) = f x i

      inner : (n : Undone h.after hs u g) → (x : Happening V S) → IsIn x (h ∷ n.front) → IsIn x (h ∷ hs)
      inner n x (inl e) = inl e
      inner n x (inr i) = inr (n.front_in x i)

      parted : (n : Undone h.after hs u g) → (x : Happening V S) → IsIn x (h ∷ hs) → IsIn x (h ∷ n.front) ⊎ ((x ≡ n.step) ⊎ IsIn x n.rest)
      parted n x (inl e) = inl (inl e)
      parted n x (inr i) = at (n.parts x i)
        where
          at : IsIn x n.front ⊎ ((x ≡ n.step) ⊎ IsIn x n.rest) → IsIn x (h ∷ n.front) ⊎ ((x ≡ n.step) ⊎ IsIn x n.rest)
          at (inl a) = inl (inr a)
          at (inr b) = inr b

      made_front : IsMade g h → (n : Undone h.after hs u g) → (x : Happening V S) → IsIn x (h ∷ n.front) → IsMade g x
      made_front a n x (inl e) = rw e a
      made_front a n x (inr i) = n.front_made x i

      none : (x : Happening V S) → IsIn x [] → IsIn x (h ∷ hs)
      none x i = absurd i

      nothing : (x : Happening V S) → IsIn x [] → IsMade g x
      nothing x i = absurd i

      go : IsMade g h ⊎ (g.steps h.thread ≤ h.before.steps h.thread) → ((x : Happening V S) → IsIn x hs → IsMade g x) ⊎ Undone h.after hs u g → ((x : Happening V S) → IsIn x (h ∷ hs) → IsMade g x) ⊎ Undone w (h ∷ hs) u g
      go (inl a) (inl f) = inl (here a f)
      go (inl a) (inr n) =
          inr (record { front = h ∷ n.front; step = n.step; rest = n.rest; is_in = inr n.is_in; front_in = inner n; parts = parted n; to_step = (r.0, r.1, n.to_step); from_step = n.from_step; front_made = made_front a n; not_made = n.not_made })
      go (inr b) _ =
          inr (record { front = []; step = h; rest = hs; is_in = inl refl; front_in = none; parts = λ x i. inr i; to_step = sym r.0; from_step = r.2; front_made = nothing; not_made = b })

  module _ (w : World V S) (hs : List (Happening V S)) (u : World V S) (r : IsRun sys w hs u) (opening : IsOpening w) (laws : IsNear sys) (log : Log) (agrees : Agrees sys hs u log) (g : World V S) (way : Way sys w hs g) (gates : Gates hs g) where
    -- every step was made: the gated run is finished
    finish : ((x : Happening V S) → IsIn x hs → IsMade g x) → IsFinished sys log g
    finish all t l =
        let v = way.stood t in
        let a = steps_bound sys t (g.steps t) w hs u r (λ x i e. let m = all x i in let b = ap (λ y. x.before.steps y) e in let c = ap (λ y. g.steps y) e in omega arith) (let z = (opening t).0 in omega arith) in
        let b = reaches sys (λ y. y.steps t) (λ y. y.state t) (steps_counter sys t) w hs u v.point r v.is_point in
        let c : v.point.steps t ≡ u.steps t = let e = v.steps in omega arith in
        let s : g.state t ≡ u.state t = sym v.state ∙ same sys (λ y. y.steps t) (λ y. y.state t) (steps_counter sys t) w hs u v.point u r v.is_point (last sys w hs u r) c in
        let p : g.places t ≡ u.places t = sym v.places ∙ same sys (λ y. y.steps t) (λ y. y.places t) (places_counter sys t) w hs u v.point u r v.is_point (last sys w hs u r) c in
        let k : g.steps t ≡ u.steps t = sym v.steps ∙ c in
        rw (agrees.ends t l, end_here sys u t l, end_here sys g t l, s, p, k) refl

    module _ (n : Undone w hs u g) where
      open_steps : g.steps n.step.thread ≡ n.step.before.steps n.step.thread
      open_steps =
          let t = n.step.thread in
          let a = steps_bound sys t (g.steps t) w n.front n.step.before n.to_step (λ x i e. let m = n.front_made x i in let b = ap (λ y. x.before.steps y) e in let c = ap (λ y. g.steps y) e in omega arith) (let z = (opening t).0 in omega arith) in
          let b = n.not_made in
          omega arith

      open_version : (o : ℕ) → meets n.step o ≢ Absent → g.version o ≡ n.step.before.version o
      open_version o d =
          let a = version_bound sys o (g.version o) w n.front n.step.before n.to_step (λ x i e. gates.ahead_write x (n.front_in x i) o e (n.front_made x i)) (let z = (opening o).2 in omega arith) in
          go a (cases_lt (n.step.before.version o) (g.version o))
        where
          go : n.step.before.version o ≤ g.version o → (n.step.before.version o < g.version o) ⊎ (g.version o ≤ n.step.before.version o) → g.version o ≡ n.step.before.version o
          go a (inl l) = let m = gates.past n.step n.is_in o d l in let b = n.not_made in absurd (omega arith)
          go a (inr l) = omega arith

      -- every read of the version that the step ends was made
      reads_before : (o : ℕ) → meets n.step o ≡ Writing → (x : Happening V S) → IsIn x hs → meets x o ≡ Reading → x.before.version o ≡ n.step.before.version o → IsMade g x
      reads_before o e x i d v = go (n.parts x i)
        where
          go : IsIn x n.front ⊎ ((x ≡ n.step) ⊎ IsIn x n.rest) → IsMade g x
          go (inl a) = n.front_made x a
          go (inr (inl y)) = let z : Reading ≡ Writing = sym d ∙ ap (λ z. meets z o) y ∙ e in absurd (cc)
          go (inr (inr j)) =
              let a = rises sys (λ y. y.version o) (λ y. y.value o) (version_counter sys o) n.step.after n.rest u x.before n.from_step (before_in sys n.step.after n.rest u n.from_step x j) in
              let b = (fact sys n.step (step_in sys w hs u r n.step n.is_in)).version o ∙ ap (λ k. version_after k (n.step.before.version o)) e in
              absurd (omega arith)

      both : (a b : Bool) → (b ≡ true → a ≡ true) → (a && b) ≡ b
      both a true f = rw (f refl) refl
      both true false f = refl
      both false false f = refl

      open_reads : (o : ℕ) → meets n.step o ≡ Writing → g.reads o ≡ n.step.before.reads o
      open_reads o e =
          let k = n.step.before.version o in
          let q = open_version o (λ c. absurd (let z : Absent ≡ Writing = sym c ∙ e in cc)) in
          let a = reads_found sys o w hs u r n.step n.is_in e (let z = (opening o).2 in omega arith) in
          let b = base_none o k w (opening o).3 in
          let c = count_same (read_made g o k) (reads_at o k) hs (λ x i. both (made g x) (reads_at o k x) (λ p. let f = is_read (meets x o) (x.before.version o) k p in made_lt _ _ (reads_before o e x i f.0 f.1))) in
          let f = gates.total o ∙ ap (λ j. count (read_made g o j) hs) q in
          omega arith

      same_state : g.state n.step.thread ≡ n.step.before.state n.step.thread
      same_state =
          let t = n.step.thread in
          let v = way.stood t in
          sym v.state ∙ same sys (λ y. y.steps t) (λ y. y.state t) (steps_counter sys t) w hs u v.point n.step.before r v.is_point (before_in sys w hs u r n.step n.is_in) (v.steps ∙ open_steps)

      same_places : g.places n.step.thread ≡ n.step.before.places n.step.thread
      same_places =
          let t = n.step.thread in
          let v = way.stood t in
          sym v.places ∙ same sys (λ y. y.steps t) (λ y. y.places t) (places_counter sys t) w hs u v.point n.step.before r v.is_point (before_in sys w hs u r n.step n.is_in) (v.steps ∙ open_steps)

      same_value : (o : ℕ) → meets n.step o ≢ Absent → g.value o ≡ n.step.before.value o
      same_value o d =
          let v = way.recorded o in
          sym v.value ∙ same sys (λ y. y.version o) (λ y. y.value o) (version_counter sys o) w hs u v.point n.step.before r v.is_point (before_in sys w hs u r n.step n.is_in) (v.version ∙ open_version o d)

      -- the steps of its end are not yet made
      steps_left : g.steps n.step.thread < u.steps n.step.thread
      steps_left =
          let t = n.step.thread in
          let a = own_step t t _ _ ((fact sys n.step (step_in sys w hs u r n.step n.is_in)).steps t) refl in
          let b = reaches sys (λ y. y.steps t) (λ y. y.state t) (steps_counter sys t) w hs u n.step.after r (after_in sys w hs u r n.step n.is_in) in
          let c = open_steps in
          omega arith

      own_place : (t x a b : ℕ) → b ≡ cond (t == t) (a + 1) a → b ≡ a + 1
      own_place t x a b e = grind (arith, nat_tests)

      reach_places : (t : ℕ) (w : World V S) (hs : List (Happening V S)) (u p : World V S) → IsRun sys w hs u → IsPoint w hs p → p.places t ≤ u.places t
      reach_places t w [] u p r q = let e = ap (λ y. y.places t) q in let d = ap (λ y. y.places t) r in omega arith
      reach_places t w (h ∷ hs) u p r (inl q) = let e = ap (λ y. y.places t) q in let d = rise_places sys t w (h ∷ hs) u u r (inr (last sys h.after hs u r.2)) in omega arith
      reach_places t w (h ∷ hs) u p r (inr q) = reach_places t h.after hs u p r.2 q

      places_left : (e : Entry) → n.step.entry ≡ Some e → g.places n.step.thread < u.places n.step.thread
      places_left e q =
          let t = n.step.thread in
          let f = (fact sys n.step (step_in sys w hs u r n.step n.is_in)).places t ∙ ap (λ y. cond (t == t) (n.step.before.places t + events_in y) (n.step.before.places t)) q in
          let a = own_place t t _ _ f in
          let b = reach_places t w hs u n.step.after r (after_in sys w hs u r n.step n.is_in) in
          let c = same_places in
          omega arith

      logged : (e : Entry) → n.step.entry ≡ Some e → log.entry n.step.thread (g.places n.step.thread) ≡ Some (Known e)
      logged e q =
          let t = n.step.thread in
          let s = step_in sys w hs u r n.step n.is_in in
          let z = (opening t).1 in
          let a = entry_at sys w hs u r n.step n.is_in e q (n.step.before.places t) (omega arith) in
          ap (log.entry t) same_places ∙ agrees.entries t (n.step.before.places t) s.exists ∙ ap known a

      go_on : (h : Happening V S) → h.before ≡ g → h.thread ≡ n.step.thread → h.input ≡ n.step.input → (a : Action O R S) → Does sys h a → a ≡ action (sys.next (n.step.before.state n.step.thread)) n.step.input
          → IsEventLet (log.entry n.step.thread (g.places n.step.thread)) (u.places n.step.thread) h h.entry → HasStep sys log g
      go_on h b c i a d e l =
          let s = step_in sys w hs u r n.step n.is_in in
          let same : h.before.state h.thread ≡ n.step.before.state n.step.thread = ap (λ y. y.state h.thread) b ∙ ap (λ y. g.state y) c ∙ same_state in
          let steps : h.before.steps h.thread ≡ g.steps n.step.thread = ap (λ y. y.steps h.thread) b ∙ ap (λ y. g.steps y) c in
          let places : h.before.places h.thread ≡ g.places n.step.thread = ap (λ y. y.places h.thread) b ∙ ap (λ y. g.places y) c in
          let left = steps_left in
          let at = open_steps in
          let within = s.within in
          let acts : a ≡ action (sys.next (h.before.state h.thread)) h.input = e ∙ ap (λ y. action (sys.next y) n.step.input) (sym same) ∙ ap (λ y. action (sys.next (h.before.state h.thread)) y) (sym i) in
          record {
            step = h;
            before = b;
            is_step = record { exists = rw c s.exists; within = omega arith; does = subst (Does sys h) acts d };
            is_let =
                record {
                  end = end_of sys u n.step.thread;
                  is_known = ap log.end c ∙ agrees.ends n.step.thread s.exists ∙ end_here sys u n.step.thread s.exists;
                  below = omega arith;
                  event = subst (λ y. IsEventLet y (u.places n.step.thread) h h.entry) (ap (λ k. log.entry n.step.thread k) (sym places) ∙ ap (λ k. log.entry k (h.before.places h.thread)) (sym c)) l;
                };
          }

      proceed : (a : Action O R S) → Does sys n.step a → a ≡ action (sys.next (n.step.before.state n.step.thread)) n.step.input → HasStep sys log g
      proceed Nothing d e = absurd d
      proceed (Move s) d e =
          go_on (record { before = g; thread = n.step.thread; input = n.step.input; after = advance g n.step.thread s 0 [] g.value; entry = None }) refl refl refl (Move s) (itself (advance g n.step.thread s 0 [] g.value), refl) e tt
      proceed (Do kind op k) d e =
          let ts = sys.touches op in
          let t = n.step.thread in
          let x = n.step in
          let m = λ (o : ℕ). meets_op sys x kind x.before.version x.before.reads ts o d.2 in
          let near : (o : ℕ) → mode ts o ≢ Absent → g.value o ≡ x.before.value o = λ o c. same_value o (λ p. c (sym (m o) ∙ p)) in
          let ready = laws.near_ready op g.value x.before.value near in
          let entry : Entry = record { kind = kind; found = found_by g.version g.reads ts } in
          let step : Happening V S = record { before = g; thread = t; input = x.input; after = advance g t (k (sys.reply op g.value)) 1 ts (sys.change op g.value); entry = Some entry } in
          go_on step refl refl refl (Do kind op k) (ready ∙ d.0, itself step.after, refl) e
          (record {
            place = places_left _ d.2;
            item = record { kind = kind; found = found_by x.before.version x.before.reads ts };
            is_known = logged _ d.2;
            is_open = opens ts x.before.version x.before.reads g (λ o c. open_version o (λ p. c (sym (m o) ∙ p))) (λ o c. open_reads o (m o ∙ c));
            same_kind = refl;
            same_touches = touches_found g.version g.reads ts ∙ sym (touches_found x.before.version x.before.reads ts);
          })

      pub has_step : HasStep sys log g
      has_step = proceed (action (sys.next (n.step.before.state n.step.thread)) n.step.input) (step_in sys w hs u r n.step n.is_in).does refl

    pub goes_on : IsFinished sys log g ⊎ HasStep sys log g
    goes_on = go (undone g w hs u r)
      where
        go : ((x : Happening V S) → IsIn x hs → IsMade g x) ⊎ Undone w hs u g → IsFinished sys log g ⊎ HasStep sys log g
        go (inl a) = inl (finish a)
        go (inr n) = inr (has_step n)
