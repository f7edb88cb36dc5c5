-- A finished gated run vouches for the log.
use Rattle.replay_laws.specs.Log.{Log}
use Rattle.log_pieces.specs.declared.flat.Flat.{Flat}
use Rattle.log_pieces.specs.declared.flat.Flat.TheVariants.{Known}
use Rattle.rw_objects.specs.declared.entry.Entry.{Entry}
use Rattle.rw_objects.specs.declared.touch.Found.{Found}
use Rattle.rw_objects.specs.declared.touch.Found.TheVariants.{Read as ReadAt, Write as WriteAt}
use Rattle.std.proofs.Common.{◌≡◌, ℕ, zero, suc, ◌+◌, ◌<◌, ◌≤◌, ◌==◌, Bool, true, false, cond, List, [], ◌∷◌, length, Option, Some, None, refl, sym, ap, ◌∙◌, subst, inl, inr, arith}
use Rattle.std.specs.Prelude.{◌⊎◌, slice_get, nat_lt}
use Rattle.std.proofs.lemmas.Bool.{cases_lt}
use Rattle.std.proofs.lemmas.Bool.Decides.{nat_tests}
use Rattle.replay_laws.proofs.System.{System}
use Rattle.replay_laws.proofs.Worlds.{World, touches_of, found_by, Action, Nothing, Move, Do, action, Happening, IsOpening, Does, IsStep, IsRun}
use Rattle.replay_laws.specs.Log.{IsBelow, IsBelowLog, known, IsCompleteLog}
use Rattle.replay_laws.proofs.Logs.{own, entries_of, IsOpen, IsLet, IsGated, IsFinished, Agrees, end_of, end_at, log_of}
use Rattle.replay_laws.proofs.Facts.{fact, events_in, touches_found}
use Rattle.replay_laws.proofs.Places.{length_entries}
use Rattle.replay_laws.proofs.Match.{below_known, below_end}
use Rattle.replay_laws.proofs.Ends.{end_here}

-- what an open gate's entry found
open_item : {V S : Type 0} (fs : List Found) (w : World V S) → IsOpen fs w → found_by w.version w.reads (touches_of fs) ≡ fs
open_item [] w p = refl
open_item (ReadAt o v ∷ fs) w p = ap (λ n. ReadAt o n ∷ found_by w.version w.reads (touches_of fs)) p.0 ∙ ap (λ l. ReadAt o v ∷ l) (open_item fs w p.1)
open_item (WriteAt o v r ∷ fs) w p = ap (λ n. WriteAt o n (w.reads o) ∷ found_by w.version w.reads (touches_of fs)) p.0 ∙ ap (λ n. WriteAt o v n ∷ found_by w.version w.reads (touches_of fs)) p.1 ∙ ap (λ l. WriteAt o v r ∷ l) (open_item fs w p.2)

some_is : {A : Type 0} (a : A) (b : A) → Some a ≡ Some b → a ≡ b
some_is a b e = cc

some_none : {A B : Type 0} (o : Option A) (a : A) → o ≡ None → o ≡ Some a → B
some_none o a e f = absurd (cc)

nth_own : {B : Type 0} (x t n m i : ℕ) (e : Option Entry) (es : List Entry) (item : Entry) → m ≡ cond (t == x) (n + events_in e) n → slice_get (own (x == t) e es) i ≡ Some item
    → (x ≡ t → i ≡ 0 → e ≡ Some item → B) → ((j : ℕ) → m + j ≡ n + i → slice_get es j ≡ Some item → B) → B
nth_own {B} x t n m i e es item c s here there = go (x == t) refl e refl i refl s
  where
    flip : (b : Bool) → (x == t) ≡ b → (t == x) ≡ b
    flip b d = grind (arith, nat_tests)

    itself : (x == t) ≡ true → x ≡ t
    itself d = grind (arith, nat_tests)

    go : (b : Bool) → (x == t) ≡ b → (d : Option Entry) → e ≡ d → (k : ℕ) → i ≡ k → slice_get (own b d es) k ≡ Some item → B
    go false p d q k z s = there k (let y = c ∙ ap (λ b. cond b (n + events_in e) n) (flip false p) in omega arith) s
    go true p None q k z s = there k (let y = c ∙ ap (λ b. cond b (n + events_in e) n) (flip true p) ∙ ap (λ d. n + events_in d) q in omega arith) s
    go true p (Some d) q zero z s = here (itself p) z (q ∙ s)
    go true p (Some d) q (suc k) z s = there k (let y = c ∙ ap (λ b. cond b (n + events_in e) n) (flip true p) ∙ ap (λ d. n + events_in d) q in omega arith) s

differ : (x t n : ℕ) → x < n → n ≤ t → (x == t) ≡ false
differ x t n l m = grind (arith, nat_tests)

get_within : {A : Type 0} (xs : List A) (i : ℕ) → i < length xs → (x : A) × (slice_get xs i ≡ Some x)
get_within [] i l = absurd (omega arith)
get_within (x ∷ xs) zero l = (x, refl)
get_within (x ∷ xs) (suc i) l = get_within xs i (omega arith)

get_past : {A : Type 0} (xs : List A) (i : ℕ) → length xs ≤ i → slice_get xs i ≡ None
get_past [] i l = refl
get_past (x ∷ xs) zero l = absurd (omega arith)
get_past (x ∷ xs) (suc i) l = get_past xs i (omega arith)

module _ {V O R S : Type 0} (sys : System V O R S) where
  pub does_found : (h : Happening V S) (a : Action O R S) → Does sys h a → (e : Entry) → h.entry ≡ Some e → e.found ≡ found_by h.before.version h.before.reads (touches_of e.found)
  does_found h Nothing d e q = absurd d
  does_found h (Move s) d e q = some_none h.entry e d.1 q
  does_found h (Do kind op k) d e q =
      let p = some_is _ e (sym d.2 ∙ q) in
      let a = touches_found h.before.version h.before.reads (sys.touches op) in
      subst (λ y. y.found ≡ found_by h.before.version h.before.reads (touches_of y.found)) p (ap (found_by h.before.version h.before.reads) (sym a))

  -- an entry that is let pass is the log's
  pub let_is : (log : Log) (h : Happening V S) → IsStep sys h → IsLet log h → (e : Entry) → h.entry ≡ Some e → log.entry h.thread (h.before.places h.thread) ≡ Some (Known e)
  let_is log h s l e q =
      let b = rw q at l.event in
      let f = does_found h (action (sys.next (h.before.state h.thread)) h.input) s.does e q in
      let c : e.found ≡ b.item.found = f ∙ ap (found_by h.before.version h.before.reads) b.same_touches ∙ open_item b.item.found h.before b.is_open in
      let d : e ≡ b.item = ap (λ k. record { kind = k; found = e.found }) b.same_kind ∙ ap (λ k. record { kind = b.item.kind; found = k }) c in
      b.is_known ∙ ap (λ y. Some (Known y)) (sym d)

  pub gated_run : (log : Log) (v : World V S) (gs : List (Happening V S)) (g : World V S) → IsGated sys log v gs g → IsRun sys v gs g
  gated_run log v [] g q = q
  gated_run log v (h ∷ gs) g q = (q.0, q.1, gated_run log h.after gs g q.3)

  -- each entry of a gated run is the log's at its place
  pub logged : (log : Log) (t : ℕ) (v : World V S) (gs : List (Happening V S)) (g : World V S) → IsGated sys log v gs g → (i : ℕ) (e : Entry) → slice_get (entries_of t gs) i ≡ Some e → log.entry t (v.places t + i) ≡ Some (Known e)
  logged log t v [] g q i e s = absurd (cc)
  logged log t v (h ∷ gs) g q i e s =
      nth_own h.thread t (h.before.places t) (h.after.places t) i h.entry (entries_of t gs) e ((fact sys h q.1).places t) s
      (λ d z p.
      let a : v.places t + i ≡ h.before.places t = let b = ap (λ y. y.places t) q.0 in omega arith in
      ap (log.entry t) a ∙ subst (λ k. log.entry k (h.before.places k) ≡ Some (Known e)) d (let_is log h q.1 q.2 e p))
      (λ j d p.
      let a : v.places t + i ≡ h.after.places t + j = let b = ap (λ y. y.places t) q.0 in omega arith in
      ap (log.entry t) a ∙ logged log t h.after gs g q.3 j e p)

  no_entries : (t : ℕ) → sys.threads ≤ t → (v : World V S) (gs : List (Happening V S)) (g : World V S) → IsRun sys v gs g → entries_of t gs ≡ []
  no_entries t l v [] g q = refl
  no_entries t l v (h ∷ gs) g q = rw (differ h.thread t sys.threads q.1.exists l, no_entries t l h.after gs g q.2) refl

  choose_other : {A : Type 0} (t n : ℕ) (a b : A) → n ≤ t → cond (nat_lt t n) a b ≡ b
  choose_other t n a b l = grind (arith, nat_tests)

  module _ (log : Log) (w : World V S) (opening : IsOpening w) (gs : List (Happening V S)) (g : World V S) (gated : IsGated sys log w gs g) (finished : IsFinished sys log g) where
    entry_below : (t p : ℕ) (o : Option Entry) → slice_get (entries_of t gs) p ≡ o → IsBelow (known o) (log.entry t p)
    entry_below t p None e = tt
    entry_below t p (Some d) e =
        let z : w.places t + p ≡ p = let z = (opening t).1 in omega arith in
        inl (ap (log.entry t) (sym z) ∙ logged log t w gs g gated p d e)

    end_below : (t : ℕ) → (t < sys.threads) ⊎ (sys.threads ≤ t) → IsBelow (end_at sys g t) (log.end t)
    end_below t (inl l) = rw (finished t l, end_here sys g t l) (inl refl)
    end_below t (inr l) = rw (choose_other t sys.threads (Some (Known (end_of sys g t))) None l) tt

    pub vouches : IsBelowLog (log_of sys gs g) log
    vouches = record { entries = λ t p. entry_below t p (slice_get (entries_of t gs) p) refl; ends = λ t. end_below t (cases_lt t sys.threads) }

    module _ (complete : IsCompleteLog sys.threads log) where
      same_ends : (t : ℕ) → (t < sys.threads) ⊎ (sys.threads ≤ t) → end_at sys g t ≡ log.end t
      same_ends t (inl l) = sym (finished t l)
      same_ends t (inr l) = choose_other t sys.threads (Some (Known (end_of sys g t))) None l ∙ sym (complete.no_other_end t l)

      at_place : (t p : ℕ) → t < sys.threads → (p < g.places t) ⊎ (g.places t ≤ p) → known (slice_get (entries_of t gs) p) ≡ log.entry t p
      at_place t p l (inl b) =
          let n = length_entries sys t w gs g (gated_run log w gs g gated) in
          let z = (opening t).1 in
          let d = get_within (entries_of t gs) p (omega arith) in
          let a : w.places t + p ≡ p = omega arith in
          ap known d.1 ∙ sym (logged log t w gs g gated p d.0 d.1) ∙ ap (log.entry t) a
      at_place t p l (inr b) =
          let n = length_entries sys t w gs g (gated_run log w gs g gated) in
          let z = (opening t).1 in
          let c = complete.threads t l in
          let e : c.end ≡ end_of sys g t = let q = sym c.is_known ∙ finished t l ∙ end_here sys g t l in cc in
          let f = ap (λ y. y.places) e in
          ap known (get_past (entries_of t gs) p (omega arith)) ∙ sym (c.no_more p (omega arith))

      same_entries : (t p : ℕ) → (t < sys.threads) ⊎ (sys.threads ≤ t) → known (slice_get (entries_of t gs) p) ≡ log.entry t p
      same_entries t p (inl l) = at_place t p l (cases_lt p (g.places t))
      same_entries t p (inr l) = ap (λ es. known (slice_get es p)) (no_entries t l w gs g (gated_run log w gs g gated)) ∙ sym (complete.no_other_entry t p l)

      pub vouches_all : ((t p : ℕ) → (log_of sys gs g).entry t p ≡ log.entry t p) × ((t : ℕ) → (log_of sys gs g).end t ≡ log.end t)
      vouches_all = (λ t p. same_entries t p (cases_lt t sys.threads), λ t. same_ends t (cases_lt t sys.threads))

  -- a complete log below that of a run is that run's
  module _ (w : World V S) (hs : List (Happening V S)) (u : World V S) (r : IsRun sys w hs u) (opening : IsOpening w) where
    pub complete_agrees : (log : Log) → IsBelowLog log (log_of sys hs u) → IsCompleteLog sys.threads log → Agrees sys hs u log
    complete_agrees log b c = record { ends = λ t l. ends t l; entries = λ t p l. entries t p l (cases_lt p (u.places t)) }
      where
        end_is : (t : ℕ) (l : t < sys.threads) → (c.threads t l).end ≡ end_of sys u t
        end_is t l = below_end sys (log.end t) u t (c.threads t l).end l (b.ends t) (c.threads t l).is_known

        ends : (t : ℕ) → t < sys.threads → log.end t ≡ end_at sys u t
        ends t l = (c.threads t l).is_known ∙ ap (λ y. Some (Known y)) (end_is t l) ∙ sym (end_here sys u t l)

        entries : (t p : ℕ) → t < sys.threads → (p < u.places t) ⊎ (u.places t ≤ p) → log.entry t p ≡ known (slice_get (entries_of t hs) p)
        entries t p l (inl m) =
            let e = ap (λ y. y.places) (end_is t l) in
            let d = (c.threads t l).entries p (omega arith) in
            d.1 ∙ ap known (sym (below_known (log.entry t p) (slice_get (entries_of t hs) p) d.0 (b.entries t p) d.1))
        entries t p l (inr m) =
            let e = ap (λ y. y.places) (end_is t l) in
            let n = length_entries sys t w hs u r in
            (c.threads t l).no_more p (omega arith) ∙ ap known (sym (get_past (entries_of t hs) p (let z = (opening t).1 in omega arith)))

    -- the log of a run is complete, and below itself
    below_self : {A : Type 0} (o : Option (Flat A)) → IsBelow o o
    below_self None = tt
    below_self (Some a) = inl refl

    pub log_below : IsBelowLog (log_of sys hs u) (log_of sys hs u)
    log_below = record { entries = λ t p. below_self (known (slice_get (entries_of t hs) p)); ends = λ t. below_self (end_at sys u t) }

    pub log_complete : IsCompleteLog sys.threads (log_of sys hs u)
    log_complete =
        record {
          threads = λ t l. record {
            end = end_of sys u t;
            is_known = end_here sys u t l;
            entries = λ p m. let d = get_within (entries_of t hs) p (let n = length_entries sys t w hs u r in let z = (opening t).1 in omega arith) in (d.0, ap known d.1);
            no_more = λ p m. ap known (get_past (entries_of t hs) p (let n = length_entries sys t w hs u r in let z = (opening t).1 in omega arith));
          };
          no_other_end = λ t l. choose_other t sys.threads (Some (Known (end_of sys u t))) None l;
          no_other_entry = λ t p l. ap (λ es. known (slice_get es p)) (no_entries t l w hs u r);
        }
