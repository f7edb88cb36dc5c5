-- What each step leaves.
use Rattle.rw_objects.specs.declared.entry.Entry.{Entry}
use Rattle.std.proofs.Common.{◌≡◌, ◌≢◌, ℕ, ◌+◌, ◌==◌, cond, List, [], ◌∷◌, Option, Some, None, refl, sym, ap, ◌∙◌, arith}
use Rattle.std.proofs.lemmas.Bool.Decides.{nat_tests}
use Rattle.replay_laws.proofs.System.{Touch, ReadOf, WriteOf, Mode, Absent, Reading, Writing, mode, System}
use Rattle.replay_laws.proofs.Worlds.{touches_of, found_by, Action, Nothing, Move, Do, action, version_after, reads_after, value_after, advance, IsSameWorld, Happening, touches_in, meets, Does, IsStep}

pub touches_found : (version reads : ℕ → ℕ) (ts : List Touch) → touches_of (found_by version reads ts) ≡ ts
touches_found version reads [] = refl
touches_found version reads (ReadOf o ∷ ts) = ap (λ l. ReadOf o ∷ l) (touches_found version reads ts)
touches_found version reads (WriteOf o ∷ ts) = ap (λ l. WriteOf o ∷ l) (touches_found version reads ts)

abbrev pub events_in : Option Entry → ℕ
events_in None = 0
events_in (Some e) = 1

pub record Fact {V S : Type 0} (h : Happening V S) : Type 0 where
  pub version : (o : ℕ) → h.after.version o ≡ version_after (meets h o) (h.before.version o)
  pub reads : (o : ℕ) → h.after.reads o ≡ reads_after (meets h o) (h.before.reads o)
  pub kept : (o : ℕ) → meets h o ≢ Writing → h.after.value o ≡ h.before.value o
  pub steps : (x : ℕ) → h.after.steps x ≡ cond (x == h.thread) (h.before.steps x + 1) (h.before.steps x)
  pub places : (x : ℕ) → h.after.places x ≡ cond (x == h.thread) (h.before.places x + events_in h.entry) (h.before.places x)
  pub stays : (x : ℕ) → x ≢ h.thread → h.after.state x ≡ h.before.state x

value_kept : {V : Type 0} (m : Mode) (new old : V) → m ≢ Writing → value_after m new old ≡ old
value_kept Absent new old d = refl
value_kept Reading new old d = refl
value_kept Writing new old d = absurd (d refl)

other : {S : Type 0} (x t : ℕ) (s u : S) → x ≢ t → cond (x == t) s u ≡ u
other x t s u d = grind (arith, nat_tests)

advanced : {V S : Type 0} (h : Happening V S) (s : S) (events : ℕ) (ts : List Touch) (new : ℕ → V) → IsSameWorld h.after (advance h.before h.thread s events ts new) → touches_in h.entry ≡ ts → events_in h.entry ≡ events → Fact h
advanced h s events ts new e m n =
    record {
      version = λ o. e.version o ∙ ap (λ l. version_after (mode l o) (h.before.version o)) (sym m);
      reads = λ o. e.reads o ∙ ap (λ l. reads_after (mode l o) (h.before.reads o)) (sym m);
      kept = λ o d. e.value o ∙ ap (λ l. value_after (mode l o) (new o) (h.before.value o)) (sym m) ∙ value_kept (meets h o) (new o) (h.before.value o) d;
      steps = λ x. e.steps x;
      places = λ x. e.places x ∙ ap (λ k. cond (x == h.thread) (h.before.places x + k) (h.before.places x)) (sym n);
      stays = λ x d. e.state x ∙ other x h.thread s (h.before.state x) d;
    }

module _ {V O R S : Type 0} (sys : System V O R S) where
  does_fact : (h : Happening V S) (a : Action O R S) → Does sys h a → Fact h
  does_fact h Nothing d = absurd d
  does_fact h (Move s) d = advanced h s 0 [] h.before.value d.0 (ap touches_in d.1) (ap events_in d.1)
  does_fact h (Do kind op k) d =
      advanced h (k (sys.reply op h.before.value)) 1 (sys.touches op) (sys.change op h.before.value) d.1
      (ap touches_in d.2 ∙ touches_found h.before.version h.before.reads (sys.touches op))
      (ap events_in d.2)

  pub fact : (h : Happening V S) → IsStep sys h → Fact h
  fact h s = does_fact h (action (sys.next (h.before.state h.thread)) h.input) s.does
