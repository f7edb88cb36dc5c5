-- A version that has one writer at most was written by the one that is found, from whichever end it is looked for.
use Rattle.std.proofs.Common.{◌≡◌, ℕ, ◌+◌, ◌<◌, ◌==◌, Bool, true, false, List, [], ◌∷◌, Option, Some, None, slice_get, refl, sym, ap, ◌∙◌, arith, inl, inr}
use Rattle.std.specs.Prelude.{◌⊎◌, ◌&&◌, ◌||◌}
use Rattle.std.specs.List.{list_any}
use Rattle.std.proofs.lemmas.Bool.Decides.{eqb_tells}
use Rattle.rw_objects.specs.declared.entry.Entry.{Entry}
use Rattle.rw_objects.specs.declared.touch.Found.{Found}
use Rattle.rw_objects.specs.declared.touch.Found.TheVariants as found
use Rattle.event_core.specs.Threads.{ThreadAt}
use Rattle.event_core.specs.World.{WorldAt}
use Rattle.log_pieces.specs.declared.flat.Flat.{Flat}
use Rattle.log_pieces.specs.declared.flat.Flat.TheVariants.{Known, Clash}
use Rattle.replay_laws.specs.Log.{Log}
use Rattle.replay_session.specs.Writers.{writes_version, item_writes, HasWritten, OneWriterEach}
use Rattle.replica.specs.declared.diverging.EventAt.{EventAt}
use Rattle.debugger.specs.declared.touched.Role.TheVariants as role
use Rattle.debugger.specs.declared.touched.Sought.{Sought}
use Rattle.debugger.specs.Touched.{is_writer, is_reader, is_sought, is_sought_item, IsFirstEvent, IsSomeEvent, NoEvent}

-- ---- what is sought of a writer is that it wrote the version

any_same : {A : Type 0} (p q : A → Bool) → ((x : A) → p x ≡ q x) → (xs : List A) → list_any p xs ≡ list_any q xs
any_same p q h [] = refl
any_same p q h (x ∷ xs) = ap (λ b. b || list_any p xs) (h x) ∙ ap (λ b. q x || b) (any_same p q h xs)

sought_touch : (s : Sought) → s.role ≡ role.Writer → (f : Found) → is_sought s f ≡ writes_version s.object s.version f
sought_touch s is (found.Read object version) = ap (λ r. is_reader r && (object == s.object && version == s.version)) is
sought_touch s is (found.Write object version reads) = ap (λ r. is_writer r && (object == s.object && version + 1 == s.version)) is

pub sought_writes : (s : Sought) → s.role ≡ role.Writer → (x : Option (Flat Entry)) → is_sought_item s x ≡ item_writes s.object s.version x
sought_writes s is None = refl
sought_writes s is (Some Clash) = refl
sought_writes s is (Some (Known e)) = any_same (is_sought s) (writes_version s.object s.version) (sought_touch s is) e.found

true_or_not : (b : Bool) → (b ≡ true) ⊎ (b ≡ false)
true_or_not true = inl refl
true_or_not false = inr refl

-- no write makes version 0
no_write_first : (b : Bool) (n v : ℕ) → v ≡ 0 → (b && n + 1 == v) ≡ false
no_write_first true n v is = elim (eqb_tells (n + 1) v) [
  | inl e ↦ absurd (omega (arith, e.1, is))
  | inr e ↦ e.0
]
no_write_first false n v is = refl

none_writes_first : (o v : ℕ) → v ≡ 0 → (fs : List Found) → list_any (writes_version o v) fs ≡ false
none_writes_first o v is [] = refl
none_writes_first o v is (found.Read p n ∷ fs) = none_writes_first o v is fs
none_writes_first o v is (found.Write p n r ∷ fs) = ap (λ b. b || list_any (writes_version o v) fs) (no_write_first (p == o) n v is) ∙ none_writes_first o v is fs

no_first_writer : (o v : ℕ) → v ≡ 0 → (x : Option (Flat Entry)) → item_writes o v x ≡ false
no_first_writer o v is None = refl
no_first_writer o v is (Some Clash) = refl
no_first_writer o v is (Some (Known e)) = none_writes_first o v is e.found

module _ {State Value Fixed : Type 0} (log : Log) (s : Sought) (writer : s.role ≡ role.Writer) (w : WorldAt State Value Fixed) where
  pub no_event_first : s.version ≡ 0 → NoEvent log s w.threads
  no_event_first is t at there q l = sought_writes s writer (log.entry t q) ∙ no_first_writer s.object s.version is (log.entry t q)

  -- ---- one writer at most

  module _ (one : OneWriterEach log w) (e : EventAt) (done : IsSomeEvent log s w.threads e) where
    written : (t q : ℕ) (at : ThreadAt State) → slice_get w.threads t ≡ Some at → q < at.places → is_sought_item s (log.entry t q) ≡ true → HasWritten log w s.object s.version t q
    written t q at there l did = record { at = at; exists = there; made = l; writes = sym (sought_writes s writer (log.entry t q)) ∙ did }

    only : (t q : ℕ) (at : ThreadAt State) → slice_get w.threads t ≡ Some at → q < at.places → is_sought_item s (log.entry t q) ≡ true → (t ≡ e.thread) × (q ≡ e.place)
    only t q at there l did = one.one s.object s.version t q e.thread e.place (written t q at there l did) (written e.thread e.place done.at done.thread done.made done.sought)

    pub no_other : (t q : ℕ) (at : ThreadAt State) → slice_get w.threads t ≡ Some at → q < at.places → ((t ≡ e.thread) × (q ≡ e.place) → ⊥) → is_sought_item s (log.entry t q) ≡ false
    no_other t q at there l other = elim (true_or_not (is_sought_item s (log.entry t q))) [
      | inl did ↦ absurd (other (only t q at there l did))
      | inr not ↦ not
    ]

    pub is_first : IsFirstEvent log s w.threads e
    is_first = record {
      at = done.at;
      thread = done.thread;
      first = record {
        made = done.made;
        sought = done.sought;
        first = λ q l. no_other e.thread q done.at done.thread (omega (arith, l, done.made)) (λ same. absurd (omega (arith, same.1, l)));
      };
      none = λ t l at there q m. no_other t q at there m (λ same. absurd (omega (arith, same.0, l)));
    }
