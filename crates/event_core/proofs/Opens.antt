-- The opening world, and what it keeps.
use Rattle.std.proofs.Common.{◌≡◌, ℕ, zero, suc, ◌≤◌, List, [], ◌∷◌, length, map, Some, slice_get, sym, ap, refl, subst, arith}
use Rattle.std.proofs.lemmas.List.{length-map}
use Rattle.rw_objects.specs.Code.{Code}
use Rattle.event_core.specs.Threads.{ThreadAt, opening_thread}
use Rattle.event_core.specs.Sound.{IsSound}
use Rattle.event_core.specs.World.{WorldAt}
use Rattle.event_core.specs.Opening.{AllFresh, IsFresh, IsOpeningWorld, opening_world}

module _ {M State : Type 0} (state : M → State) where
  got : (ms : List M) (t : ℕ) (th : ThreadAt State) → slice_get (map opening_thread (map state ms)) t ≡ Some th → (m : M) × (slice_get ms t ≡ Some m) × (th ≡ opening_thread (state m))
  got [] t th e = absurd (cc)
  got (m ∷ ms) zero th e = (m, refl, cc)
  got (m ∷ ms) (suc t) th e = got ms t th e

module _ {State Op Reply Value Fixed : Type 0} (code : Code State Op Reply Fixed) where
  -- an opening world is sound
  pub opening_is_sound : (w : WorldAt State Value Fixed) → IsOpeningWorld code w → IsSound code w.threads w.memory
  opening_is_sound w o = record {
    few = o.few;
    each = λ t th e.
        let f : IsFresh code w.memory.fixed th.state = o.fresh t th e in
        record { fixed = f.made_for; is_suited = f.is_suited; steps = omega (arith, f.no_steps); places = omega (arith, o.no_places t th e) };
    versions = λ x. omega (arith, ap (λ c. c.version) (o.no_counts x));
    reads = λ x. omega (arith, ap (λ c. c.reads) (o.no_counts x));
  }

  module _ {M : Type 0} (state : M → State) where
    -- the world of machines that made no step is an opening world
    pub opening_is_opening : (fixed : Fixed) (values : ℕ → Value) (ms : List M) → length ms ≤ 16 → AllFresh code state fixed ms → IsOpeningWorld code (opening_world state fixed values ms)
    opening_is_opening fixed values ms few fresh = record {
      few = rw (length-map, length-map) few;
      fresh = λ t th e.
          let h = got state ms t th e in
          subst (λ (u : ThreadAt State). IsFresh code fixed u.state) (sym h.2) (fresh t h.0 h.1);
      no_places = λ t th e. ap (λ u. u.places) (got state ms t th e).2;
      no_counts = λ x. refl;
    }
