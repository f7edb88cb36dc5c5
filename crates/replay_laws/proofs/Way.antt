-- No wrong value on the way.
use Rattle.replay_laws.specs.Log.{Log}
use Rattle.std.proofs.Common.{◌≡◌, ◌≢◌, ℕ, ◌+◌, ◌==◌, cond, List, [], ◌∷◌, refl, sym, ap, ◌∙◌, subst, inl, inr, arith}
use Rattle.std.specs.Prelude.{◌⊎◌}
use Rattle.std.proofs.lemmas.Bool.Decides.{nat_tests}
use Rattle.replay_laws.proofs.System.{Mode, Absent, Reading, Writing, mode, System, IsNear}
use Rattle.replay_laws.proofs.Worlds.{World, version_after, Happening, touches_in, meets, IsOpening, IsStep, IsRun}
use Rattle.replay_laws.specs.Log.{IsBelowLog}
use Rattle.replay_laws.proofs.Logs.{IsLet, IsGated, log_of, IsRecorded, IsStood}
use Rattle.replay_laws.proofs.Facts.{Fact, fact, events_in}
use Rattle.replay_laws.proofs.Points.{first, step_in, after_in}
use Rattle.replay_laws.proofs.Match.{Way, Match, match}

numbers_same : (t x k n m n' m' c : ℕ) → t ≡ x → k ≡ x → m ≡ cond (t == x) (n + c) n → m' ≡ cond (t == k) (n' + c) n' → n' ≡ n → m' ≡ m
numbers_same t x k n m n' m' c d e a b p = grind (arith, nat_tests)

numbers_other : (t x n m c : ℕ) → t ≢ x → m ≡ cond (t == x) (n + c) n → n ≡ m
numbers_other t x n m c d a = grind (arith, nat_tests)

pub same_thread : (t x : ℕ) → (t ≡ x) ⊎ (t ≢ x)
same_thread t x = grind (arith, nat_tests)

module _ {V O R S : Type 0} (sys : System V O R S) (w : World V S) (hs : List (Happening V S)) (u : World V S) (r : IsRun sys w hs u) where
  pub stand : (g : World V S) → Way sys w hs g → (h : Happening V S) → h.before ≡ g → IsStep sys h → Match sys hs h → (t : ℕ) → IsStood w hs t (h.after.steps t) (h.after.state t) (h.after.places t)
  stand g way h b s m t = go (same_thread t h.thread)
    where
      x : Happening V S
      x = m.step

      f : Fact h
      f = fact sys h s

      fx : Fact x
      fx = fact sys x (step_in sys w hs u r x m.is_in)

      go : (t ≡ h.thread) ⊎ (t ≢ h.thread) → IsStood w hs t (h.after.steps t) (h.after.state t) (h.after.places t)
      go (inl e) =
          record {
            point = m.step.after;
            is_point = after_in sys w hs u r m.step m.is_in;
            steps = numbers_same t h.thread m.step.thread _ _ _ _ 1 e m.thread (f.steps t) (fx.steps t) (ap (λ y. m.step.before.steps y) e ∙ m.steps ∙ ap (λ y. h.before.steps y) (sym e));
            state = ap (λ y. m.step.after.state y) e ∙ m.state ∙ ap (λ y. h.after.state y) (sym e);
            places = numbers_same t h.thread m.step.thread _ _ _ _ (events_in h.entry) e m.thread (f.places t) (ap (λ y. m.step.after.places t) e ∙ fx.places t ∙ ap (λ y. cond (t == m.step.thread) (m.step.before.places t + events_in y) (m.step.before.places t)) m.entry) (ap (λ y. m.step.before.places y) e ∙ m.places ∙ ap (λ y. h.before.places y) (sym e));
          }
      go (inr d) =
          let st = way.stood t in
          record {
            point = st.point;
            is_point = st.is_point;
            steps = st.steps ∙ ap (λ y. y.steps t) (sym b) ∙ numbers_other t h.thread _ _ 1 d (f.steps t);
            state = st.state ∙ ap (λ y. y.state t) (sym b) ∙ sym (f.stays t d);
            places = st.places ∙ ap (λ y. y.places t) (sym b) ∙ numbers_other t h.thread _ _ (events_in h.entry) d (f.places t);
          }

  pub record_at : (g : World V S) → Way sys w hs g → (h : Happening V S) → h.before ≡ g → IsStep sys h → Match sys hs h → (o : ℕ) → IsRecorded w hs o (h.after.version o) (h.after.value o)
  record_at g way h b s m o = go (meets h o) refl
    where
      kept : meets h o ≢ Writing → h.before.version o ≡ h.after.version o → IsRecorded w hs o (h.after.version o) (h.after.value o)
      kept d e =
          let v = way.recorded o in
          record {
            point = v.point;
            is_point = v.is_point;
            version = v.version ∙ ap (λ y. y.version o) (sym b) ∙ e;
            value = v.value ∙ ap (λ y. y.value o) (sym b) ∙ sym ((fact sys h s).kept o d);
          }

      go : (k : Mode) → meets h o ≡ k → IsRecorded w hs o (h.after.version o) (h.after.value o)
      go Absent e = kept (λ d. absurd (cc)) (sym ((fact sys h s).version o ∙ ap (λ k. version_after k (h.before.version o)) e))
      go Reading e = kept (λ d. absurd (cc)) (sym ((fact sys h s).version o ∙ ap (λ k. version_after k (h.before.version o)) e))
      go Writing e =
          let fx = fact sys m.step (step_in sys w hs u r m.step m.is_in) in
          let same : meets m.step o ≡ Writing = ap (λ y. mode (touches_in y) o) m.entry ∙ e in
          let a = fx.version o ∙ ap (λ k. version_after k (m.step.before.version o)) same in
          let c = (fact sys h s).version o ∙ ap (λ k. version_after k (h.before.version o)) e in
          let q = m.version o (λ d. absurd (let z : Absent ≡ Writing = sym d ∙ e in cc)) in
          record {
            point = m.step.after;
            is_point = after_in sys w hs u r m.step m.is_in;
            version = omega arith;
            value = m.written o e;
          }

  pub way_start : Way sys w hs w
  way_start =
      record {
        stood = λ t. record { point = w; is_point = first w hs; steps = refl; state = refl; places = refl };
        recorded = λ o. record { point = w; is_point = first w hs; version = refl; value = refl };
      }

  module _ (opening : IsOpening w) (laws : IsNear sys) (log : Log) (below : IsBelowLog log (log_of sys hs u)) where
    pub match_at : (g : World V S) → Way sys w hs g → (h : Happening V S) → h.before ≡ g → IsStep sys h → IsLet log h → Match sys hs h
    match_at g way h b s l = match sys w hs u r opening laws log below h (rw b way) s l

    pub way_next : (g : World V S) → Way sys w hs g → (h : Happening V S) → h.before ≡ g → IsStep sys h → IsLet log h → Way sys w hs h.after
    way_next g way h b s l =
        let m = match_at g way h b s l in
        record { stood = stand g way h b s m; recorded = record_at g way h b s m }

    -- every point of every gated run
    pub way : (v : World V S) (gs : List (Happening V S)) (g : World V S) → Way sys w hs v → IsGated sys log v gs g → Way sys w hs g
    way v [] g a q = subst (Way sys w hs) q a
    way v (h ∷ gs) g a q = way h.after gs g (way_next v a h q.0 q.1 q.2) q.3
