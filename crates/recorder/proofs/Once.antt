-- A number draws one list of stretches.
use Rattle.std.proofs.Common.{◌≡◌, ℕ, zero, suc, ◌+◌, ◌<◌, ◌≤◌, Bool, true, false, List, [], ◌∷◌, length, replicate, Some, slice_get, refl, sym, ap, ◌∙◌, subst, arith, inl, inr}
use Rattle.std.proofs.lemmas.Bool.{cases_lt}
use Rattle.std.proofs.lemmas.List.{length-append}
use Rattle.std.proofs.lemmas.Option.{same_Some}
use Rattle.rw_objects.specs.Space.{Space}
use Rattle.rw_objects.specs.Code.{Code}
use Rattle.event_core.specs.declared.pick.Pick.{Pick}
use Rattle.event_core.specs.World.{WorldAt, step_of_pick, world_after}
use Rattle.event_core.specs.Run.{entries, entries_of_step, world_run}
use Rattle.pick_schedule.specs.declared.stretches.Stretch.{Stretch}
use Rattle.pick_schedule.specs.Stretches.{picks_of}
use Rattle.rand_pcg.specs.Lcg.{Lcg}
use Rattle.recorder.specs.Picks.{is_taken, picks_taken}
use Rattle.recorder.specs.Words.{generator_of, exponent_of, behind_word, accesses_by, word_of}
use Rattle.recorder.specs.Draw.{candidates, is_event, IsStretch, IsDrawnNext, IsDrawn, DrawnOnce}
use Rattle.recorder.proofs.Counting.{first_taken}
use Rattle.recorder.proofs.DrawnStretches.{own_event}

abbrev stretch_of : Pick → ℕ → Stretch
stretch_of p n = record { pick = p; times = n }

none_at : {A : Type 0} (xs : List A) (i : ℕ) (a : A) → xs ≡ [] → slice_get xs i ≡ Some a → ⊥
none_at [] i a e h = cc
none_at (x ∷ xs) i a e h = cc

module _ {State Op Reply Value Fixed : Type 0} (space : Space Op Reply Value Fixed) (code : Code State Op Reply Fixed) (steps : ℕ) where
  -- how often a pick was made, and how many entries it logged
  abbrev logged : WorldAt State Value Fixed → Pick → ℕ → ℕ
  logged w p n = length (entries space code w (replicate n p) p.thread)

  -- a pick that is made n times is not over behind fewer
  record GoesPast (w : WorldAt State Value Fixed) (p : Pick) (m n : ℕ) : Type 0 where
    taken : is_taken space code steps (world_run space code w (replicate m p)) p ≡ true
    more : is_event (step_of_pick space code (world_run space code w (replicate m p)) p) ≡ true → logged w p m + 1 ≤ logged w p n

  past : (p : Pick) (m n : ℕ) (w : WorldAt State Value Fixed) → m < n → picks_taken space code steps w (replicate n p) ≡ replicate n p → GoesPast w p m n
  past p zero zero w l h = absurd (omega arith)
  past p (suc m) zero w l h = absurd (omega arith)
  past p zero (suc n) w l h = record {
    taken = (first_taken space code steps w p n h).0;
    more = λ e.
        let here = length-append (entries_of_step space w.memory p.thread p.thread (step_of_pick space code w p)) (entries space code (world_after space code w p) (replicate n p) p.thread) in
        let one = own_event space w.memory p.thread (step_of_pick space code w p) e in
        omega (arith, here, one);
  }
  past p (suc m) (suc n) w l h =
      let rest = past p m n (world_after space code w p) (omega (arith, l)) (first_taken space code steps w p n h).1 in
      let a = length-append (entries_of_step space w.memory p.thread p.thread (step_of_pick space code w p)) (entries space code (world_after space code w p) (replicate m p) p.thread) in
      let b = length-append (entries_of_step space w.memory p.thread p.thread (step_of_pick space code w p)) (entries space code (world_after space code w p) (replicate n p) p.thread) in
      record { taken = rest.taken; more = λ e. let k = rest.more e in omega (arith, a, b, k) }

  not_past : (w : WorldAt State Value Fixed) (p : Pick) (events m n : ℕ) → IsStretch space code steps w p events m → IsStretch space code steps w p events n → m < n → ⊥
  not_past w p events m n x y l =
      let k = past p m n w l y.taken in
      elim x.whole [
        | inl over ↦ let z : true ≡ false = sym k.taken ∙ over in cc
        | inr full ↦ let more = k.more full.0 in let is = full.1 in let few = y.few in omega (arith, more, is, few)
      ]

  -- a stretch has one length
  one_length : (w : WorldAt State Value Fixed) (p : Pick) (events m n : ℕ) → IsStretch space code steps w p events m → IsStretch space code steps w p events n → m ≡ n
  one_length w p events m n x y =
      elim (cases_lt m n) [
        | inl less ↦ absurd (not_past w p events m n x y less)
        | inr many ↦
            elim (cases_lt n m) [
              | inl more ↦ absurd (not_past w p events n m y x more)
              | inr few ↦ omega (arith, many, few)
            ]
      ]

  one_next : (timeouts : Bool) (exponent : ℕ) (g : Lcg) (w : WorldAt State Value Fixed) (s t : Stretch) → IsDrawnNext space code steps timeouts exponent g w s → IsDrawnNext space code steps timeouts exponent g w t → s ≡ t
  one_next timeouts exponent g w s t x y =
      let same : s.pick ≡ t.pick = same_Some s.pick t.pick (sym x.pick ∙ y.pick) in
      let events = accesses_by exponent (word_of (behind_word g)) in
      let times = one_length w t.pick events s.times t.times (subst (λ p. IsStretch space code steps w p events s.times) same x.stretch) y.stretch in
      ap (λ p. stretch_of p s.times) same ∙ ap (λ n. stretch_of t.pick n) times

  one_drawn : (timeouts : Bool) (exponent : ℕ) (g : Lcg) (w : WorldAt State Value Fixed) (ss ts : List Stretch) → IsDrawn space code steps timeouts exponent g w ss → IsDrawn space code steps timeouts exponent g w ts → ss ≡ ts
  one_drawn timeouts exponent g w [] [] x y = refl
  one_drawn timeouts exponent g w [] (t ∷ ts) x y = absurd (none_at (candidates space code steps timeouts w) _ t.pick x y.0.pick)
  one_drawn timeouts exponent g w (s ∷ ss) [] x y = absurd (none_at (candidates space code steps timeouts w) _ s.pick y x.0.pick)
  one_drawn timeouts exponent g w (s ∷ ss) (t ∷ ts) x y =
      let same = one_next timeouts exponent g w s t x.0 y.0 in
      let there : IsDrawn space code steps timeouts exponent (behind_word (behind_word g)) (world_run space code w (picks_of t)) ss = subst (λ (z : Stretch). IsDrawn space code steps timeouts exponent (behind_word (behind_word g)) (world_run space code w (picks_of z)) ss) same x.1 in
      let rest = one_drawn timeouts exponent (behind_word (behind_word g)) (world_run space code w (picks_of t)) ss ts there y.1 in
      cc

  pub drawn_once : DrawnOnce space code steps
  drawn_once number timeouts w ss ts x y = one_drawn timeouts (exponent_of number) (behind_word (generator_of number)) w ss ts x y
