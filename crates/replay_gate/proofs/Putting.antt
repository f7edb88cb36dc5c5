-- Threads that are put where they stand behind rounds of local steps, one after the other.
use Rattle.std.proofs.Common.{◌≡◌, ◌⊎◌, ℕ, zero, suc, ◌<◌, ◌≤◌, List, [], ◌∷◌, ◌++◌, length, drop, Some, slice_get, refl, sym, ap, ◌∙◌, subst, arith, inl, inr}
use Rattle.std.proofs.lemmas.Bool.{cases_lt}
use Rattle.rw_objects.specs.Space.{Space}
use Rattle.rw_objects.specs.Code.{Code, CodeLaws}
use Rattle.rw_objects.specs.LocalRun.{GoesLocally}
use Rattle.event_core.specs.Threads.{ThreadAt, change_at}
use Rattle.event_core.specs.LocalRun.{thread_in, IsLocalRun}
use Rattle.event_core.specs.World.{WorldAt}
use Rattle.event_core.proofs.LocalRuns.{get_same, get_other, there, gone}
use Rattle.event_core.proofs.SoundSteps.{length_change}
use Rattle.replay_laws.specs.Log.{Log}
use Rattle.replay_laws.specs.Turns.{turn_of}
use Rattle.replay_gate.specs.Leads.{Leads}
use Rattle.replay_gate.specs.LocalRounds.{Rests, GoesOnTo, RoundsOf}
use Rattle.replay_gate.proofs.Going.{leads_on, local_leads}
use Rattle.std.proofs.lemmas.Option.{same_Some}

pub drop_more : {A : Type 0} (xs : List A) (n : ℕ) (x : A) (r : List A) → drop n xs ≡ x ∷ r → (slice_get xs n ≡ Some x) × (r ≡ drop (suc n) xs)
drop_more [] zero x r h = absurd (cc)
drop_more [] (suc n) x r h = absurd (cc)
drop_more (y ∷ ys) zero x r h = let same : y ≡ x = cc in let rest : ys ≡ r = cc in (ap (λ z. Some z) same, sym rest)
drop_more (y ∷ ys) (suc n) x r h = drop_more ys n x r h

pub length_more : {A : Type 0} (xs : List A) (x : A) → length (xs ++ x ∷ []) ≡ suc (length xs)
length_more [] x = refl
length_more (y ∷ ys) x = ap suc (length_more ys x)

-- what is read of a list with one more at its end
pub get_pushed : {A : Type 0} (xs : List A) (x y : A) (t : ℕ) → slice_get (xs ++ x ∷ []) t ≡ Some y → (slice_get xs t ≡ Some y) ⊎ ((t ≡ length xs) × (y ≡ x))
get_pushed [] x y zero h = inr (refl, let e : y ≡ x = cc in e)
get_pushed [] x y (suc t) h = absurd (cc)
get_pushed (z ∷ zs) x y zero h = inl h
get_pushed (z ∷ zs) x y (suc t) h = elim (get_pushed zs x y t h) [ inl e ↦ inl e | inr e ↦ inr (ap suc e.0, e.1) ]

module _ {State Op Reply Value Fixed : Type 0} (space : Space Op Reply Value Fixed) (code : Code State Op Reply Fixed) (log : Log) (k : ℕ) (first : WorldAt State Value Fixed) where
  -- the threads below n stand behind the rounds, the others where they stood
  pub record ArePut (n : ℕ) (w : WorldAt State Value Fixed) : Type 0 where
    pub memory : w.memory ≡ first.memory
    pub len : length w.threads ≡ length first.threads
    pub behind : (t : ℕ) (th after : ThreadAt State) → t < n → slice_get first.threads t ≡ Some th → slice_get w.threads t ≡ Some after → RoundsOf space code log k first t th after
    pub before : (t : ℕ) → n ≤ t → slice_get w.threads t ≡ slice_get first.threads t
    pub leads : Leads space code log first w

  -- one thread more, which goes on
  pub put_goes : CodeLaws space code → (n : ℕ) (w v : WorldAt State Value Fixed) (s : State) → n < length first.threads → ArePut n w → ((th : ThreadAt State) → slice_get first.threads n ≡ Some th → GoesOnTo space code log k n th s)
      → v.threads ≡ change_at w.threads n (thread_in s) → v.memory ≡ w.memory → ArePut (suc n) v
  put_goes rules n w v s within p goes threads memory =
      let e = there first.threads n within in
      let g = goes e.0 e.1 in
      let here : slice_get w.threads n ≡ Some e.0 = p.before n (let l : n ≤ n = omega arith in l) ∙ e.1 in
      let run : IsLocalRun space code n k w v =
      subst (λ m. IsLocalRun space code n k w (record { threads = v.threads; memory = m })) (sym memory)
      (gone space code n k w v.threads e.0 here
      (record { state = s; goes = λ t is. subst (λ (u : ThreadAt State). GoesLocally code k u.state s) (same_Some e.0 t (sym here ∙ is)) g.goes; leads = threads })) in
      record {
        memory = memory ∙ p.memory;
        len = ap length threads ∙ length_change (thread_in s) w.threads n ∙ p.len;
        behind = λ t th after l is at.
            let got : slice_get (change_at w.threads n (thread_in s)) t ≡ Some after = ap (λ ts. slice_get ts t) (sym threads) ∙ at in
            elim (cases_lt t n) [
              | inl less ↦ p.behind t th after less is (sym (get_other (thread_in s) w.threads n t (λ q. omega (arith, less, q))) ∙ got)
              | inr more ↦
                  let q : n ≡ t = omega (arith, l, more) in
                  let th_is : slice_get first.threads n ≡ Some th = ap (slice_get first.threads) q ∙ is in
                  let after_is : slice_get (change_at w.threads n (thread_in s)) n ≡ Some after = ap (slice_get (change_at w.threads n (thread_in s))) q ∙ got in
                  let same : after ≡ thread_in s th = same_Some after (thread_in s th) (sym after_is ∙ get_same (thread_in s) w.threads n th (p.before n (let i : n ≤ n = omega arith in i) ∙ th_is)) in
                  subst (λ i. RoundsOf space code log k first i th after) q (inl (s, goes th th_is, same))
            ];
        before = λ t l. ap (λ ts. slice_get ts t) threads ∙ get_other (thread_in s) w.threads n t (λ q. omega (arith, l, q)) ∙ p.before t (omega (arith, l));
        leads = leads_on space code log first w v p.leads (local_leads space code rules log n k w v e.0 g.end here g.is_known g.within run);
      }

  -- one thread more, which rests
  pub put_rests : (n : ℕ) (w : WorldAt State Value Fixed) → ArePut n w → ((th : ThreadAt State) → slice_get first.threads n ≡ Some th → Rests (turn_of space code log first n)) → ArePut (suc n) w
  put_rests n w p rests = record {
    memory = p.memory;
    len = p.len;
    behind = λ t th after l is at.
        elim (cases_lt t n) [
          | inl less ↦ p.behind t th after less is at
          | inr more ↦
              let q : n ≡ t = omega (arith, l, more) in
              let th_is : slice_get first.threads n ≡ Some th = ap (slice_get first.threads) q ∙ is in
              let same : after ≡ th = same_Some after th (sym at ∙ p.before t more ∙ is) in
              subst (λ i. RoundsOf space code log k first i th after) q (inr (rests th th_is, same))
        ];
    before = λ t l. p.before t (omega (arith, l));
    leads = p.leads;
  }
