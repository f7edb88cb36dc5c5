-- The derived `==` of plain types decides equality.
use Rattle.std.proofs.Common.{◌≡◌, ℕ, Bool, true, false, List, refl, ap}
use Rattle.std.specs.Prelude.{◌==◌, ◌&&◌, Some, None}
use Rattle.std.specs.Bool.{Decides}
use Rattle.std.proofs.lemmas.Bool.Decides.{Decides-and, Decides-eqb, Decides-like, Decides-at}
use Rattle.std.specs.Str.{bytes_eq}
use Rattle.std.proofs.lemmas.Slice.Eq.{bytes_eq-Decides}
use Rattle.wasm_types.specs.declared.key.Profile.{Profile}
use Rattle.wasm_types.specs.contracts.outcome.OutcomePartialEq.TheImpl as outcomes
use Rattle.wasm_types.specs.contracts.value.ValuePartialEq.TheImpl as values
use Rattle.wasm_types.specs.contracts.trap.TrapPartialEq.TheImpl as traps
use Rattle.wasm_types.specs.declared.key.Profile.TheVariants.{One, Two}
use Rattle.wasm_types.specs.declared.key.RunKey.{RunKey}
use Rattle.wasm_types.specs.declared.value.Value.{Value}
use Rattle.wasm_types.specs.declared.value.Value.TheVariants.{I32, I64}
use Rattle.wasm_types.specs.declared.trap.Trap.{Trap}
use Rattle.wasm_types.specs.declared.outcome.Outcome.{Outcome}
use Rattle.wasm_types.specs.declared.outcome.Outcome.TheVariants.{Running, Waiting, Done, Trapped}

pub profile_decides : (e : Profile → Profile → Bool)
    → e One One ≡ true → ((b : ℕ) → e One (Two b) ≡ false) → ((b : ℕ) → e (Two b) One ≡ false) → ((a b : ℕ) → e (Two a) (Two b) ≡ (a == b))
    → (x y : Profile) → Decides (e x y) (x ≡ y)
profile_decides e oo ot to tt' One One = (λ h. refl, λ h. oo)
profile_decides e oo ot to tt' One (Two b) = (λ h. absurd (let k = ot b in cc), λ h. absurd cc)
profile_decides e oo ot to tt' (Two a) One = (λ h. absurd (let k = to a in cc), λ h. absurd cc)
profile_decides e oo ot to tt' (Two a) (Two b) = Decides-at _ _ (tt' a b) (Decides-like _ (λ h. ap (λ (n : ℕ). Two n) h) (λ h. cc) (Decides-eqb a b))

key_is : (d e : List ℕ) (m n : ℕ) (p q : Profile) → d ≡ e → m ≡ n → p ≡ q → (let k : RunKey = record { digest = d; run = m; profile = p } in let l : RunKey = record { digest = e; run = n; profile = q } in k ≡ l)
key_is d e m n p q h g f = cc

pub key_decides : (f : Profile → Profile → Bool) → ((p q : Profile) → Decides (f p q) (p ≡ q)) → (x y : RunKey) → Decides (bytes_eq x.digest y.digest && ((x.run == y.run) && f x.profile y.profile)) (x ≡ y)
key_decides f d x y =
    Decides-like _ (λ h. key_is x.digest y.digest x.run y.run x.profile y.profile h.0 h.1.0 h.1.1)
    (λ h. (ap (λ (k : RunKey). k.digest) h, (ap (λ (k : RunKey). k.run) h, ap (λ (k : RunKey). k.profile) h)))
    (Decides-and (bytes_eq x.digest y.digest) ((x.run == y.run) && f x.profile y.profile) (bytes_eq-Decides x.digest y.digest) (Decides-and (x.run == y.run) (f x.profile y.profile) (Decides-eqb x.run y.run) (d x.profile y.profile)))

pub value_decides : (e : Value → Value → Bool)
    → ((m n : ℕ) → e (I32 m) (I32 n) ≡ (m == n)) → ((m n : ℕ) → e (I64 m) (I64 n) ≡ (m == n))
    → ((m n : ℕ) → e (I32 m) (I64 n) ≡ false) → ((m n : ℕ) → e (I64 m) (I32 n) ≡ false)
    → (x y : Value) → Decides (e x y) (x ≡ y)
value_decides e ww ll wl lw (I32 m) (I32 n) = Decides-at _ _ (ww m n) (Decides-like _ (λ h. ap (λ (k : ℕ). I32 k) h) (λ h. cc) (Decides-eqb m n))
value_decides e ww ll wl lw (I64 m) (I64 n) = Decides-at _ _ (ll m n) (Decides-like _ (λ h. ap (λ (k : ℕ). I64 k) h) (λ h. cc) (Decides-eqb m n))
value_decides e ww ll wl lw (I32 m) (I64 n) = (λ h. absurd (let k = wl m n in cc), λ h. absurd cc)
value_decides e ww ll wl lw (I64 m) (I32 n) = (λ h. absurd (let k = lw m n in cc), λ h. absurd cc)

-- `==` of outcomes, by cases
abbrev outcome_eq : (Value → Value → Bool) → (Trap → Trap → Bool) → Outcome → Outcome → Bool
outcome_eq v t Running Running = true
outcome_eq v t Waiting Waiting = true
outcome_eq v t (Done None) (Done None) = true
outcome_eq v t (Done (Some x)) (Done (Some y)) = v x y
outcome_eq v t (Trapped x) (Trapped y) = t x y
outcome_eq v t x y = false

pub outcome_decides : (e : Outcome → Outcome → Bool) (v : Value → Value → Bool) (t : Trap → Trap → Bool)
    → ((x y : Value) → Decides (v x y) (x ≡ y)) → ((x y : Trap) → Decides (t x y) (x ≡ y))
    → ((x y : Outcome) → e x y ≡ outcome_eq v t x y)
    → (x y : Outcome) → Decides (e x y) (x ≡ y)
outcome_decides e v t d f is x y = Decides-at _ _ (is x y) (at x y) where
  at : (x y : Outcome) → Decides (outcome_eq v t x y) (x ≡ y)
  at Running Running = (λ h. refl, λ h. refl)
  at Waiting Waiting = (λ h. refl, λ h. refl)
  at (Done None) (Done None) = (λ h. refl, λ h. refl)
  at (Done (Some x)) (Done (Some y)) = Decides-like _ (λ h. ap (λ (z : Value). Done (Some z)) h) (λ h. cc) (d x y)
  at (Trapped x) (Trapped y) = Decides-like _ (λ h. ap (λ (z : Trap). Trapped z) h) (λ h. cc) (f x y)
  at x y = (λ h. absurd cc, λ h. absurd cc)

pub outcome_eq_is : (x y : Outcome) → (outcomes.eq-value).it x y ≡ outcome_eq (values.eq-value).it (traps.eq-value).it x y
outcome_eq_is Running Running = refl
outcome_eq_is Waiting Waiting = refl
outcome_eq_is (Done None) (Done None) = refl
outcome_eq_is (Done (Some x)) (Done (Some y)) = refl
outcome_eq_is (Trapped x) (Trapped y) = refl
outcome_eq_is x y = refl
