-- From the typing rules to every activation that is reached.
use Rattle.std.proofs.Common.{◌≡◌, ◌≤◌, List, [], ◌∷◌, Some, refl, sym, ◌∙◌, ap, subst, length, reverse}
use Rattle.wasm_types.specs.declared.instruction.Instr.{Instr}
use Rattle.validator.specs.Context.{Context}
use Rattle.validator.specs.Typing.{FunctionTyped}
use Rattle.validator.specs.Walk.{start}
use Rattle.validator.proofs.Complete.{complete}
use Rattle.thread_words.specs.Instance.{Instance, HasFunctions}
use Rattle.thread_words.specs.Activation.{Activation}
use Rattle.thread_words.specs.Step.{Next, Stays, Calls, Asks, AsksToWait, act}
use Rattle.thread_words.specs.Fits.{ActivationFits, Good, Reached, Enters, GoesOn, IsAnswered, IsWoken, IsReturnedTo, NeverStuck}
use Rattle.thread_words.proofs.Safety.{safe}

good : (m : Instance) (c : Context) (code : List Instr) (a : Activation) (n : Next) → HasFunctions c.within m → length c.result ≤ 1 → ActivationFits c code a → act m c code a ≡ Some n → Good c code n
good m c code a n has one k h = let s = safe m c code a has one k in let e : s.0 ≡ n = cc in subst (Good c code) e s.2

pub reached_fits : {m : Instance} {c : Context} {code : List Instr} {a : Activation} → HasFunctions c.within m → length c.result ≤ 1 → FunctionTyped c code → Reached m c code a → ActivationFits c code a
reached_fits {m} {c} {code} {a} has one t (Enters locals globals k l) = (k, l, start c, (refl, complete c code t), (refl, refl, refl, refl, refl))
reached_fits {m} {c} {code} {a} has one t (GoesOn x b r h) = good m c code x (Stays b) has one (reached_fits has one t r) h
reached_fits {m} {c} {code} {a} has one t (IsAnswered x b action replies vs r h k) = good m c code x (Asks action replies b) has one (reached_fits has one t r) h vs k
reached_fits {m} {c} {code} {a} has one t (IsWoken x b action time v r h k) = good m c code x (AsksToWait action time b) has one (reached_fits has one t r) h (v ∷ []) (ap (λ y. y ∷ []) k)
reached_fits {m} {c} {code} {a} has one t (IsReturnedTo x b f arguments vs globals kind r h g k l) =
    let q = good m c code x (Calls f arguments b) has one (reached_fits has one t r) h in
    let s : Some q.0 ≡ Some kind = sym q.1 ∙ g in
    let e : q.0 ≡ kind = cc in
    let z = q.3 vs (k ∙ sym (ap (λ y. reverse y.results) e)) in
    (z.0, l, z.2, z.3, z.4)

pub never_stuck : NeverStuck
never_stuck m c code a has one t r = let s = safe m c code a has one (reached_fits has one t r) in (s.0, s.1)
