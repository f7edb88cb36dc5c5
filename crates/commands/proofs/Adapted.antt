-- What exchanges of a debug adapter come to.
use Rattle.std.proofs.Common.{◌≡◌, ℕ, List, ◌++◌, Result, Ok, Err, OnOk, IfErr, inr, refl, sym, subst}
use Rattle.adapter.specs.Request.{Request}
use Rattle.adapter.specs.Exchanges.{At, IsWaiting}
use Rattle.adapter.specs.Ended.{Ended}
use Rattle.adapter.specs.ExchangeFault.{ExchangeFault}
use Rattle.adapter.specs.Waits.{Waits, holds_back}
use Rattle.adapter.specs.declared.waiting.Waiting.{Waiting}
use Rattle.commands.specs.Adapts.{fault_of, outcome_of, start, IsUpToLaunch, IsAnsweredBehind, IsBrokenBehind, IsAdapted, IsAdapterStopped}
use Rattle.commands.specs.declared.fault.Fault.{Fault}

-- ---- what an outcome says of its fault

module _ (brought took : List ℕ → Type 0) {U : Type 0} (u : U) (Q : List ℕ → ExchangeFault → List ℕ → U → Type 0) where
  abbrev pub IsStopped : Fault → Type 0
  IsStopped fault = (came text : List ℕ) × brought came × took text × ((f : ExchangeFault) × (fault ≡ fault_of f) × (v : U) × Q came f text v)

  pub stopped_of : (r : Result Ended ExchangeFault) (s : Result (Unit {0}) Fault) → s ≡ outcome_of r
      → IfErr r (λ f. (came text : List ℕ) × brought came × took text × Q came f text u) → IfErr s IsStopped
  stopped_of (Ok end) s is h = subst (λ (x : Result (Unit {0}) Fault). IfErr x IsStopped) (sym is) tt
  stopped_of (Err f) s is h = subst (λ (x : Result (Unit {0}) Fault). IfErr x IsStopped) (sym is) (h.0, h.1, h.2, h.3, (f, refl, u, h.4))

-- the same of what came and went, where more is known
module _ {T : Type 0} (brought took : List ℕ → Type 0) where
  pub done_so : (Q R : List ℕ → List ℕ → Type 0) (s : Result T Fault) → ((came text : List ℕ) → Q came text → R came text)
      → OnOk s ((came text : List ℕ) × brought came × took text × Q came text) → OnOk s ((came text : List ℕ) × brought came × took text × R came text)
  done_so Q R (Ok x) so h = (h.0, h.1, h.2, h.3, so h.0 h.1 h.4)
  done_so Q R (Err f) so h = tt

  pub stopped_so : (Q R : Fault → List ℕ → List ℕ → Type 0) (s : Result T Fault) → ((fault : Fault) (came text : List ℕ) → Q fault came text → R fault came text)
      → IfErr s (λ fault. (came text : List ℕ) × brought came × took text × Q fault came text) → IfErr s (λ fault. (came text : List ℕ) × brought came × took text × R fault came text)
  stopped_so Q R (Ok x) so h = tt
  stopped_so Q R (Err f) so h = (h.0, h.1, h.2, h.3, so f h.0 h.1 h.4)

-- ---- a launch, and what came behind it

module _ {Source Sink : Type 0} (brings : Source → List ℕ → Source → Type 0) (brings_more : (s t u : Source) (xs ys : List ℕ) → brings s xs t → brings t ys u → brings s (xs ++ ys) u)
    (takes : Sink → List ℕ → Sink → Type 0) (takes_more : (s t u : Sink) (xs ys : List ℕ) → takes s xs t → takes t ys u → takes s (xs ++ ys) u)
    (source source_then source_now : Source) (sink sink_then sink_now : Sink) (request : Request) (u : At Waiting) where
  module _ (before : (came text : List ℕ) × brings source came source_then × takes sink text sink_then × IsWaiting holds_back Waits came start request text u) where
    up_to : (Behind : (rest : List ℕ) → Request → (number : ℕ) → List ℕ → Type 0) (rest behind : List ℕ) → Behind rest request u.number behind → IsUpToLaunch (before.0 ++ rest) Behind (before.1 ++ behind)
    up_to Behind rest behind goes = record { first = before.0; rest = rest; is_came = refl; request = request; answers = before.1; u = u; before = before.4; behind = behind; goes = goes; is = refl }

    module _ (ended : Type 0) (holds : List ℕ → List ℕ → Type 0) (fails : List ℕ → Type 0) where
      pub done_behind : {T : Type 0} (s : Result T Fault) → OnOk s ((came text : List ℕ) × brings source_then came source_now × takes sink_then text sink_now × IsAnsweredBehind came ended request u.number holds fails text)
          → OnOk s ((came text : List ℕ) × brings source came source_now × takes sink text sink_now × IsAdapted came ended holds fails text)
      done_behind (Ok x) h = (
        before.0 ++ h.0,
        before.1 ++ h.1,
        brings_more source source_then source_now before.0 h.0 before.2 h.2,
        takes_more sink sink_then sink_now before.1 h.1 before.3 h.3,
        inr (up_to (λ rest request number behind. IsAnsweredBehind rest ended request number holds fails behind) h.0 h.1 h.4),
      )
      done_behind (Err f) h = tt

      pub stopped_behind : {T : Type 0} (s : Result T Fault) → IfErr s (λ fault. (came text : List ℕ) × brings source_then came source_now × takes sink_then text sink_now × IsBrokenBehind came ended request u.number holds fails fault text)
          → IfErr s (λ fault. (came text : List ℕ) × brings source came source_now × takes sink text sink_now × IsAdapterStopped came ended holds fails fault text)
      stopped_behind (Ok x) h = tt
      stopped_behind (Err fault) h = (
        before.0 ++ h.0,
        before.1 ++ h.1,
        brings_more source source_then source_now before.0 h.0 before.2 h.2,
        takes_more sink sink_then sink_now before.1 h.1 before.3 h.3,
        inr (up_to (λ rest request number behind. IsBrokenBehind rest ended request number holds fails fault behind) h.0 h.1 h.4),
      )
