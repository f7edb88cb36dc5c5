-- Notes of where threads stand, one after the other.
use Rattle.std.proofs.Common.{◌≡◌, ◌⊎◌, ℕ, zero, suc, ◌+◌, List, [], ◌∷◌, ◌++◌, length, Some, slice_get, sym, ap, ◌∙◌, subst, add-one, inl, inr}
use Rattle.wasm_types.specs.declared.modules.Module.{Module}
use Rattle.event_core.specs.Threads.{ThreadAt}
use Rattle.wasm_world.specs.Plans.{PlanValue}
use Rattle.wasm_world.specs.Opening.{WasmWorld}
use Rattle.wasm_world.specs.ThreadCode.{ThreadAt as CodeThread}
use Rattle.replica.specs.declared.log.Log.{Log as GatheredLog}
use Rattle.replay_gate.proofs.Putting.{get_pushed, length_more}
use Rattle.debug_views.specs.Standing.{PlaceForm}
use Rattle.debug_views.specs.ThreadNotes.{AreNotes, IsNote}

nothing_there : (t : ℕ) (note : List ℕ) → slice_get [] t ≡ Some note → ⊥
nothing_there zero note e = cc
nothing_there (suc t) note e = cc

module _ (m : Module) (plan : PlanValue) (log : GatheredLog) (order : List ℕ) (form : PlaceForm) (v : WasmWorld) where
  -- the notes of the first so many threads
  pub record AreNotedBelow (count : ℕ) (notes : List (List ℕ)) : Type 0 where
    pub len : length notes ≡ count
    pub each : (t : ℕ) (thread : ThreadAt CodeThread) (note : List ℕ) → slice_get v.threads t ≡ Some thread → slice_get notes t ≡ Some note → IsNote m plan log order form t thread note

  pub none_noted : (notes : List (List ℕ)) → notes ≡ [] → AreNotedBelow 0 notes
  none_noted notes empty = record { len = ap length empty; each = λ t thread note is there. absurd (nothing_there t note (ap (λ (l : List (List ℕ)). slice_get l t) (sym empty) ∙ there)) }

  one_by : (now : List (List ℕ)) (count : ℕ) (last : List ℕ) → AreNotedBelow count now → ((thread : ThreadAt CodeThread) → slice_get v.threads count ≡ Some thread → IsNote m plan log order form count thread last)
      → (t : ℕ) (thread : ThreadAt CodeThread) (note : List ℕ) → slice_get v.threads t ≡ Some thread → (slice_get now t ≡ Some note) ⊎ ((t ≡ length now) × (note ≡ last)) → IsNote m plan log order form t thread note
  one_by now count last below h t thread note is here = elim here [
    | inl e ↦ below.each t thread note is e
    | inr e ↦
        let at : t ≡ count = e.0 ∙ below.len in
        let got : IsNote m plan log order form count thread last = h thread (ap (slice_get v.threads) (sym at) ∙ is) in
        subst (λ (x : List ℕ). IsNote m plan log order form t thread x) (sym e.1) (subst (λ (n : ℕ). IsNote m plan log order form n thread last) (sym at) got)
  ]

  pub one_noted : (now next : List (List ℕ)) (count : ℕ) (last : List ℕ) → AreNotedBelow count now → ((thread : ThreadAt CodeThread) → slice_get v.threads count ≡ Some thread → IsNote m plan log order form count thread last)
      → next ≡ now ++ last ∷ [] → AreNotedBelow (count + 1) next
  one_noted now next count last below h more = record {
    len = ap length more ∙ length_more now last ∙ ap suc below.len ∙ sym (add-one count);
    each = λ t thread note is there. one_by now count last below h t thread note is (get_pushed now last note t (ap (λ l. slice_get l t) (sym more) ∙ there));
  }

  pub all_noted : (notes : List (List ℕ)) (count : ℕ) → AreNotedBelow count notes → count ≡ length v.threads → AreNotes m plan log order form v notes
  all_noted notes count below all = record { len = below.len ∙ all; each = below.each }
