-- `==` of ends decides equality.
use Rattle.std.specs.Prelude.{◌≡◌, ℕ, ◌==◌}
use Rattle.std.specs.Bool.{Decides}
use Rattle.std.proofs.Common.{ap}
use Rattle.std.proofs.lemmas.Bool.Decides.{Decides-and, Decides-eqb, Decides-like}
use Rattle.wasm_types.specs.declared.outcome.Outcome.{Outcome}
use Rattle.wasm_types.specs.contracts.outcome.OutcomeSame.TheImpl.Laws as outcomes
use Rattle.log_pieces.specs.contracts.end.EndPartialEq.TheImpl as ends
use Rattle.log_pieces.specs.declared.end.End.{End}

end_is : (s t p q : ℕ) (o r : Outcome) → s ≡ t → p ≡ q → o ≡ r → (let a : End = record { steps = s; places = p; outcome = o } in let b : End = record { steps = t; places = q; outcome = r } in a ≡ b)
end_is s t p q o r f g h = cc

pub end_decides : (x y : End) → Decides ((ends.eq-value).it x y) (x ≡ y)
end_decides x y =
    Decides-like _ (λ h. end_is x.steps y.steps x.places y.places x.outcome y.outcome h.0 h.1.0 h.1.1)
    (λ h. (ap (λ (e : End). e.steps) h, (ap (λ (e : End). e.places) h, ap (λ (e : End). e.outcome) h)))
    (Decides-and (x.steps == y.steps) _ (Decides-eqb x.steps y.steps)
    (Decides-and (x.places == y.places) _ (Decides-eqb x.places y.places) (outcomes.decides-law x.outcome y.outcome)))
