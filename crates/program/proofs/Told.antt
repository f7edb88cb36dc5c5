-- What is told of a refusal where the words ask for its reason.
use Rattle.std.proofs.Common.{◌≡◌, ◌⊎◌, ℕ, List, [], ◌∷◌, ◌++◌, Bool, true, codes, map, inl, inr, sym, subst, refl}
use Rattle.command_words.specs.declared.requests.Request.{Request}
use Rattle.commands.specs.declared.fault.Fault.{Fault}
use Rattle.explanations.specs.Explained.{IsExplanation}
use Rattle.program.specs.Answers.{IsTold, fault_line, shown}

abbrev no_words : List ℕ
no_words = codes "memory: the words of the reason do not fit into it"

module _ (takes : List ℕ → Type 0) (broke : Type 0) (why : Bool) (r : Request) (fault : Fault) (asked : why ≡ true) where
  -- there was no memory for the words, or telling failed
  pub told_none : takes (fault_line fault ++ codes "memory: the words of the reason do not fit into it\n") ⊎ broke → IsTold (λ text. takes text ⊎ broke) why r fault
  told_none told = subst (λ (b : Bool). IsTold (λ text. takes text ⊎ broke) b r fault) (sym asked) (no_words, inr refl, told)

  -- the words were told, or there was no memory for them, or telling failed
  pub told_words : (words line : List ℕ) → line ≡ words → IsExplanation r fault words
      → (takes (fault_line fault ++ (map shown line ++ 10 ∷ [])) ⊎ takes (fault_line fault ++ codes "memory: the words of the reason do not fit into it\n")) ⊎ broke
      → IsTold (λ text. takes text ⊎ broke) why r fault
  told_words words line is explained (inl (inl told)) =
      subst (λ (b : Bool). IsTold (λ text. takes text ⊎ broke) b r fault) (sym asked)
      (words, inl explained, inl (subst (λ (l : List ℕ). takes (fault_line fault ++ (map shown l ++ 10 ∷ []))) is told))
  told_words words line is explained (inl (inr told)) = told_none (inl told)
  told_words words line is explained (inr failed) = told_none (inr failed)
