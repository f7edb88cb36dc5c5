use Rattle.std.proofs.Common.{◌≡◌, ◌∙◌, ℕ, List, [], ◌++◌, ap, append_assoc}
use Rattle.program.proofs.answering.not_text.Goals as goal

-- what five pushes leave
joined : (t0 t1 t2 t3 t4 t5 a d b q n e f : List ℕ) → t0 ≡ [] → t1 ≡ t0 ++ a → t2 ≡ t1 ++ d → t3 ≡ t2 ++ b → t4 ≡ t3 ++ q → t5 ≡ t4 ++ n → d ≡ e → q ≡ f → t5 ≡ a ++ (e ++ (b ++ (f ++ n)))
joined t0 t1 t2 t3 t4 t5 a d b q n e f e0 e1 e2 e3 e4 e5 de qf =
    e5 ∙ ap (λ x. x ++ n) (e4 ∙ ap (λ x. x ++ q) (e3 ∙ ap (λ x. x ++ b) (e2 ∙ ap (λ x. x ++ d) (e1 ∙ ap (λ x. x ++ a) e0))))
    ∙ append_assoc ((a ++ d) ++ b) q n ∙ append_assoc (a ++ d) b (q ++ n) ∙ append_assoc a d (b ++ (q ++ n))
    ∙ ap (λ x. a ++ (x ++ (b ++ (q ++ n)))) de ∙ ap (λ x. a ++ (e ++ (b ++ (x ++ n)))) qf

pub returns : goal.returns
returns c =
    joined _ _ _ _ _ _ _ _ _ _ _ _ _ c.new-text.ensures c.push_str.ensures.bytes c.push_str-2.ensures.bytes c.push_str-3.ensures.bytes c.push_str-4.ensures.bytes c.push_str-5.ensures.bytes
    c.format.ensures.text (c.as_str.ensures.value ∙ c.text.ensures)
