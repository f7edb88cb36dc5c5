-- Words with zeros behind them.
use Rattle.std.proofs.Common.{◌≡◌, ◌≤◌, ℕ, List, ◌++◌, length, drop, Some, sym, ap, ◌∙◌}
use Rattle.std.specs.Prelude.{Bool, None, Option, replicate, if◌then◌else◌, ◌-◌}
use Rattle.std.proofs.lemmas.Bool.{le-leb}
use Rattle.std.proofs.lemmas.List.{drop-replicate}
use Rattle.debugger.specs.declared.word.Word.{Word}
use Rattle.debugger.specs.Lines.{word_of}

-- a short text that was put in front of zeros, of which as many went
pub word_is : (text new : List ℕ) → new ≡ text → length text ≤ 64 → Some (record { bytes = new ++ drop (length text) (replicate 64 0) }) ≡ word_of text
word_is text new is short =
    let padded : List ℕ → Option Word = λ (bytes : List ℕ). Some (record { bytes = bytes }) in
    let whole : Option Word = padded (text ++ replicate (64 - length text) 0) in
    ap padded (ap (λ (l : List ℕ). l ++ drop (length text) (replicate 64 0)) is ∙ ap (λ (l : List ℕ). text ++ l) (drop-replicate (length text) 64 0))
    ∙ ap (λ (b : Bool). if b then whole else None) (sym (le-leb (length text) 64 short))
