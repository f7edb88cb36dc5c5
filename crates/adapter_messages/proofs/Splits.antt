-- A field, cut at its colon.
use Rattle.std.proofs.Common.{◌≡◌, ℕ, ◌+◌, ◌-◌, List, length, take, drop, sym, ap, ◌∙◌, length-drop}
use Rattle.std.proofs.lemmas.List.{drop-drop}
use Rattle.std.proofs.Math.Seq.{take-length}
use Rattle.adapter_messages.specs.Fields.{named}

-- the value behind a colon
value_is : (line behind : List ℕ) (k : ℕ) → behind ≡ drop k line → take (length behind - 1) (drop 1 behind) ≡ drop (k + 1) line
value_is line behind k is = ap (λ (n : ℕ). take n (drop 1 behind)) (sym (length-drop 1 behind)) ∙ take-length (drop 1 behind) ∙ ap (drop 1) is ∙ drop-drop 1 k line

pub split_is : (line name behind : List ℕ) (k : ℕ) → name ≡ take k line → behind ≡ drop k line → named name (take (length behind - 1) (drop 1 behind)) ≡ named (take k line) (drop (k + 1) line)
split_is line name behind k front back = ap (λ (n : List ℕ). named n (take (length behind - 1) (drop 1 behind))) front ∙ ap (named (take k line)) (value_is line behind k back)
