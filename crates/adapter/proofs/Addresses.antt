-- Bytes that are read from an address on.
use Rattle.std.proofs.Common.{◌≡◌, ℕ, List, Bool, true, false, ap, sym, ◌∙◌, codes}
use Rattle.std.specs.Prelude.{ℤ, pos, negsuc, unsigned_abs, int_lt, if◌then◌else◌}
use Rattle.std.specs.Str.{bytes_eq}
use Rattle.adapter.specs.Memory.{found_reply, memory_reply}
use Rattle.adapter.specs.Replies.{failure}

pub read_at : (memory reference : List ℕ) (offset : ℤ) (start count : ℕ) → bytes_eq reference (codes "memory") ≡ true → int_lt offset (pos 0) ≡ false → start ≡ unsigned_abs offset
    → found_reply memory start count ≡ memory_reply memory reference offset count
read_at memory reference (pos n) start count is below same =
    ap (λ (k : ℕ). found_reply memory k count) same ∙ ap (λ (b : Bool). if b then found_reply memory n count else failure (codes "error: no such memory, try memory")) (sym is)
read_at memory reference (negsuc n) start count is below same = absurd (cc)

pub of_same : {A B C : Type 0} (f : A → B → C) (x : C) (a other : A) (b another : B) → x ≡ f a b → a ≡ other → b ≡ another → x ≡ f other another
of_same f x a other b another is same too = is ∙ ap (λ y. f y b) same ∙ ap (f other) too
