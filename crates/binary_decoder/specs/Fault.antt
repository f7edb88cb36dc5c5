-- What a reading of a text comes to: a value and what is behind it, or a fault.
use Rattle.std.specs.Prelude.{ℕ, List, Result, Ok, Err}

-- no text of the language is at the front, or none that keeps the limits
pub data Fault : Type 0 where
  Malformed : Fault
  Oversized : Fault

abbrev pub Reading : Type 0 → Type 0
Reading X = Result (X × List ℕ) Fault

infixl 10 ◌>>=◌
abbrev pub ◌>>=◌ : {A B : Type 0} → Result A Fault → (A → Result B Fault) → Result B Fault
(Ok x) >>= f = f x
(Err e) >>= f = Err e
