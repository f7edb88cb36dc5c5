-- What is decoded from the beginning of a file is what its bytes spell: a module is shorter than the beginning.
use Rattle.std.proofs.Common.{◌≡◌, ◌<◌, ◌≤◌, inl, inr, ℕ, true, List, length, take, Result, Ok, Err, IfOk, IfErr, arith, sym, ap, ◌∙◌, subst}
use Rattle.std.proofs.lemmas.Bool.{cases_lt}
use Rattle.std.proofs.lemmas.List.{length-take, take_all}
use Rattle.binary_decoder.specs.Fault.{Oversized}
use Rattle.binary_decoder.specs.Reader.{parts_at}
use Rattle.wasm_types.specs.declared.modules.Module.{Module}
use Rattle.wasm_types.specs.Limits.{Within}
use Rattle.binary_decoder.specs.declared.fault.DecodeFault.{DecodeFault}
use Rattle.binary_decoder.specs.declared.fault.DecodeFault.TheVariants.{Refused, TooLarge, NoMemory}
use Rattle.binary_decoder.specs.declared.cause.Limit.{Limit}
use Rattle.binary_decoder.specs.declared.place.ModulePart.{ModulePart}
use Rattle.binary_decoder.specs.Moves.{IsRefused, IsTooLarge}
use Rattle.binary_decoder.specs.Grammar.{Spells}
use Rattle.binary_decoder.specs.First.{IsFirst}
use Rattle.commands.specs.Checks.{IsModule, IsDecodeFault}

module _ (beginning bytes : List ℕ) (is : beginning ≡ take 1048577 bytes) where
  -- a short beginning is all
  short : length beginning ≤ 1048576 → beginning ≡ bytes
  short few =
      let same : length beginning ≡ length (take 1048577 bytes) = ap (λ (l : List ℕ). length l) is in
      is ∙ take_all 1048577 bytes (omega (arith, few, same, length-take 1048577 bytes))

  -- bytes that are few stand all in the beginning
  few_stand : length bytes ≤ 1048576 → beginning ≡ bytes
  few_stand few = is ∙ take_all 1048577 bytes (omega (arith, few))

  -- a beginning that is too long is that of a file that is
  long : 1048576 < length beginning → 1048576 < length bytes
  long many =
      let same : length beginning ≡ length (take 1048577 bytes) = ap (λ (l : List ℕ). length l) is in
      omega (arith, many, same, length-take 1048577 bytes)

  -- so is one that passes a limit
  too_large : (limit : Limit) (count : ℕ) (place : ModulePart) → IsFirst beginning (TooLarge limit count place) → IsFirst bytes (TooLarge limit count place)
  too_large limit count place (inl many) = inl (long many)
  too_large limit count place (inr over) = elim (cases_lt 1048576 (length beginning)) [
    | inl many ↦ inl (long many)
    | inr few ↦ inr (subst (λ (l : List ℕ). parts_at true l ≡ Err Oversized) (short few) over)
  ]

  pub module_of : (m : Module) → Spells m beginning × Within m → IsModule bytes m
  module_of m h =
      let few : length beginning ≤ 1048576 = subst (λ (l : List ℕ). length l ≤ 1048576) h.0.source h.1.bytes in
      record { spells = subst (Spells m) (short few) h.0; within = h.1 }

  pub fault_of : (fault : DecodeFault) → IsFirst beginning fault
      → (IsRefused {X = Module} (Err fault) → (m : Module) → Spells m beginning → ⊥)
      → (IsTooLarge {X = Module} (Err fault) → (m : Module) → Spells m beginning → Within m → ⊥)
      → IsDecodeFault bytes fault
  fault_of (Refused offset place cause) first refused large =
      (subst (λ (l : List ℕ). IsFirst l (Refused offset place cause)) (short first.0) first, λ m s. refused tt m (subst (Spells m) (sym (short first.0)) s))
  fault_of (TooLarge limit count place) first refused large = (
    too_large limit count place first,
    λ m h.
        let few : length bytes ≤ 1048576 = subst (λ (l : List ℕ). length l ≤ 1048576) h.spells.source h.within.bytes in
        large tt m (subst (Spells m) (sym (few_stand few)) h.spells) h.within,
  )
  fault_of NoMemory first refused large = tt

module _ (beginning : List ℕ) where
  pub ok : (r : Result Module DecodeFault) → IfOk r (λ m. Spells m beginning × Within m) → IfOk r (λ m. (bytes : List ℕ) → beginning ≡ take 1048577 bytes → IsModule bytes m)
  ok (Ok m) h = λ bytes is. module_of beginning bytes is m h
  ok (Err fault) h = tt

  pub err : (r : Result Module DecodeFault) → IfErr r (IsFirst beginning)
      → (IsRefused r → (m : Module) → Spells m beginning → ⊥)
      → (IsTooLarge r → (m : Module) → Spells m beginning → Within m → ⊥)
      → IfErr r (λ fault. (bytes : List ℕ) → beginning ≡ take 1048577 bytes → IsDecodeFault bytes fault)
  err (Ok m) first refused large = tt
  err (Err fault) first refused large = λ bytes is. fault_of beginning bytes is fault first refused large
