-- Reading from left to right: readers made of readers.
use Rattle.std.specs.Prelude.{Bool, false, ℤ, ℕ, zero, suc, ◌&&◌, ◌+◌, List, [], ◌∷◌, length, take, drop, Option, Some, None, Result, Ok, Err, nat_lt, ◌==◌, if◌then◌else◌}
use Rattle.std.specs.Str.{is_utf8}
use Rattle.wasm_types.specs.Leb128Reading.{unsigned_at, signed_at}
use Rattle.binary_decoder.specs.Fault.{Fault, Malformed, Oversized, Reading, ◌>>=◌}

-- the first byte is this one
abbrev pub begins : ℕ → List ℕ → Bool
begins b [] = false
begins b (c ∷ cs) = c == b

abbrev pub first_at : List ℕ → Reading ℕ
first_at [] = Err Malformed
first_at (b ∷ bs) = Ok (b, bs)

abbrev pub byte_at : ℕ → List ℕ → Reading (Unit {0})
byte_at b [] = Err Malformed
byte_at b (c ∷ bs) = if c == b then Ok (tt, bs) else Err Malformed

abbrev pub or_malformed : {X : Type 0} → Option X → Result X Fault
or_malformed None = Err Malformed
or_malformed (Some x) = Ok x

abbrev pub u32_at : List ℕ → Reading ℕ
u32_at bytes = or_malformed (unsigned_at 32 bytes)

abbrev pub s32_at : List ℕ → Reading ℤ
s32_at bytes = or_malformed (signed_at 32 bytes)

abbrev pub s64_at : List ℕ → Reading ℤ
s64_at bytes = or_malformed (signed_at 64 bytes)

abbrev pub then_at : {X Y : Type 0} → (List ℕ → Reading X) → (X → List ℕ → Reading Y) → List ℕ → Reading (X × Y)
then_at first second bytes = first bytes >>= λ x. second x.0 x.1 >>= λ y. Ok ((x.0, y.0), y.1)

abbrev pub made_at : {X Y : Type 0} → (X → Y) → (List ℕ → Reading X) → List ℕ → Reading Y
made_at make read bytes = read bytes >>= λ x. Ok (make x.0, x.1)

-- the kind that the first byte names, and what stands behind a byte of that kind
abbrev pub kind_at : {K X : Type 0} → (ℕ → Option K) → (K → List ℕ → Reading X) → List ℕ → Reading X
kind_at pick read [] = Err Malformed
kind_at pick read (c ∷ bs) = or_malformed (pick c) >>= λ k. read k bs

-- where limits hold, a number above the most is too large
abbrev pub limited_at : Bool → ℕ → ℕ → List ℕ → Reading ℕ
limited_at limited most used bytes = u32_at bytes >>= λ n. if limited && nat_lt most (used + n.0) then Err Oversized else Ok n

unfoldable pub items_at : {X : Type 0} → (List ℕ → Reading X) → ℕ → List ℕ → Reading (List X)
items_at item zero bytes = Ok ([], bytes)
items_at item (suc n) bytes = made_at (λ p. p.0 ∷ p.1) (then_at item (λ _. items_at item n)) bytes

abbrev pub vector_at : {X : Type 0} → (List ℕ → Reading X) → List ℕ → Reading (List X)
vector_at item = made_at (λ p. p.1) (then_at u32_at (items_at item))

-- a count, and that many bytes
abbrev pub byte_vector_at : List ℕ → Reading (List ℕ)
byte_vector_at bytes = u32_at bytes >>= λ n. if nat_lt (length n.1) n.0 then Err Malformed else Ok (take n.0 n.1, drop n.0 n.1)

abbrev pub name_at : List ℕ → Reading (List ℕ)
name_at bytes = byte_vector_at bytes >>= λ p. if is_utf8 p.0 then Ok p else Err Malformed

-- nothing is left
abbrev pub end_at : List ℕ → Result (Unit {0}) Fault
end_at [] = Ok tt
end_at (b ∷ bs) = Err Malformed

-- a whole text, with nothing behind it
abbrev pub all_of : {X : Type 0} → Reading X → Result X Fault
all_of r = r >>= λ x. end_at x.1 >>= λ _. Ok x.0

-- a size, and a content of exactly that many bytes, which is read as a whole
abbrev pub sized_all_at : {X : Type 0} → (List ℕ → Result X Fault) → List ℕ → Reading X
sized_all_at whole bytes = byte_vector_at bytes >>= λ p. whole p.0 >>= λ x. Ok (x, p.1)

abbrev pub sized_at : {X : Type 0} → (List ℕ → Reading X) → List ℕ → Reading X
sized_at read = sized_all_at (λ content. all_of (read content))
