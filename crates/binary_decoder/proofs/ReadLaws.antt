-- Readers that answer by a language and limits, and how they are put together.
use Rattle.std.proofs.Common.{◌≡◌, ℕ, zero, suc, ◌+◌, ◌≤◌, Bool, true, false, cond, ltb, eqb, ◌&&◌, List, [], ◌∷◌, ◌++◌, length, take, drop, Option, Some, None, Result, Ok, Err, refl, sym, ap, subst, ◌∙◌, append_assoc, arith}
use Rattle.std.specs.Prelude.{ℤ}
use Rattle.std.specs.List.{AllByRecursion}
use Rattle.std.specs.Str.{is_utf8}
use Rattle.std.proofs.lemmas.Str.{IsUtf8-from_is_utf8, is_utf8-from_IsUtf8}
use Rattle.std.proofs.lemmas.Option.{same_Some}
use Rattle.std.proofs.lemmas.Bool.{ltb-true, ltb-false, eqb-true, eqb-false}
use Rattle.std.proofs.lemmas.List.{append-nil, take-append-drop, length-append, length-take, take_at, drop_at}
use Rattle.wasm_types.specs.Leb128.{signed}
use Rattle.wasm_types.specs.Leb128Reading.{unsigned_at, signed_at}
use Rattle.wasm_types.proofs.Leb128Laws.{unsigned_found, unsigned_only, signed_found, signed_only}
use Rattle.binary_decoder.specs.Language.{Language, nothing, byte, ◌⨾◌, each, u32, vector, byte_vector, name, sized}
use Rattle.binary_decoder.specs.Fault.{Fault, Malformed, Oversized, Reading, ◌>>=◌}
use Rattle.binary_decoder.specs.Reading.{byte_at, or_malformed, u32_at, then_at, made_at, kind_at, limited_at, items_at, vector_at, byte_vector_at, name_at, end_at, all_of, sized_all_at, sized_at}
use Rattle.binary_decoder.proofs.ReadAnswers.{Told, Found, Answers, Exact, AnswersAll, ExactAll, always}

-- ---- a reader, and then another

abbrev Pair : {X Y : Type 0} → (X → Language) → (X → Y → Language) → X × Y → Language
Pair A B p = A p.0 ⨾ B p.0 p.1

abbrev Both : {X Y : Type 0} → (X → Type 0) → (X → Y → Type 0) → X × Y → Type 0
Both WA WB p = WA p.0 × WB p.0 p.1

joined : {X Y : Type 0} (A : X → Language) (B : X → Y → Language) (WA : X → Type 0) (WB : X → Y → Type 0) (bytes : List ℕ) (x : X) (rest : List ℕ) (r : Reading Y)
    → Found A WA bytes (Ok (x, rest)) → Answers (B x) (WB x) rest r
    → Found (Pair A B) (Both WA WB) bytes (r >>= λ y. Ok ((x, y.0), y.1))
joined A B WA WB bytes x rest (Ok y) f s =
    let g = s.found in
    (f.0 ++ g.0, f.1 ∙ ap (λ (t : List ℕ). f.0 ++ t) g.1 ∙ sym (append_assoc f.0 g.0 y.1), record { front = f.0; back = g.0; parts = refl; is_first = f.2; is_second = g.2 }, (f.3, g.3))
joined A B WA WB bytes x rest (Err e) f s = tt

told_second : {X Y : Type 0} (B : X → Y → Language) (WA : X → Type 0) (WB : X → Y → Type 0) (x : X) (y : Y) (rest : List ℕ) (r : Reading Y)
    → Told (WB x) r y rest → Told (Both WA WB) (r >>= λ z. Ok ((x, z.0), z.1)) (x, y) rest
told_second B WA WB x y rest (Ok p) h = ap (λ (z : _). ((x, z.0), z.1)) h
told_second B WA WB x y rest (Err Malformed) h = h
told_second B WA WB x y rest (Err Oversized) h = λ w. h w.1

-- the second is asked only of what is left behind a text of the first
pub then_both : {X Y : Type 0} (A : X → Language) (B : X → Y → Language) (WA : X → Type 0) (WB : X → Y → Type 0) (first : Reading X) (second : X → List ℕ → Reading Y) (bytes : List ℕ)
    → Answers A WA bytes first → ((x : X) (text rest : List ℕ) → A x text → WA x → bytes ≡ text ++ rest → Answers (B x) (WB x) rest (second x rest))
    → Answers (λ (p : X × Y). A p.0 ⨾ B p.0 p.1) (λ (p : X × Y). WA p.0 × WB p.0 p.1) bytes (first >>= λ x. second x.0 x.1 >>= λ y. Ok ((x.0, y.0), y.1))
then_both {X} {Y} A B WA WB (Ok p) second bytes f s =
    record {
      found = joined A B WA WB bytes p.0 p.1 (second p.0 p.1) f.found (s p.0 f.found.0 p.1 f.found.2 f.found.3 f.found.1);
      only = λ z text rest l e.
          let e2 : bytes ≡ l.front ++ (l.back ++ rest) = e ∙ ap (λ (t : List ℕ). t ++ rest) l.parts ∙ append_assoc l.front l.back rest in
          let here : p ≡ (z.0, l.back ++ rest) = f.only z.0 l.front (l.back ++ rest) l.is_first e2 in
          let rest_told : Told (WB z.0) (second z.0 (l.back ++ rest)) z.1 rest = (s z.0 l.front (l.back ++ rest) l.is_first (subst (λ (q : X × List ℕ). WA q.0) here f.found.3) e2).only z.1 l.back rest l.is_second refl in
          subst (λ (q : X × List ℕ). Told (Both WA WB) (second q.0 q.1 >>= λ y. Ok ((q.0, y.0), y.1)) z rest) (sym here) (told_second B WA WB z.0 z.1 rest (second z.0 (l.back ++ rest)) rest_told);
    }
then_both A B WA WB (Err Malformed) second bytes f s =
    record { found = tt; only = λ z text rest l e. f.only z.0 l.front (l.back ++ rest) l.is_first (e ∙ ap (λ (t : List ℕ). t ++ rest) l.parts ∙ append_assoc l.front l.back rest) }
then_both A B WA WB (Err Oversized) second bytes f s =
    record { found = tt; only = λ z text rest l e. λ w. f.only z.0 l.front (l.back ++ rest) l.is_first (e ∙ ap (λ (t : List ℕ). t ++ rest) l.parts ∙ append_assoc l.front l.back rest) w.0 }

pub then_exact : {X Y : Type 0} (A : X → Language) (B : X → Y → Language) (WA : X → Type 0) (WB : X → Y → Type 0) (first : List ℕ → Reading X) (second : X → List ℕ → Reading Y)
    → Exact A WA first → ((x : X) → Exact (B x) (WB x) (second x)) → Exact (λ (p : X × Y). A p.0 ⨾ B p.0 p.1) (λ (p : X × Y). WA p.0 × WB p.0 p.1) (then_at first second)
then_exact A B WA WB first second f s bytes = then_both A B WA WB (first bytes) second bytes (f bytes) (λ x text rest l w e. s x rest)

made_by : {X Y : Type 0} (make : X → Y) (parts : Y → X) → ((y : Y) → make (parts y) ≡ y) → ((x : X) → parts (make x) ≡ x) → (A : X → Language) (WA : X → Type 0) (bytes : List ℕ) (r : Reading X)
    → Answers A WA bytes r → Answers (λ (y : Y). A (parts y)) (λ (y : Y). WA (parts y)) bytes (r >>= λ x. Ok (make x.0, x.1))
made_by make parts there back A WA bytes (Ok p) f =
    record {
      found = let g = f.found in (g.0, g.1, subst (λ (x : _). A x g.0) (sym (back p.0)) g.2, subst WA (sym (back p.0)) g.3);
      only = λ y text rest l e. ap (λ (q : _). (make q.0, q.1)) (f.only (parts y) text rest l e) ∙ ap (λ (z : _). (z, rest)) (there y);
    }
made_by make parts there back A WA bytes (Err Malformed) f = record { found = tt; only = λ y text rest l e. f.only (parts y) text rest l e }
made_by make parts there back A WA bytes (Err Oversized) f = record { found = tt; only = λ y text rest l e. f.only (parts y) text rest l e }

-- ---- a reader whose value is made into another, by a mapping that is undone

pub made_exact : {X Y : Type 0} (make : X → Y) (parts : Y → X) → ((y : Y) → make (parts y) ≡ y) → ((x : X) → parts (make x) ≡ x) → (A : X → Language) (WA : X → Type 0) (read : List ℕ → Reading X)
    → Exact A WA read → Exact (λ (y : Y). A (parts y)) (λ (y : Y). WA (parts y)) (made_at make read)
made_exact make parts there back A WA read f bytes = made_by make parts there back A WA bytes (read bytes) (f bytes)

-- ---- one byte

byte_by : (b c : ℕ) (bs : List ℕ) (t : Bool) → eqb c b ≡ t → Answers (λ (_ : Unit {0}). byte b) (λ (_ : Unit {0}). Unit {0}) (c ∷ bs) (cond t (Ok (tt, bs)) (Err Malformed))
byte_by b c bs true e = record { found = (c ∷ [], refl, ap (λ (x : ℕ). x ∷ []) (eqb-true c b e), tt); only = λ x text rest l h. let k : c ∷ bs ≡ b ∷ rest = h ∙ ap (λ (t : List ℕ). t ++ rest) l in let k2 : bs ≡ rest = cc in ap (λ (r : List ℕ). (tt, r)) k2 }
byte_by b c bs false e = record { found = tt; only = λ x text rest l h. let k : c ∷ bs ≡ b ∷ rest = h ∙ ap (λ (t : List ℕ). t ++ rest) l in let k2 : c ≡ b = cc in absurd (eqb-false c b e k2) }

pub byte_exact : (b : ℕ) → Exact (λ (_ : Unit {0}). byte b) (λ (_ : Unit {0}). Unit {0}) (byte_at b)
byte_exact b [] = record { found = tt; only = λ x text rest l e. cc }
byte_exact b (c ∷ bs) = byte_by b c bs (eqb c b) refl

-- ---- numbers

u32_by : (bytes : List ℕ) (o : Option (ℕ × List ℕ)) → unsigned_at 32 bytes ≡ o → Answers u32 always bytes (or_malformed o)
u32_by bytes None e = record { found = tt; only = λ n text rest l h. let k = unsigned_only 32 n text rest l in let k2 : unsigned_at 32 (text ++ rest) ≡ None = ap (unsigned_at 32) (sym h) ∙ e in absurd cc }
u32_by bytes (Some p) e = record {
  found = let g = unsigned_found 32 bytes p.0 p.1 e in (g.0, g.1, g.2, tt);
  only = λ n text rest l h. same_Some p (n, rest) (sym e ∙ ap (unsigned_at 32) h ∙ unsigned_only 32 n text rest l);
}

pub u32_exact : Exact u32 always u32_at
u32_exact bytes = u32_by bytes (unsigned_at 32 bytes) refl

signed_by : (bits : ℕ) (bytes : List ℕ) (o : Option (ℤ × List ℕ)) → signed_at bits bytes ≡ o → Answers (signed bits) always bytes (or_malformed o)
signed_by bits bytes None e = record { found = tt; only = λ n text rest l h. let k = signed_only bits n text rest l in let k2 : signed_at bits (text ++ rest) ≡ None = ap (signed_at bits) (sym h) ∙ e in absurd cc }
signed_by bits bytes (Some p) e = record {
  found = let g = signed_found bits bytes p.0 p.1 e in (g.0, g.1, g.2, tt);
  only = λ n text rest l h. same_Some p (n, rest) (sym e ∙ ap (signed_at bits) h ∙ signed_only bits n text rest l);
}

pub signed_exact : (bits : ℕ) → Exact (signed bits) always (λ bytes. or_malformed (signed_at bits bytes))
signed_exact bits bytes = signed_by bits bytes (signed_at bits bytes) refl

pub as_by : {X Y : Type 0} (make : X → Y) (A : X → Language) (WA : X → Type 0) (C : Y → Language) (WC : Y → Type 0) (bytes : List ℕ) (r : Reading X)
    → ((x : X) (text : List ℕ) → A x text → C (make x) text) → ((x : X) → WA x → WC (make x))
    → ((y : Y) (text : List ℕ) → C y text → (x : X) × A x text × (make x ≡ y) × (WC y → WA x))
    → Answers A WA bytes r → Answers C WC bytes (r >>= λ x. Ok (make x.0, x.1))
as_by make A WA C WC bytes (Ok p) into within out f =
    record {
      found = let g = f.found in (g.0, g.1, into p.0 g.0 g.2, within p.0 g.3);
      only = λ y text rest l e. let o = out y text l in ap (λ (q : _). (make q.0, q.1)) (f.only o.0 text rest o.1 e) ∙ ap (λ (z : _). (z, rest)) o.2;
    }
as_by make A WA C WC bytes (Err Malformed) into within out f = record { found = tt; only = λ y text rest l e. let o = out y text l in f.only o.0 text rest o.1 e }
as_by make A WA C WC bytes (Err Oversized) into within out f = record { found = tt; only = λ y text rest l e. let o = out y text l in λ w. f.only o.0 text rest o.1 e (o.3 w) }

-- ---- a reader whose value is made into another, under a language of its own

pub as_exact : {X Y : Type 0} (make : X → Y) (A : X → Language) (WA : X → Type 0) (C : Y → Language) (WC : Y → Type 0) (read : List ℕ → Reading X)
    → ((x : X) (text : List ℕ) → A x text → C (make x) text) → ((x : X) → WA x → WC (make x))
    → ((y : Y) (text : List ℕ) → C y text → (x : X) × A x text × (make x ≡ y) × (WC y → WA x))
    → Exact A WA read → Exact C WC (made_at make read)
as_exact make A WA C WC read into within out f bytes = as_by make A WA C WC bytes (read bytes) into within out (f bytes)

abbrev pub Counted : {X : Type 0} → (X → Language) → ℕ → List X → Language
Counted A n xs text = (length xs ≡ n) × each A xs text

items_none : {X : Type 0} (A : X → Language) (xs : List X) (text rest : List ℕ) → Counted A zero xs text → (bytes : List ℕ) → bytes ≡ text ++ rest → ◌≡◌ {A = List X × List ℕ} ([], bytes) (xs, rest)
items_none A [] text rest l bytes e = ap (λ (r : List ℕ). ([], r)) (e ∙ ap (λ (t : List ℕ). t ++ rest) l.1)
items_none A (x ∷ xs) text rest l bytes e = let k = l.0 in absurd cc

items_out : {X : Type 0} (A : X → Language) (WA : X → Type 0) (n : ℕ) (ys : List X) (text : List ℕ) → Counted A (suc n) ys text → (p : X × List X) × (A p.0 ⨾ Counted A n p.1) text × (p.0 ∷ p.1 ≡ ys) × (AllByRecursion WA ys → WA p.0 × AllByRecursion WA p.1)
items_out A WA n [] text l = let k = l.0 in absurd cc
items_out A WA n (y ∷ ys) text l = ((y, ys), record { front = l.1.front; back = l.1.back; parts = l.1.parts; is_first = l.1.is_first; is_second = (let k = l.0 in omega arith, l.1.is_second) }, refl, λ w. w)

-- ---- as many items as are asked for

pub items_exact : {X : Type 0} (A : X → Language) (WA : X → Type 0) (item : List ℕ → Reading X) → Exact A WA item → (n : ℕ) → Exact (Counted A n) (AllByRecursion WA) (items_at item n)
unfolding items_at
items_exact A WA item f zero bytes = record { found = ([], refl, (refl, refl), tt); only = λ xs text rest l e. items_none A xs text rest l bytes e }
items_exact {X} A WA item f (suc n) bytes =
    as_exact (λ (p : X × List X). p.0 ∷ p.1) (λ (p : X × List X). A p.0 ⨾ Counted A n p.1) (λ (p : X × List X). WA p.0 × AllByRecursion WA p.1) (Counted A (suc n)) (AllByRecursion WA) (then_at item (λ _. items_at item n))
    (λ p text l. (ap suc l.is_second.0, record { front = l.front; back = l.back; parts = l.parts; is_first = l.is_first; is_second = l.is_second.1 }))
    (λ p w. w)
    (items_out A WA n)
    (then_exact A (λ _. Counted A n) WA (λ _. AllByRecursion WA) item (λ _. items_at item n) f (λ _. items_exact A WA item f n)) bytes

-- ---- a count and its items

pub vector_exact : {X : Type 0} (A : X → Language) (WA : X → Type 0) (item : List ℕ → Reading X) → Exact A WA item → Exact (vector A) (AllByRecursion WA) (vector_at item)
vector_exact {X} A WA item f =
    as_exact (λ (p : ℕ × List X). p.1) (λ (p : ℕ × List X). u32 p.0 ⨾ Counted A p.0 p.1) (λ (p : ℕ × List X). Unit {0} × AllByRecursion WA p.1) (vector A) (AllByRecursion WA) (then_at u32_at (items_at item))
    (λ p text l. record { front = l.front; back = l.back; parts = l.parts; is_first = subst (λ (n : ℕ). u32 n l.front) (sym l.is_second.0) l.is_first; is_second = l.is_second.1 })
    (λ p w. w.1)
    (λ xs text l. ((length xs, xs), record { front = l.front; back = l.back; parts = l.parts; is_first = l.is_first; is_second = (refl, l.is_second) }, refl, λ w. (tt, w)))
    (then_exact u32 (Counted A) always (λ _. AllByRecursion WA) u32_at (items_at item) u32_exact (items_exact A WA item f))

-- ---- parts that have no limits

free_by : {X : Type 0} (A : X → Language) (W : X → Type 0) (bytes : List ℕ) (r : Reading X) → ((x : X) → W x) → Answers A W bytes r → Answers A (λ (x : X). Unit {0}) bytes r
free_by A W bytes (Ok p) w f = record { found = (f.found.0, f.found.1, f.found.2, tt); only = f.only }
free_by A W bytes (Err Malformed) w f = record { found = tt; only = f.only }
free_by A W bytes (Err Oversized) w f = record { found = tt; only = λ x text rest l e. λ _. f.only x text rest l e (w x) }

pub free : {X : Type 0} (A : X → Language) (W : X → Type 0) (read : List ℕ → Reading X) → ((x : X) → W x) → Exact A W read → Exact A (λ (x : X). Unit {0}) read
free A W read w f bytes = free_by A W bytes (read bytes) w (f bytes)

pub all_free : {X : Type 0} (xs : List X) → AllByRecursion (λ (x : X). Unit {0}) xs
all_free [] = tt
all_free (x ∷ xs) = (tt, all_free xs)

pub free_vector : {X : Type 0} (A : X → Language) (item : List ℕ → Reading X) → Exact A (λ (x : X). Unit {0}) item → Exact (vector A) (λ (xs : List X). Unit {0}) (vector_at item)
free_vector A item f = free (vector A) (AllByRecursion (λ x. Unit {0})) (vector_at item) all_free (vector_exact A (λ x. Unit {0}) item f)

-- one after the other
pub free_pair : {X Y : Type 0} (A : X → Language) (B : Y → Language) (first : List ℕ → Reading X) (second : List ℕ → Reading Y) → Exact A (λ (x : X). Unit {0}) first → Exact B (λ (y : Y). Unit {0}) second
    → Exact (λ (p : X × Y). A p.0 ⨾ B p.1) (λ (p : X × Y). Unit {0}) (then_at first (λ _. second))
free_pair {X} {Y} A B first second f s =
    free (λ (p : X × Y). A p.0 ⨾ B p.1) (λ (p : X × Y). Unit {0} × Unit {0}) (then_at first (λ _. second)) (λ p. (tt, tt)) (then_exact A (λ _. B) (λ _. Unit {0}) (λ _ _. Unit {0}) first (λ _. second) f (λ _. s))

-- ---- a vector of bytes

counted_by : (n : ℕ) (bytes behind : List ℕ) (front : List ℕ) → u32 n front → bytes ≡ front ++ behind → ((m : ℕ) (text rest : List ℕ) → u32 m text → bytes ≡ text ++ rest → ◌≡◌ {A = ℕ × List ℕ} (n, behind) (m, rest)) → (t : Bool) → ltb (length behind) n ≡ t
    → Answers byte_vector always bytes (cond t (Err Malformed) (Ok (take n behind, drop n behind)))
counted_by n bytes behind front l e same true t =
    record {
      found = tt;
      only = λ xs text rest p h.
          let k : ◌≡◌ {A = ℕ × List ℕ} (n, behind) (length xs, p.back ++ rest) = same (length xs) p.front (p.back ++ rest) p.is_first (h ∙ ap (λ (x : List ℕ). x ++ rest) p.parts ∙ append_assoc p.front p.back rest) in
          let k0 : n ≡ length xs = ap (λ (q : ℕ × List ℕ). q.0) k in
          let k1 : length behind ≡ length xs + length rest = ap (λ (q : ℕ × List ℕ). length q.1) k ∙ length-append p.back rest ∙ ap (λ (x : List ℕ). length x + length rest) p.is_second in
          absurd (omega (arith, ltb-true _ _ t));
    }
counted_by n bytes behind front l e same false t =
    let le : n ≤ length behind = ltb-false _ _ t in
    let len : length (take n behind) ≡ n = omega (arith, length-take n behind) in
    record {
      found = (front ++ take n behind, e ∙ ap (λ (x : List ℕ). front ++ x) (sym (take-append-drop n behind)) ∙ sym (append_assoc front (take n behind) (drop n behind)), record { front = front; back = take n behind; parts = refl; is_first = subst (λ (m : ℕ). u32 m front) (sym len) l; is_second = refl }, tt);
      only = λ xs text rest p h.
          let k : ◌≡◌ {A = ℕ × List ℕ} (n, behind) (length xs, p.back ++ rest) = same (length xs) p.front (p.back ++ rest) p.is_first (h ∙ ap (λ (x : List ℕ). x ++ rest) p.parts ∙ append_assoc p.front p.back rest) in
          let k0 : length xs ≡ n = sym (ap (λ (q : ℕ × List ℕ). q.0) k) in
          let k1 : behind ≡ xs ++ rest = ap (λ (q : ℕ × List ℕ). q.1) k ∙ ap (λ (x : List ℕ). x ++ rest) p.is_second in
          let a : take n behind ≡ xs = ap (take n) k1 ∙ take_at xs rest n k0 in
          let b : drop n behind ≡ rest = ap (drop n) k1 ∙ drop_at xs rest n k0 in
          cc;
    }

byte_vector_by : (bytes : List ℕ) (r : Reading ℕ) → Answers u32 always bytes r → Answers byte_vector always bytes (r >>= λ n. cond (ltb (length n.1) n.0) (Err Malformed) (Ok (take n.0 n.1, drop n.0 n.1)))
byte_vector_by bytes (Ok p) f = counted_by p.0 bytes p.1 f.found.0 f.found.2 f.found.1 (λ m text rest l e. f.only m text rest l e) (ltb (length p.1) p.0) refl
byte_vector_by bytes (Err Malformed) f = record { found = tt; only = λ xs text rest p h. f.only (length xs) p.front (p.back ++ rest) p.is_first (h ∙ ap (λ (x : List ℕ). x ++ rest) p.parts ∙ append_assoc p.front p.back rest) }
byte_vector_by bytes (Err Oversized) f = record { found = tt; only = λ xs text rest p h. λ w. f.only (length xs) p.front (p.back ++ rest) p.is_first (h ∙ ap (λ (x : List ℕ). x ++ rest) p.parts ∙ append_assoc p.front p.back rest) w }

pub byte_vector_exact : Exact byte_vector always byte_vector_at
byte_vector_exact bytes = byte_vector_by bytes (u32_at bytes) (u32_exact bytes)

name_test : (bytes : List ℕ) (p : List ℕ × List ℕ) (t : Bool) → is_utf8 p.0 ≡ t → Answers byte_vector always bytes (Ok p) → Answers name always bytes (cond t (Ok p) (Err Malformed))
name_test bytes p true t f = record { found = (f.found.0, f.found.1, (IsUtf8-from_is_utf8 p.0 t, f.found.2), tt); only = λ xs text rest l e. f.only xs text rest l.1 e }
name_test bytes p false t f = record {
  found = tt;
  only = λ xs text rest l e.
      let same : p.0 ≡ xs = ap (λ (q : List ℕ × List ℕ). q.0) (f.only xs text rest l.1 e) in
      let yes_it : is_utf8 p.0 ≡ true = ap is_utf8 same ∙ is_utf8-from_IsUtf8 xs l.0 in
      absurd cc;
}

name_by : (bytes : List ℕ) (r : Reading (List ℕ)) → Answers byte_vector always bytes r → Answers name always bytes (r >>= λ p. cond (is_utf8 p.0) (Ok p) (Err Malformed))
name_by bytes (Ok p) f = name_test bytes p (is_utf8 p.0) refl f
name_by bytes (Err Malformed) f = record { found = tt; only = λ xs text rest l e. f.only xs text rest l.1 e }
name_by bytes (Err Oversized) f = record { found = tt; only = λ xs text rest l e. f.only xs text rest l.1 e }

pub name_exact : Exact name always name_at
name_exact bytes = name_by bytes (byte_vector_at bytes) (byte_vector_exact bytes)

-- ---- a number that keeps a limit, where limits hold

abbrev pub Keeps : Bool → ℕ → ℕ → ℕ → Type 0
Keeps limited most used n = limited ≡ true → used + n ≤ most

limited_by : (limited : Bool) (most used : ℕ) (bytes : List ℕ) (p : ℕ × List ℕ) (t : Bool) → ltb most (used + p.0) ≡ t → Answers u32 always bytes (Ok p) → Answers u32 (Keeps limited most used) bytes (cond (limited && t) (Err Oversized) (Ok p))
limited_by true most used bytes p true t f = record { found = tt; only = λ n text rest l e. λ w. let h : p.0 ≡ n = ap (λ (q : ℕ × List ℕ). q.0) (f.only n text rest l e) in absurd (omega (arith, ltb-true _ _ t, h, w refl)) }
limited_by true most used bytes p false t f = record { found = (f.found.0, f.found.1, f.found.2, λ _. ltb-false _ _ t); only = f.only }
limited_by false most used bytes p t u f = record { found = (f.found.0, f.found.1, f.found.2, λ e. absurd cc); only = f.only }

limited_of : (limited : Bool) (most used : ℕ) (bytes : List ℕ) (r : Reading ℕ) → Answers u32 always bytes r → Answers u32 (Keeps limited most used) bytes (r >>= λ n. cond (limited && ltb most (used + n.0)) (Err Oversized) (Ok n))
limited_of limited most used bytes (Ok p) f = limited_by limited most used bytes p (ltb most (used + p.0)) refl f
limited_of limited most used bytes (Err Malformed) f = record { found = tt; only = f.only }
limited_of limited most used bytes (Err Oversized) f = record { found = tt; only = λ n text rest l e. λ w. f.only n text rest l e tt }

pub limited_exact : (limited : Bool) (most used : ℕ) → Exact u32 (Keeps limited most used) (limited_at limited most used)
limited_exact limited most used bytes = limited_of limited most used bytes (u32_at bytes) (u32_exact bytes)

-- ---- a first byte that names a kind, and what stands behind a byte of that kind

pub first_byte : (b c : ℕ) (bs text rest : List ℕ) → byte b text → c ∷ bs ≡ text ++ rest → (c ≡ b) × (bs ≡ rest)
first_byte b c bs text rest l e = let k : c ∷ bs ≡ b ∷ rest = e ∙ ap (λ (t : List ℕ). t ++ rest) l in (cc, cc)

pub no_byte : (b : ℕ) (text rest : List ℕ) → byte b text → [] ≡ text ++ rest → ⊥
no_byte b text rest l e = let k : [] ≡ b ∷ rest = e ∙ ap (λ (t : List ℕ). t ++ rest) l in absurd cc

module _ {K X : Type 0} (code : K → ℕ) (pick : ℕ → Option K) (again : (k : K) → pick (code k) ≡ Some k) (known : (c : ℕ) (k : K) → pick c ≡ Some k → code k ≡ c)
    (kind : X → K) (B : X → Language) (W : X → Type 0) (read : K → List ℕ → Reading X)
    (found : (k : K) (bytes : List ℕ) → Found (λ x text. (kind x ≡ k) × B x text) W bytes (read k bytes))
    (only : (x : X) (bytes text rest : List ℕ) → B x text → bytes ≡ text ++ rest → Told W (read (kind x) bytes) x rest) where
  abbrev Kinds : X → Language
  Kinds x = byte (code (kind x)) ⨾ B x

  with_kind : (c : ℕ) (bs : List ℕ) (k : K) → code k ≡ c → (r : Reading X) → Found (λ x text. (kind x ≡ k) × B x text) W bs r → Found Kinds W (c ∷ bs) r
  with_kind c bs k is (Ok p) f =
      (c ∷ f.0, ap (λ (t : List ℕ). c ∷ t) f.1, record { front = c ∷ []; back = f.0; parts = refl; is_first = ap (λ (x : ℕ). x ∷ []) (sym (ap code f.2.0 ∙ is)); is_second = f.2.1 }, f.3)
  with_kind c bs k is (Err e) f = tt

  kind_found : (c : ℕ) (bs : List ℕ) (o : Option K) → pick c ≡ o → Found Kinds W (c ∷ bs) (or_malformed o >>= λ k. read k bs)
  kind_found c bs None is = tt
  kind_found c bs (Some k) is = with_kind c bs k (known c k is) (read k bs) (found k bs)

  kind_only : (c : ℕ) (bs : List ℕ) (x : X) (text rest : List ℕ) → Kinds x text → c ∷ bs ≡ text ++ rest → Told W (or_malformed (pick c) >>= λ k. read k bs) x rest
  kind_only c bs x text rest l e =
      let e2 : c ∷ bs ≡ l.front ++ (l.back ++ rest) = e ∙ ap (λ (t : List ℕ). t ++ rest) l.parts ∙ append_assoc l.front l.back rest in
      let b = first_byte (code (kind x)) c bs l.front (l.back ++ rest) l.is_first e2 in
      let is : pick c ≡ Some (kind x) = ap pick b.0 ∙ again (kind x) in
      rw is (only x bs l.back rest l.is_second b.1)

  pub kind_exact : Exact (λ (x : X). byte (code (kind x)) ⨾ B x) W (kind_at pick read)
  kind_exact [] = record { found = tt; only = λ x text rest l e. absurd (no_byte (code (kind x)) l.front (l.back ++ rest) l.is_first (e ∙ ap (λ (t : List ℕ). t ++ rest) l.parts ∙ append_assoc l.front l.back rest)) }
  kind_exact (c ∷ bs) = record { found = kind_found c bs (pick c) refl; only = kind_only c bs }

-- the same, where there is a law for each kind
pub kinds_exact : {K X : Type 0} (code : K → ℕ) (pick : ℕ → Option K) → ((k : K) → pick (code k) ≡ Some k) → ((c : ℕ) (k : K) → pick c ≡ Some k → code k ≡ c) → (kind : X → K) (B : X → Language) (W : X → Type 0) (read : K → List ℕ → Reading X)
    → ((k : K) → Exact (λ x text. (kind x ≡ k) × B x text) W (read k)) → Exact (λ (x : X). byte (code (kind x)) ⨾ B x) W (kind_at pick read)
kinds_exact code pick again known kind B W read f =
    kind_exact code pick again known kind B W read (λ k bytes. (f k bytes).found) (λ x bytes text rest l e. (f (kind x) bytes).only x text rest (refl, l) e)

-- a first byte that says it all
pub choice_exact : {K : Type 0} (code : K → ℕ) (pick : ℕ → Option K) → ((k : K) → pick (code k) ≡ Some k) → ((c : ℕ) (k : K) → pick c ≡ Some k → code k ≡ c) → Exact (λ (k : K). byte (code k)) always (kind_at pick (λ k bytes. Ok (k, bytes)))
choice_exact {K} code pick again known bytes =
    let f = kind_exact code pick again known (λ k. k) (λ _. nothing) always (λ k bytes. Ok (k, bytes)) (λ k bytes. ([], refl, (refl, refl), tt)) (λ k bytes text rest l e. ap (λ (r : List ℕ). (k, r)) (e ∙ ap (λ (t : List ℕ). t ++ rest) l)) bytes in
    choice_from code bytes (kind_at pick (λ k bs. Ok (k, bs)) bytes) f
  where
    choice_from : {K : Type 0} (code : K → ℕ) (bytes : List ℕ) (r : Reading K) → Answers (λ (k : K). byte (code k) ⨾ nothing) always bytes r → Answers (λ (k : K). byte (code k)) always bytes r
    choice_from code bytes (Ok p) f = record {
      found = let l = f.found.2 in (f.found.0, f.found.1, l.parts ∙ ap (λ (t : List ℕ). l.front ++ t) l.is_second ∙ append-nil l.front ∙ l.is_first, tt);
      only = λ k text rest l e. f.only k text rest (record { front = text; back = []; parts = sym (append-nil text); is_first = l; is_second = refl }) e;
    }
    choice_from code bytes (Err e) f = record { found = tt; only = λ k text rest l h. f.only k text rest (record { front = text; back = []; parts = sym (append-nil text); is_first = l; is_second = refl }) h }

-- ---- a whole content

all_by : {X : Type 0} (A : X → Language) (W : X → Type 0) (content : List ℕ) (x : X) (behind : List ℕ) → Answers A W content (Ok (x, behind)) → AnswersAll A W content (end_at behind >>= λ _. Ok x)
all_by {X} A W content y [] f =
    let same : content ≡ f.found.0 = f.found.1 ∙ append-nil f.found.0 in
    record { found = (subst (A y) (sym same) f.found.2, f.found.3); only = λ x l. ap (λ (q : X × List ℕ). q.0) (f.only x content [] l (sym (append-nil content))) }
all_by {X} A W content y (b ∷ bs) f =
    record { found = tt; only = λ x l. let k : b ∷ bs ≡ [] = ap (λ (q : X × List ℕ). q.1) (f.only x content [] l (sym (append-nil content))) in absurd cc }

pub all_exact : {X : Type 0} (A : X → Language) (W : X → Type 0) (content : List ℕ) (r : Reading X) → Answers A W content r → AnswersAll A W content (all_of r)
all_exact A W content (Ok p) f = all_by A W content p.0 p.1 f
all_exact A W content (Err Malformed) f = record { found = tt; only = λ x l. f.only x content [] l (sym (append-nil content)) }
all_exact A W content (Err Oversized) f = record { found = tt; only = λ x l. f.only x content [] l (sym (append-nil content)) }

sized_with : {X : Type 0} (A : X → Language) (W : X → Type 0) (bytes : List ℕ) (p : List ℕ × List ℕ) → Answers byte_vector always bytes (Ok p) → (r : Result X Fault) → AnswersAll A W p.0 r → Answers (λ (x : X). sized (A x)) W bytes (r >>= λ x. Ok (x, p.1))
sized_with {X} A W bytes p f (Ok y) s =
    record {
      found = (f.found.0, f.found.1, (p.0, s.found.0, f.found.2), s.found.1);
      only = λ x text rest l e.
          let here : p ≡ (l.0, rest) = f.only l.0 text rest l.2 e in
          let same : y ≡ x = s.only x (subst (A x) (sym (ap (λ (q : List ℕ × List ℕ). q.0) here)) l.1) in
          let behind : p.1 ≡ rest = ap (λ (q : List ℕ × List ℕ). q.1) here in
          cc;
    }
sized_with A W bytes p f (Err Malformed) s = record { found = tt; only = λ x text rest l e. s.only x (subst (A x) (sym (ap (λ (q : List ℕ × List ℕ). q.0) (f.only l.0 text rest l.2 e))) l.1) }
sized_with A W bytes p f (Err Oversized) s = record { found = tt; only = λ x text rest l e. s.only x (subst (A x) (sym (ap (λ (q : List ℕ × List ℕ). q.0) (f.only l.0 text rest l.2 e))) l.1) }

sized_by : {X : Type 0} (A : X → Language) (W : X → Type 0) (whole : List ℕ → Result X Fault) → ExactAll A W whole → (bytes : List ℕ) (r : Reading (List ℕ)) → Answers byte_vector always bytes r
    → Answers (λ (x : X). sized (A x)) W bytes (r >>= λ p. whole p.0 >>= λ x. Ok (x, p.1))
sized_by A W whole g bytes (Ok p) f = sized_with A W bytes p f (whole p.0) (g p.0)
sized_by A W whole g bytes (Err Malformed) f = record { found = tt; only = λ x text rest l e. f.only l.0 text rest l.2 e }
sized_by A W whole g bytes (Err Oversized) f = record { found = tt; only = λ x text rest l e. λ w. f.only l.0 text rest l.2 e tt }

pub sized_all_exact : {X : Type 0} (A : X → Language) (W : X → Type 0) (whole : List ℕ → Result X Fault) → ExactAll A W whole → Exact (λ (x : X). sized (A x)) W (sized_all_at whole)
sized_all_exact A W whole g bytes = sized_by A W whole g bytes (byte_vector_at bytes) (byte_vector_exact bytes)

pub sized_exact : {X : Type 0} (A : X → Language) (W : X → Type 0) (read : List ℕ → Reading X) → Exact A W read → Exact (λ (x : X). sized (A x)) W (sized_at read)
sized_exact A W read f = sized_all_exact A W (λ content. all_of (read content)) (λ content. all_exact A W content (read content) (f content))

-- ---- what is behind is shorter

pub shrinks : {X : Type 0} (A : X → Language) (W : X → Type 0) (bytes : List ℕ) (x : X) (rest : List ℕ) (r : Reading X) → Answers A W bytes r → r ≡ Ok (x, rest) → length rest ≤ length bytes
shrinks A W bytes x rest (Ok p) f e =
    let same : length rest ≡ length p.1 = ap (λ (r : Reading _). rest_length r) (sym e) in
    omega (arith, ap length f.found.1, length-append f.found.0 p.1)
  where
    rest_length : {X : Type 0} → Reading X → ℕ
    rest_length (Ok p) = length p.1
    rest_length (Err e) = 0
shrinks A W bytes x rest (Err d) f e = absurd cc

-- a language that is spelled by the same texts
pub alike_all : {X : Type 0} (A B : X → Language) (V W : X → Type 0) (content : List ℕ) (r : Result X Fault) → ((x : X) → A x content → B x content) → ((x : X) → B x content → A x content) → ((x : X) → V x → W x) → ((x : X) → W x → V x)
    → AnswersAll A V content r → AnswersAll B W content r
alike_all A B V W content (Ok x) into from fits back f = record { found = (into x f.found.0, fits x f.found.1); only = λ y l. f.only y (from y l) }
alike_all A B V W content (Err Malformed) into from fits back f = record { found = tt; only = λ y l. f.only y (from y l) }
alike_all A B V W content (Err Oversized) into from fits back f = record { found = tt; only = λ y l. λ w. f.only y (from y l) (back y w) }

pub alike : {X : Type 0} (A B : X → Language) (V W : X → Type 0) (bytes : List ℕ) (r : Reading X) → ((x : X) (text : List ℕ) → A x text → B x text) → ((x : X) (text : List ℕ) → B x text → A x text) → ((x : X) → V x → W x) → ((x : X) → W x → V x)
    → Answers A V bytes r → Answers B W bytes r
alike A B V W bytes (Ok p) into from fits back f = record { found = (f.found.0, f.found.1, into p.0 f.found.0 f.found.2, fits p.0 f.found.3); only = λ x text rest l e. f.only x text rest (from x text l) e }
alike A B V W bytes (Err Malformed) into from fits back f = record { found = tt; only = λ x text rest l e. f.only x text rest (from x text l) e }
alike A B V W bytes (Err Oversized) into from fits back f = record { found = tt; only = λ x text rest l e. λ w. f.only x text rest (from x text l) e (back x w) }
