-- What the reader of a module answers, in the words of the grammar.
use Rattle.std.proofs.Common.{◌≡◌, ℕ, ◌≤◌, ◌⊎◌, inl, inr, Bool, true, false, cond, eqb, List, [], ◌∷◌, ◌++◌, length, Result, Ok, Err, refl, sym, ap, subst, ◌∙◌, arith}
use Rattle.std.specs.List.{AllByRecursion}
use Rattle.std.proofs.lemmas.Bool.{eqb-true}
use Rattle.std.proofs.lemmas.List.{append_cancel_left}
use Rattle.binary_decoder.specs.Language.{Language, exactly, ◌⨾◌}
use Rattle.binary_decoder.specs.Fault.{Fault, Malformed, Oversized, ◌>>=◌}
use Rattle.binary_decoder.proofs.ReadAnswers.{FoundAll, ToldAll, AnswersAll}
use Rattle.binary_decoder.proofs.ReadLaws.{Keeps}
use Rattle.std.proofs.lemmas.Bool.{eq-eqb}
use Rattle.binary_decoder.specs.declared.fault.DecodeFault.{DecodeFault}
use Rattle.binary_decoder.specs.declared.fault.DecodeFault.TheVariants.{Refused, TooLarge, NoMemory}
use Rattle.binary_decoder.specs.Moves.{Fails, IsRefused, IsTooLarge}
use Rattle.binary_decoder.specs.Grammar.{preamble, Spells}
use Rattle.wasm_types.specs.Limits.{Within}
use Rattle.binary_decoder.specs.First.{IsFirst}
use Rattle.binary_decoder.specs.Reader.{Parts, sections_at, prefix_at, parts_at}
use Rattle.binary_decoder.proofs.SectionLaws.{Whole1, Fits1, sections_exact}
use Rattle.wasm_types.specs.declared.modules.Limits.{Limits}
use Rattle.wasm_types.specs.declared.modules.MemoryType.{MemoryType}
use Rattle.wasm_types.specs.declared.modules.Import.{Import}
use Rattle.wasm_types.specs.declared.modules.Module.{Module}

abbrev err : DecodeFault → Result Module DecodeFault
err e = Err e

abbrev pub parts_of : Module → Parts
parts_of m = (m.types, (m.imports, (m.functions, (m.tables, (m.memories, (m.globals, (m.exports, (m.start, (m.elements, (m.bodies, (m.data, tt)))))))))))

abbrev Read : Parts → Language
Read p = exactly preamble ⨾ Whole1 p

-- ---- the preamble

prefix_again : (ps rest : List ℕ) → prefix_at ps (ps ++ rest) ≡ Ok rest
prefix_again [] rest = refl
prefix_again (p ∷ ps) rest = let t : eqb p p ≡ true = eq-eqb p p refl in rw t (prefix_again ps rest)

prefix_step : (p b : ℕ) (ps bs rest : List ℕ) (t : Bool) → eqb b p ≡ t → cond {A = Result (List ℕ) Fault} t (prefix_at ps bs) (Err Malformed) ≡ Ok rest → (prefix_at ps bs ≡ Ok rest → bs ≡ ps ++ rest) → b ∷ bs ≡ p ∷ (ps ++ rest)
prefix_step p b ps bs rest true t e ih = let same : b ≡ p = eqb-true _ _ t in let more = ih e in cc
prefix_step p b ps bs rest false t e ih = absurd cc

prefix_found : (ps bytes rest : List ℕ) → prefix_at ps bytes ≡ Ok rest → bytes ≡ ps ++ rest
prefix_found [] bytes rest e = cc
prefix_found (p ∷ ps) [] rest e = absurd cc
prefix_found (p ∷ ps) (b ∷ bs) rest e = prefix_step p b ps bs rest (eqb b p) refl e (prefix_found ps bs rest)

behind_prefix : (bytes rest : List ℕ) → bytes ≡ preamble ++ rest → (p : Parts) → Read p bytes → Whole1 p rest
behind_prefix bytes rest e p l =
    let same : preamble ++ rest ≡ preamble ++ l.back = sym e ∙ l.parts ∙ ap (λ (t : List ℕ). t ++ l.back) l.is_first in
    subst (Whole1 p) (sym (append_cancel_left preamble rest l.back same)) l.is_second

on_rest : (limited : Bool) (bytes rest : List ℕ) → bytes ≡ preamble ++ rest → (r : Result Parts Fault) → AnswersAll Whole1 (Fits1 limited) rest r → AnswersAll Read (Fits1 limited) bytes r
on_rest limited bytes rest e (Ok p) s = record { found = (record { front = preamble; back = rest; parts = e; is_first = refl; is_second = s.found.0 }, s.found.1); only = λ q l. s.only q (behind_prefix bytes rest e q l) }
on_rest limited bytes rest e (Err Malformed) s = record { found = tt; only = λ q l. s.only q (behind_prefix bytes rest e q l) }
on_rest limited bytes rest e (Err Oversized) s = record { found = tt; only = λ q l. s.only q (behind_prefix bytes rest e q l) }

no_prefix : (bytes : List ℕ) (f : Fault) → prefix_at preamble bytes ≡ Err f → (p : Parts) → Read p bytes → ⊥
no_prefix bytes f e p l =
    let same : bytes ≡ preamble ++ l.back = l.parts ∙ ap (λ (t : List ℕ). t ++ l.back) l.is_first in
    let ok : prefix_at preamble bytes ≡ Ok l.back = ap (prefix_at preamble) same ∙ prefix_again preamble l.back in
    absurd cc

parts_by : (limited : Bool) (bytes : List ℕ) (r : Result (List ℕ) Fault) → prefix_at preamble bytes ≡ r → AnswersAll Read (Fits1 limited) bytes (r >>= λ rest. sections_at limited rest)
parts_by limited bytes (Ok rest) e = on_rest limited bytes rest (prefix_found preamble bytes rest e) (sections_at limited rest) (sections_exact limited rest)
parts_by limited bytes (Err Malformed) e = record { found = tt; only = no_prefix bytes Malformed e }
parts_by limited bytes (Err Oversized) e = record { found = tt; only = λ p l. λ w. no_prefix bytes Oversized e p l }

parts_exact : (limited : Bool) (bytes : List ℕ) → AnswersAll Read (Fits1 limited) bytes (parts_at limited bytes)
unfolding parts_at
parts_exact limited bytes = parts_by limited bytes (prefix_at preamble bytes) refl

-- ---- the limits

all_with : {X : Type 0} (P Q : X → Type 0) → ((x : X) → P x → Q x) → (xs : List X) → AllByRecursion P xs → AllByRecursion Q xs
all_with P Q f [] w = tt
all_with P Q f (x ∷ xs) w = (f x w.0, all_with P Q f xs w.1)

all_kept : {X : Type 0} (most : ℕ) (size : X → ℕ) (xs : List X) → AllByRecursion (λ (x : X). Keeps false most 0 (size x)) xs
all_kept most size [] = tt
all_kept most size (x ∷ xs) = (λ e. absurd cc, all_kept most size xs)

within_from : (m : Module) → length m.source ≤ 1048576 → Fits1 true (parts_of m) → Within m
within_from m le w =
    record {
      bytes = le;
      imports = all_with (λ (i : Import). Keeps true 256 0 i.memory.limits.minimum) (λ (i : Import). i.memory.limits.minimum ≤ 256) (λ i h. omega (arith, h refl)) m.imports w.1.0;
      tables = all_with (λ (l : Limits). Keeps true 4096 0 l.minimum) (λ (l : Limits). l.minimum ≤ 4096) (λ l h. omega (arith, h refl)) m.tables w.1.1.1.0;
      memories = all_with (λ (y : MemoryType). Keeps true 256 0 y.limits.minimum) (λ (y : MemoryType). y.limits.minimum ≤ 256) (λ y h. omega (arith, h refl)) m.memories w.1.1.1.1.0;
      functions = w.1.1.1.1.1.1.1.1.1.0 refl;
    }

fits_from : (m : Module) → Within m → Fits1 true (parts_of m)
fits_from m w = (
  tt,
  (
    all_with (λ (i : Import). i.memory.limits.minimum ≤ 256) (λ (i : Import). Keeps true 256 0 i.memory.limits.minimum) (λ i h. λ e. omega (arith, h)) m.imports w.imports,
    (
      tt,
      (
        all_with (λ (l : Limits). l.minimum ≤ 4096) (λ (l : Limits). Keeps true 4096 0 l.minimum) (λ l h. λ e. omega (arith, h)) m.tables w.tables,
        (
          all_with (λ (y : MemoryType). y.limits.minimum ≤ 256) (λ (y : MemoryType). Keeps true 256 0 y.limits.minimum) (λ y h. λ e. omega (arith, h)) m.memories w.memories,
          (tt, (tt, (tt, (tt, (λ e. w.functions, (tt, tt)))))),
        ),
      ),
    ),
  ),
)

no_limits : (p : Parts) → Fits1 false p
no_limits p = (
  tt,
  (
    all_kept 256 (λ (i : Import). i.memory.limits.minimum) p.1.0,
    (
      tt,
      (
        all_kept 4096 (λ (l : Limits). l.minimum) p.1.1.1.0,
        (
          all_kept 256 (λ (y : MemoryType). y.limits.minimum) p.1.1.1.1.0,
          (tt, (tt, (tt, (tt, (λ e. absurd cc, (tt, tt)))))),
        ),
      ),
    ),
  ),
)

-- ---- what is answered

pub judged_found : (bytes : List ℕ) (m : Module) → m.source ≡ bytes → length bytes ≤ 1048576 → parts_at true bytes ≡ Ok (parts_of m) → Spells m bytes × Within m
judged_found bytes m source le e =
    let f : FoundAll Read (Fits1 true) bytes (Ok (parts_of m)) = subst (FoundAll Read (Fits1 true) bytes) e (parts_exact true bytes).found in
    (record { source = source; spelled = f.0 }, within_from m (rw source le) f.1)

judged_refused : (bytes : List ℕ) → parts_at true bytes ≡ Err Malformed → (m : Module) → Spells m bytes → ⊥
judged_refused bytes e m s = subst (λ (r : Result Parts Fault). ToldAll (Fits1 true) r (parts_of m)) e ((parts_exact true bytes).only (parts_of m) s.spelled)

judged_large : (bytes : List ℕ) → parts_at true bytes ≡ Err Oversized → (m : Module) → Spells m bytes → Within m → ⊥
judged_large bytes e m s w = subst (λ (r : Result Parts Fault). ToldAll (Fits1 true) r (parts_of m)) e ((parts_exact true bytes).only (parts_of m) s.spelled) (fits_from m w)

pub refused_when : (bytes : List ℕ) (e : DecodeFault) → Fails e (parts_at true bytes) → IsRefused (err e) → (m : Module) → Spells m bytes → ⊥
refused_when bytes NoMemory f h = absurd h
refused_when bytes (TooLarge limit count place) f h = absurd h
refused_when bytes (Refused at place cause) f h = judged_refused bytes f

pub large_when : (bytes : List ℕ) (e : DecodeFault) → Fails e (parts_at true bytes) → IsTooLarge (err e) → (m : Module) → Spells m bytes → Within m → ⊥
large_when bytes NoMemory f h = absurd h
large_when bytes (TooLarge limit count place) f h = judged_large bytes f
large_when bytes (Refused at place cause) f h = absurd h

pub first_when : (bytes : List ℕ) (e : DecodeFault) → length bytes ≤ 1048576 → Fails e (parts_at true bytes) → IsFirst bytes e
first_when bytes NoMemory le f = tt
first_when bytes (TooLarge limit count place) le f = inr f
first_when bytes (Refused at place cause) le f = (le, f)

-- ---- one module

abbrev made : List ℕ → Parts → Module
made source p = record { source = source; types = p.0; imports = p.1.0; functions = p.1.1.0; tables = p.1.1.1.0; memories = p.1.1.1.1.0; globals = p.1.1.1.1.1.0; exports = p.1.1.1.1.1.1.0; start = p.1.1.1.1.1.1.1.0; elements = p.1.1.1.1.1.1.1.1.0; bodies = p.1.1.1.1.1.1.1.1.1.0; «data» = p.1.1.1.1.1.1.1.1.1.1.0 }

same_by : (p q : Parts) (r : Result Parts Fault) → ToldAll (Fits1 false) r p → ToldAll (Fits1 false) r q → p ≡ q
same_by p q (Ok x) f g = sym f ∙ g
same_by p q (Err Malformed) f g = absurd f
same_by p q (Err Oversized) f g = absurd (f (no_limits p))

pub one_module_is : (m n : Module) (bytes : List ℕ) → Spells m bytes → Spells n bytes → m ≡ n
one_module_is m n bytes s t =
    let same : parts_of m ≡ parts_of n = same_by (parts_of m) (parts_of n) (parts_at false bytes) ((parts_exact false bytes).only (parts_of m) s.spelled) ((parts_exact false bytes).only (parts_of n) t.spelled) in
    let source : m.source ≡ n.source = s.source ∙ sym t.source in
    ap (λ (x : List ℕ). record m { source = x }) source ∙ ap (λ (p : Parts). made n.source p) same
