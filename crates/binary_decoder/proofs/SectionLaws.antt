-- The reader of all sections answers by the grammar of modules, within the limits.
use Rattle.std.proofs.Common.{◌≡◌, ℕ, Bool, true, false, cond, eqb, List, [], ◌∷◌, length, Option, Some, None, Result, Ok, Err, refl, sym, ap, subst, ◌∙◌, arith, inl, inr}
use Rattle.std.specs.Prelude.{map}
use Rattle.std.specs.List.{AllByRecursion}
use Rattle.std.proofs.lemmas.Bool.{eqb-true, eqb-false}
use Rattle.std.proofs.lemmas.List.{append-nil, length-map}
use Rattle.binary_decoder.specs.Language.{Language, ◌⨾◌, u32, vector}
use Rattle.binary_decoder.specs.Fault.{Fault, Malformed, Oversized, ◌>>=◌}
use Rattle.binary_decoder.specs.Reading.{u32_at, vector_at, end_at}
use Rattle.binary_decoder.proofs.ReadAnswers.{Exact, AnswersAll, ExactAll, always}
use Rattle.binary_decoder.proofs.ReadLaws.{as_exact, u32_exact, vector_exact, free_vector, Keeps, alike_all}
use Rattle.binary_decoder.specs.Grammar.{func_type, import, table_type, memory_type, global, export, start, element, data_segment, body, section, code_section, customs}
use Rattle.wasm_types.specs.Limits.{params_of}
use Rattle.binary_decoder.specs.Reader.{func_type_at, import_at, table_type_at, memory_type_at, global_at, export_at, element_at, data_at, start_at, code_at, skipped, end_sections_at, slot_at, AfterCode, AfterStart, AfterMemories, Parts, after_code_at, code_slot_at, after_start_at, after_memories_at, sections_at}
use Rattle.binary_decoder.proofs.PartLaws.{func_type_exact, import_exact, table_type_exact, memory_type_exact, global_exact, export_exact, element_exact, data_exact}
use Rattle.binary_decoder.proofs.FunctionLaws.{Fits_all, Code, code_exact}
use Rattle.binary_decoder.proofs.CustomLaws.{skipped_found, skipped_settled, customs_skipped}
use Rattle.binary_decoder.proofs.SlotLaws.{Tail, Settles, slot}
use Rattle.wasm_types.specs.declared.modules.FuncType.{FuncType}
use Rattle.wasm_types.specs.declared.modules.Limits.{Limits}
use Rattle.wasm_types.specs.declared.modules.MemoryType.{MemoryType}
use Rattle.wasm_types.specs.declared.modules.Import.{Import}
use Rattle.wasm_types.specs.declared.modules.Export.{Export}
use Rattle.wasm_types.specs.declared.modules.Body.{Body}

-- ---- the end

abbrev Ended : List ℕ → List Body → Unit {0} → Language
Ended functions bodies u text = (length functions ≡ length bodies) × customs text

customs_settle : (text : List ℕ) → customs text → skipped text ≡ Ok []
customs_settle text l = ap skipped (sym (append-nil text)) ∙ customs_skipped text [] l ∙ skipped_settled [] tt

ended_settles : (functions : List ℕ) (bodies : List Body) (u : Unit {0}) → Settles 11 (Ended functions bodies u)
ended_settles functions bodies u text l = ([], customs_settle text l.1, (l.0, ([], refl)), tt)

abbrev counted : Bool → Result (Unit {0}) Fault
counted s = cond s (Ok tt) (Err Malformed)

ended_test : (functions : List ℕ) (bodies : List Body) (bytes : List ℕ) (s : Bool) → eqb (length functions) (length bodies) ≡ s → customs bytes → AnswersAll (Ended functions bodies) always bytes (counted s)
ended_test functions bodies bytes true s c = record { found = ((eqb-true _ _ s, c), tt); only = λ u l. refl }
ended_test functions bodies bytes false s c = record { found = tt; only = λ u l. eqb-false _ _ s l.0 }

ended_from : (functions : List ℕ) (bodies : List Body) (bytes rest : List ℕ) → skipped bytes ≡ Ok rest → AnswersAll (Ended functions bodies) always bytes (end_at rest >>= λ _. counted (eqb (length functions) (length bodies)))
ended_from functions bodies bytes [] e =
    let g = skipped_found bytes [] e in
    ended_test functions bodies bytes (eqb (length functions) (length bodies)) refl (subst customs (sym (g.2 ∙ append-nil g.0)) g.1)
ended_from functions bodies bytes (b ∷ bs) e = record { found = tt; only = λ u l. let k : ◌≡◌ {A = Result (List ℕ) Fault} (Ok []) (Ok (b ∷ bs)) = sym (customs_settle bytes l.1) ∙ e in absurd cc }

ended_by : (functions : List ℕ) (bodies : List Body) (bytes : List ℕ) (r : Result (List ℕ) Fault) → skipped bytes ≡ r → AnswersAll (Ended functions bodies) always bytes (r >>= λ rest. end_at rest >>= λ _. counted (eqb (length functions) (length bodies)))
ended_by functions bodies bytes (Ok rest) e = ended_from functions bodies bytes rest e
ended_by functions bodies bytes (Err f) e = not_read f e
  where
    not_read : (f : Fault) → skipped bytes ≡ Err f → AnswersAll (Ended functions bodies) always bytes (Err f)
    not_read Malformed e = record { found = tt; only = λ u l. let k = sym (customs_settle bytes l.1) ∙ e in absurd cc }
    not_read Oversized e = record { found = tt; only = λ u l. let k = sym (customs_settle bytes l.1) ∙ e in absurd cc }

ended : (functions : List ℕ) (bodies : List Body) → Tail 11 (Ended functions bodies) always (end_sections_at (length functions) (length bodies))
unfolding end_sections_at
ended functions bodies = record { exact = λ bytes. ended_by functions bodies bytes (skipped bytes) refl; settles = ended_settles functions bodies }

-- ---- the sections from the last to the first

abbrev Tail11 : List ℕ → List Body → AfterCode → Language
Tail11 functions bodies p = customs ⨾ (section 11 [] (vector data_segment) p.0 ⨾ Ended functions bodies p.1)

tail11 : (functions : List ℕ) (bodies : List Body) → Tail 10 (Tail11 functions bodies) (λ p. Unit {0} × Unit {0}) (after_code_at functions bodies)
unfolding after_code_at
tail11 functions bodies = slot 11 (omega arith) [] (vector data_segment) always (vector_at data_at) (free_vector data_segment data_at data_exact) tt
    (λ _. Ended functions bodies) (λ _. always) (λ _. end_sections_at (length functions) (length bodies)) (λ _. ended functions bodies) 10 (omega arith)

abbrev Tail10 : List ℕ → List ℕ → List Body × AfterCode → Language
Tail10 params functions p = customs ⨾ (section 10 [] (Code params) p.0 ⨾ Tail11 functions p.0 p.1)

abbrev Fits10 : Bool → List ℕ → List Body × AfterCode → Type 0
Fits10 limited params p = Fits_all limited params p.0 × (Unit {0} × Unit {0})

none_fit : (limited : Bool) (params : List ℕ) → Fits_all limited params []
none_fit limited [] e = tt
none_fit limited (n ∷ ns) e = tt

tail10 : (limited : Bool) (types : List FuncType) (functions : List ℕ) → Tail 9 (Tail10 (map (params_of types) functions) functions) (Fits10 limited (map (params_of types) functions)) (code_slot_at limited types functions)
unfolding code_slot_at
tail10 limited types functions = slot 10 (omega arith) [] (Code (map (params_of types) functions)) (Fits_all limited (map (params_of types) functions)) (code_at limited (map (params_of types) functions)) (code_exact limited (map (params_of types) functions)) (none_fit limited (map (params_of types) functions))
    (Tail11 functions) (λ _ p. Unit {0} × Unit {0}) (after_code_at functions) (tail11 functions) 9 (omega arith)

-- ---- the same by the grammar, which counts bodies at the code section

abbrev Part11 : AfterCode → Language
Part11 p = customs ⨾ (section 11 [] (vector data_segment) p.0 ⨾ customs)

abbrev Part10 : List ℕ → List Body × AfterCode → Language
Part10 functions p = customs ⨾ (code_section functions p.0 ⨾ Part11 p.1)

with_count : (params : List ℕ) (bs : List Body) (text : List ℕ) → length bs ≡ length params → section 10 [] (vector body) bs text → section 10 [] (Code params) bs text
with_count params bs text n (inl l) = inl l
with_count params bs text n (inr s) = inr (record { front = s.front; back = s.back; parts = s.parts; is_first = s.is_first; is_second = (s.is_second.0, (n, s.is_second.1), s.is_second.2) })

without_count : (params : List ℕ) (bs : List Body) (text : List ℕ) → section 10 [] (Code params) bs text → section 10 [] (vector body) bs text
without_count params bs text (inl l) = inl l
without_count params bs text (inr s) = inr (record { front = s.front; back = s.back; parts = s.parts; is_first = s.is_first; is_second = (s.is_second.0, s.is_second.1.1, s.is_second.2) })

into_part : (types : List FuncType) (functions : List ℕ) (p : List Body × AfterCode) (text : List ℕ) → Tail10 (map (params_of types) functions) functions p text → Part10 functions p text
into_part types functions p text l =
    let a = l.is_second in
    let b = a.is_second in
    let d = b.is_second in
    record {
      front = l.front;
      back = l.back;
      parts = l.parts;
      is_first = l.is_first;
      is_second =
          record {
            front = a.front;
            back = a.back;
            parts = a.parts;
            is_first = (sym d.is_second.0, without_count (map (params_of types) functions) p.0 a.front a.is_first);
            is_second =
                record {
                  front = b.front;
                  back = b.back;
                  parts = b.parts;
                  is_first = b.is_first;
                  is_second =
                      record { front = d.front; back = d.back; parts = d.parts; is_first = d.is_first; is_second = d.is_second.1 };
                };
          };
    }

from_part : (types : List FuncType) (functions : List ℕ) (p : List Body × AfterCode) (text : List ℕ) → Part10 functions p text → Tail10 (map (params_of types) functions) functions p text
from_part types functions p text l =
    let a = l.is_second in
    let b = a.is_second in
    let d = b.is_second in
    let n : length p.0 ≡ length (map (params_of types) functions) = omega (arith, length-map functions (params_of types), a.is_first.0) in
    record {
      front = l.front;
      back = l.back;
      parts = l.parts;
      is_first = l.is_first;
      is_second =
          record {
            front = a.front;
            back = a.back;
            parts = a.parts;
            is_first = with_count (map (params_of types) functions) p.0 a.front n a.is_first.1;
            is_second =
                record {
                  front = b.front;
                  back = b.back;
                  parts = b.parts;
                  is_first = b.is_first;
                  is_second =
                      record { front = d.front; back = d.back; parts = d.parts; is_first = d.is_first; is_second = (sym a.is_first.0, d.is_second) };
                };
          };
    }

part10 : (limited : Bool) (types : List FuncType) (functions : List ℕ) → Tail 9 (Part10 functions) (Fits10 limited (map (params_of types) functions)) (code_slot_at limited types functions)
part10 limited types functions =
    let params = map (params_of types) functions in
    let t = tail10 limited types functions in
    record {
      exact = λ content. alike_all (Tail10 (map (params_of types) functions) functions) (Part10 functions) (Fits10 limited (map (params_of types) functions)) (Fits10 limited (map (params_of types) functions)) content (code_slot_at limited types functions content)
          (λ p l. into_part types functions p content l) (λ p l. from_part types functions p content l) (λ p w. w) (λ p w. w) (t.exact content);
      settles = λ p text l. let g = t.settles p text (from_part types functions p text l) in (g.0, g.1, into_part types functions p g.0 g.2, g.3);
    }

abbrev Part9 : List ℕ → AfterStart → Language
Part9 functions p = customs ⨾ (section 9 [] (vector element) p.0 ⨾ Part10 functions p.1)

abbrev Fits9 : Bool → List ℕ → AfterStart → Type 0
Fits9 limited params p = Unit {0} × Fits10 limited params p.1

part9 : (limited : Bool) (types : List FuncType) (functions : List ℕ) → Tail 8 (Part9 functions) (Fits9 limited (map (params_of types) functions)) (after_start_at limited types functions)
unfolding after_start_at
part9 limited types functions = slot 9 (omega arith) [] (vector element) always (vector_at element_at) (free_vector element element_at element_exact) tt
    (λ _. Part10 functions) (λ _. Fits10 limited (map (params_of types) functions)) (λ _. code_slot_at limited types functions) (λ _. part10 limited types functions) 8 (omega arith)

start_exact : Exact start always start_at
start_exact = as_exact (λ (n : ℕ). Some n) u32 always start always u32_at (λ n text l. l) (λ n w. w) start_out u32_exact
  where
    start_out : (o : Option ℕ) (text : List ℕ) → start o text → (n : ℕ) × u32 n text × (Some n ≡ o) × (Unit {0} → Unit {0})
    start_out None text l = absurd l
    start_out (Some n) text l = (n, l, refl, λ w. w)

abbrev Part8 : List ℕ → Option ℕ × AfterStart → Language
Part8 functions p = customs ⨾ (section 8 None start p.0 ⨾ Part9 functions p.1)

abbrev Fits8 : Bool → List ℕ → Option ℕ × AfterStart → Type 0
Fits8 limited params p = Unit {0} × Fits9 limited params p.1

part8 : (limited : Bool) (types : List FuncType) (functions : List ℕ) → Tail 7 (Part8 functions) (Fits8 limited (map (params_of types) functions)) (slot_at 8 None start_at (λ _. after_start_at limited types functions))
part8 limited types functions = slot 8 (omega arith) None start always start_at start_exact tt
    (λ _. Part9 functions) (λ _. Fits9 limited (map (params_of types) functions)) (λ _. after_start_at limited types functions) (λ _. part9 limited types functions) 7 (omega arith)

abbrev Part7 : List ℕ → List Export × (Option ℕ × AfterStart) → Language
Part7 functions p = customs ⨾ (section 7 [] (vector export) p.0 ⨾ Part8 functions p.1)

abbrev Fits7 : Bool → List ℕ → List Export × (Option ℕ × AfterStart) → Type 0
Fits7 limited params p = Unit {0} × Fits8 limited params p.1

part7 : (limited : Bool) (types : List FuncType) (functions : List ℕ) → Tail 6 (Part7 functions) (Fits7 limited (map (params_of types) functions)) (slot_at 7 [] (vector_at export_at) (λ _. slot_at 8 None start_at (λ _. after_start_at limited types functions)))
part7 limited types functions = slot 7 (omega arith) [] (vector export) always (vector_at export_at) (free_vector export export_at export_exact) tt
    (λ _. Part8 functions) (λ _. Fits8 limited (map (params_of types) functions)) (λ _. slot_at 8 None start_at (λ _. after_start_at limited types functions)) (λ _. part8 limited types functions) 6 (omega arith)

abbrev Part6 : List ℕ → AfterMemories → Language
Part6 functions p = customs ⨾ (section 6 [] (vector global) p.0 ⨾ Part7 functions p.1)

abbrev Fits6 : Bool → List ℕ → AfterMemories → Type 0
Fits6 limited params p = Unit {0} × Fits7 limited params p.1

part6 : (limited : Bool) (types : List FuncType) (functions : List ℕ) → Tail 5 (Part6 functions) (Fits6 limited (map (params_of types) functions)) (after_memories_at limited types functions)
unfolding after_memories_at
part6 limited types functions = slot 6 (omega arith) [] (vector global) always (vector_at global_at) (free_vector global global_at global_exact) tt
    (λ _. Part7 functions) (λ _. Fits7 limited (map (params_of types) functions)) (λ _. slot_at 7 [] (vector_at export_at) (λ _. slot_at 8 None start_at (λ _. after_start_at limited types functions))) (λ _. part7 limited types functions) 5 (omega arith)

abbrev Memories : Bool → List MemoryType → Type 0
Memories limited = AllByRecursion (λ (m : MemoryType). Keeps limited 256 0 m.limits.minimum)

abbrev Tables : Bool → List Limits → Type 0
Tables limited = AllByRecursion (λ (l : Limits). Keeps limited 4096 0 l.minimum)

abbrev Imports : Bool → List Import → Type 0
Imports limited = AllByRecursion (λ (i : Import). Keeps limited 256 0 i.memory.limits.minimum)

abbrev Part5 : List ℕ → List MemoryType × AfterMemories → Language
Part5 functions p = customs ⨾ (section 5 [] (vector memory_type) p.0 ⨾ Part6 functions p.1)

abbrev Fits5 : Bool → List ℕ → List MemoryType × AfterMemories → Type 0
Fits5 limited params p = Memories limited p.0 × Fits6 limited params p.1

abbrev read5 : Bool → List FuncType → List ℕ → List ℕ → Result (List MemoryType × AfterMemories) Fault
read5 limited types functions = slot_at 5 [] (vector_at (memory_type_at limited)) (λ _. after_memories_at limited types functions)

part5 : (limited : Bool) (types : List FuncType) (functions : List ℕ) → Tail 4 (Part5 functions) (Fits5 limited (map (params_of types) functions)) (read5 limited types functions)
part5 limited types functions = slot 5 (omega arith) [] (vector memory_type) (Memories limited) (vector_at (memory_type_at limited)) (vector_exact memory_type (λ (m : MemoryType). Keeps limited 256 0 m.limits.minimum) (memory_type_at limited) (memory_type_exact limited)) tt
    (λ _. Part6 functions) (λ _. Fits6 limited (map (params_of types) functions)) (λ _. after_memories_at limited types functions) (λ _. part6 limited types functions) 4 (omega arith)

abbrev Part4 : List ℕ → List Limits × (List MemoryType × AfterMemories) → Language
Part4 functions p = customs ⨾ (section 4 [] (vector table_type) p.0 ⨾ Part5 functions p.1)

abbrev Fits4 : Bool → List ℕ → List Limits × (List MemoryType × AfterMemories) → Type 0
Fits4 limited params p = Tables limited p.0 × Fits5 limited params p.1

abbrev read4 : Bool → List FuncType → List ℕ → List ℕ → Result (List Limits × (List MemoryType × AfterMemories)) Fault
read4 limited types functions = slot_at 4 [] (vector_at (table_type_at limited)) (λ _. read5 limited types functions)

part4 : (limited : Bool) (types : List FuncType) (functions : List ℕ) → Tail 3 (Part4 functions) (Fits4 limited (map (params_of types) functions)) (read4 limited types functions)
part4 limited types functions = slot 4 (omega arith) [] (vector table_type) (Tables limited) (vector_at (table_type_at limited)) (vector_exact table_type (λ (l : Limits). Keeps limited 4096 0 l.minimum) (table_type_at limited) (table_type_exact limited)) tt
    (λ _. Part5 functions) (λ _. Fits5 limited (map (params_of types) functions)) (λ _. read5 limited types functions) (λ _. part5 limited types functions) 3 (omega arith)

abbrev Part3 : List ℕ × (List Limits × (List MemoryType × AfterMemories)) → Language
Part3 p = customs ⨾ (section 3 [] (vector u32) p.0 ⨾ Part4 p.0 p.1)

abbrev Fits3 : Bool → List FuncType → List ℕ × (List Limits × (List MemoryType × AfterMemories)) → Type 0
Fits3 limited types p = Unit {0} × Fits4 limited (map (params_of types) p.0) p.1

abbrev read3 : Bool → List FuncType → List ℕ → Result (List ℕ × (List Limits × (List MemoryType × AfterMemories))) Fault
read3 limited types = slot_at 3 [] (vector_at u32_at) (λ functions. read4 limited types functions)

part3 : (limited : Bool) (types : List FuncType) → Tail 2 Part3 (Fits3 limited types) (read3 limited types)
part3 limited types = slot 3 (omega arith) [] (vector u32) always (vector_at u32_at) (free_vector u32 u32_at u32_exact) tt
    Part4 (λ functions. Fits4 limited (map (params_of types) functions)) (λ functions. read4 limited types functions) (part4 limited types) 2 (omega arith)

abbrev Part2 : List Import × (List ℕ × (List Limits × (List MemoryType × AfterMemories))) → Language
Part2 p = customs ⨾ (section 2 [] (vector import) p.0 ⨾ Part3 p.1)

abbrev Fits2 : Bool → List FuncType → List Import × (List ℕ × (List Limits × (List MemoryType × AfterMemories))) → Type 0
Fits2 limited types p = Imports limited p.0 × Fits3 limited types p.1

abbrev read2 : Bool → List FuncType → List ℕ → Result (List Import × (List ℕ × (List Limits × (List MemoryType × AfterMemories)))) Fault
read2 limited types = slot_at 2 [] (vector_at (import_at limited)) (λ _. read3 limited types)

part2 : (limited : Bool) (types : List FuncType) → Tail 1 Part2 (Fits2 limited types) (read2 limited types)
part2 limited types = slot 2 (omega arith) [] (vector import) (Imports limited) (vector_at (import_at limited)) (vector_exact import (λ (i : Import). Keeps limited 256 0 i.memory.limits.minimum) (import_at limited) (import_exact limited)) tt
    (λ _. Part3) (λ _. Fits3 limited types) (λ _. read3 limited types) (λ _. part3 limited types) 1 (omega arith)

abbrev pub Whole1 : Parts → Language
Whole1 p = customs ⨾ (section 1 [] (vector func_type) p.0 ⨾ Part2 p.1)

abbrev pub Fits1 : Bool → Parts → Type 0
Fits1 limited p = Unit {0} × Fits2 limited p.0 p.1

pub sections_exact : (limited : Bool) → ExactAll Whole1 (Fits1 limited) (sections_at limited)
unfolding sections_at
sections_exact limited =
    (slot 1 (omega arith) [] (vector func_type) always (vector_at func_type_at) (free_vector func_type func_type_at func_type_exact) tt
    (λ _. Part2) (λ types. Fits2 limited types) (λ types. read2 limited types) (part2 limited) 0 (omega arith)).exact
