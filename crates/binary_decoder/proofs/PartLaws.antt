-- Readers of types, limits and constants answer by their grammar.
use Rattle.std.proofs.Common.{◌≡◌, ℕ, Bool, true, false, List, Option, Some, None, refl, sym, ap, ◌∙◌}
use Rattle.std.specs.Prelude.{ℤ, is_some}
use Rattle.std.specs.Int.{w32, w64, cast_unsigned}
use Rattle.binary_decoder.specs.Language.{Language, byte, ◌⨾◌, u32, s32, s64, vector, byte_vector, name}
use Rattle.binary_decoder.specs.Reading.{byte_at, u32_at, s32_at, s64_at, then_at, made_at, kind_at, limited_at, vector_at, byte_vector_at, name_at}
use Rattle.binary_decoder.proofs.ReadAnswers.{Exact, always}
use Rattle.binary_decoder.proofs.ReadLaws.{then_exact, made_exact, as_exact, byte_exact, u32_exact, signed_exact, free_vector, free_pair, byte_vector_exact, name_exact, Keeps, limited_exact, kinds_exact, choice_exact}
use Rattle.binary_decoder.specs.Opcodes.{const_code}
use Rattle.binary_decoder.specs.Grammar.{val_type_code, val_type, func_type, block_type_code, block_type, sizes, limits_flag, limits, table_type, memory_flag, memory_sizes, memory_type, value_type, constant, const_expr, mem_arg, import, mutability, global, export_code, export, element, data_segment}
use Rattle.binary_decoder.specs.Reader.{choice_at, val_type_of, val_type_at, func_type_at, block_type_of, block_type_at, flag_of, sizes_at, table_type_at, memory_flag_of, memory_sizes_at, memory_type_at, constant_at, const_type_of, const_expr_at, mem_arg_at, import_at, global_at, export_kind_of, export_at, element_at, data_at}
use Rattle.binary_decoder.proofs.OpcodeLaws.{pick, none_left}
use Rattle.wasm_types.specs.declared.value.ValType.{ValType}
use Rattle.wasm_types.specs.declared.value.ValType.TheVariants.{I32, I64}
use Rattle.wasm_types.specs.declared.value.Value.{Value}
use Rattle.wasm_types.specs.declared.value.Value.TheVariants as value
use Rattle.wasm_types.specs.declared.instruction.MemArg.{MemArg}
use Rattle.wasm_types.specs.declared.modules.FuncType.{FuncType}
use Rattle.wasm_types.specs.declared.modules.Limits.{Limits}
use Rattle.wasm_types.specs.declared.modules.MemoryType.{MemoryType}
use Rattle.wasm_types.specs.declared.modules.Import.{Import}
use Rattle.wasm_types.specs.declared.modules.Global.{Global}
use Rattle.wasm_types.specs.declared.modules.ExportKind.{ExportKind}
use Rattle.wasm_types.specs.declared.modules.ExportKind.TheVariants as kind
use Rattle.wasm_types.specs.declared.modules.Export.{Export}
use Rattle.wasm_types.specs.declared.modules.Element.{Element}
use Rattle.wasm_types.specs.declared.modules.Data.{Data}

-- ---- types

val_type_again : (t : ValType) → val_type_of (val_type_code t) ≡ Some t
val_type_again I32 = refl
val_type_again I64 = refl

val_type_known : (c : ℕ) (t : ValType) → val_type_of c ≡ Some t → val_type_code t ≡ c
val_type_known c t e =
    pick val_type_code c 0x7F I32 t _ refl e (λ e.
    pick val_type_code c 0x7E I64 t None refl e (none_left val_type_code c t))

pub val_type_exact : Exact val_type always val_type_at
unfolding val_type_at
val_type_exact = choice_exact val_type_code val_type_of val_type_again val_type_known

pub func_type_exact : Exact func_type always func_type_at
unfolding func_type_at
func_type_exact =
    made_exact (λ (p : Unit {0} × (List ValType × List ValType)). record { params = p.1.0; results = p.1.1 }) (λ (f : FuncType). (tt, (f.params, f.results))) (λ f. refl) (λ p. refl)
    (λ (p : Unit {0} × (List ValType × List ValType)). byte 0x60 ⨾ vector val_type p.1.0 ⨾ vector val_type p.1.1) always (then_at (byte_at 0x60) (λ _. then_at (vector_at val_type_at) (λ _. vector_at val_type_at)))
    (free_pair (λ _. byte 0x60) (λ (p : List ValType × List ValType). vector val_type p.0 ⨾ vector val_type p.1) (byte_at 0x60) (then_at (vector_at val_type_at) (λ _. vector_at val_type_at)) (byte_exact 0x60)
    (free_pair (vector val_type) (vector val_type) (vector_at val_type_at) (vector_at val_type_at) (free_vector val_type val_type_at val_type_exact) (free_vector val_type val_type_at val_type_exact)))

block_type_again : (t : Option ValType) → block_type_of (block_type_code t) ≡ Some t
block_type_again None = refl
block_type_again (Some I32) = refl
block_type_again (Some I64) = refl

block_type_known : (c : ℕ) (t : Option ValType) → block_type_of c ≡ Some t → block_type_code t ≡ c
block_type_known c t e =
    pick block_type_code c 0x40 None t _ refl e (λ e.
    pick block_type_code c 0x7F (Some I32) t _ refl e (λ e.
    pick block_type_code c 0x7E (Some I64) t None refl e (none_left block_type_code c t)))

pub block_type_exact : Exact block_type always block_type_at
unfolding block_type_at
block_type_exact = choice_exact block_type_code block_type_of block_type_again block_type_known

-- ---- limits

abbrev least : ℕ → Limits
least n = record { minimum = n; maximum = None }

abbrev range : ℕ × ℕ → Limits
range p = record { minimum = p.0; maximum = Some p.1 }

abbrev Sizes : Bool → Limits → Language
Sizes bounded l text = (is_some l.maximum ≡ bounded) × sizes l.minimum l.maximum text

least_out : (limited : Bool) (most minimum : ℕ) (maximum : Option ℕ) (text : List ℕ) → (is_some maximum ≡ false) × sizes minimum maximum text
    → (n : ℕ) × u32 n text × (least n ≡ record { minimum = minimum; maximum = maximum }) × (Keeps limited most 0 minimum → Keeps limited most 0 n)
least_out limited most minimum None text l = (minimum, l.1, refl, λ w. w)
least_out limited most minimum (Some maximum) text l = absurd cc

range_out : (limited : Bool) (most minimum : ℕ) (maximum : Option ℕ) (text : List ℕ) → (is_some maximum ≡ true) × sizes minimum maximum text
    → (p : ℕ × ℕ) × (u32 p.0 ⨾ u32 p.1) text × (range p ≡ record { minimum = minimum; maximum = maximum }) × (Keeps limited most 0 minimum → Keeps limited most 0 p.0 × Unit {0})
range_out limited most minimum None text l = absurd cc
range_out limited most minimum (Some maximum) text l = ((minimum, maximum), l.1, refl, λ w. (w, tt))

pub sizes_exact : (limited : Bool) (most : ℕ) (bounded : Bool) → Exact (Sizes bounded) (λ (l : Limits). Keeps limited most 0 l.minimum) (sizes_at limited most bounded)
unfolding sizes_at
sizes_exact limited most false =
    as_exact least u32 (Keeps limited most 0) (Sizes false) (λ (l : Limits). Keeps limited most 0 l.minimum) (limited_at limited most 0)
    (λ n text l. (refl, l)) (λ n w. w) (λ l text h. least_out limited most l.minimum l.maximum text h) (limited_exact limited most 0)
sizes_exact limited most true =
    as_exact range (λ (p : ℕ × ℕ). u32 p.0 ⨾ u32 p.1) (λ (p : ℕ × ℕ). Keeps limited most 0 p.0 × Unit {0}) (Sizes true) (λ (l : Limits). Keeps limited most 0 l.minimum) (then_at (limited_at limited most 0) (λ _. u32_at))
    (λ p text l. (refl, l)) (λ p w. w.0) (λ l text h. range_out limited most l.minimum l.maximum text h)
    (then_exact u32 (λ _. u32) (Keeps limited most 0) (λ _. always) (limited_at limited most 0) (λ _. u32_at) (limited_exact limited most 0) (λ _. u32_exact))

flag_again : (b : Bool) → flag_of (limits_flag b) ≡ Some b
flag_again false = refl
flag_again true = refl

flag_known : (c : ℕ) (b : Bool) → flag_of c ≡ Some b → limits_flag b ≡ c
flag_known c b e =
    pick limits_flag c 0x00 false b _ refl e (λ e.
    pick limits_flag c 0x01 true b None refl e (none_left limits_flag c b))

limits_exact : (limited : Bool) (most : ℕ) → Exact limits (λ (l : Limits). Keeps limited most 0 l.minimum) (kind_at flag_of (sizes_at limited most))
limits_exact limited most = kinds_exact limits_flag flag_of flag_again flag_known (λ (l : Limits). is_some l.maximum) (λ (l : Limits). sizes l.minimum l.maximum) (λ (l : Limits). Keeps limited most 0 l.minimum) (sizes_at limited most) (sizes_exact limited most)

pub table_type_exact : (limited : Bool) → Exact table_type (λ (l : Limits). Keeps limited 4096 0 l.minimum) (table_type_at limited)
unfolding table_type_at
table_type_exact limited =
    as_exact (λ (p : Unit {0} × Limits). p.1) (λ (p : Unit {0} × Limits). byte 0x70 ⨾ limits p.1) (λ (p : Unit {0} × Limits). Unit {0} × Keeps limited 4096 0 p.1.minimum) table_type (λ (l : Limits). Keeps limited 4096 0 l.minimum) (then_at (byte_at 0x70) (λ _. kind_at flag_of (sizes_at limited 4096)))
    (λ p text l. l) (λ p w. w.1) (λ l text h. ((tt, l), h, refl, λ w. (tt, w)))
    (then_exact (λ _. byte 0x70) (λ _. limits) always (λ _ (l : Limits). Keeps limited 4096 0 l.minimum) (byte_at 0x70) (λ _. kind_at flag_of (sizes_at limited 4096)) (byte_exact 0x70) (λ _. limits_exact limited 4096))

memory_flag_again : (k : Bool × Bool) → memory_flag_of (memory_flag k) ≡ Some k
memory_flag_again (false, false) = refl
memory_flag_again (true, false) = refl
memory_flag_again (false, true) = refl
memory_flag_again (true, true) = refl

memory_flag_known : (c : ℕ) (k : Bool × Bool) → memory_flag_of c ≡ Some k → memory_flag k ≡ c
memory_flag_known c k e =
    pick memory_flag c 0x00 (false, false) k _ refl e (λ e.
    pick memory_flag c 0x01 (true, false) k _ refl e (λ e.
    pick memory_flag c 0x02 (false, true) k _ refl e (λ e.
    pick memory_flag c 0x03 (true, true) k None refl e (none_left memory_flag c k))))

abbrev flags : MemoryType → Bool × Bool
flags m = (is_some m.limits.maximum, m.shared)

abbrev Fits : Bool → MemoryType → Type 0
Fits limited m = Keeps limited 256 0 m.limits.minimum

abbrev Memory_sizes : Bool × Bool → MemoryType → Language
Memory_sizes k m text = (flags m ≡ k) × memory_sizes m text

memory_made : (limited bounded shared : Bool) → (shared ≡ true → bounded ≡ true) → Exact (Memory_sizes (bounded, shared)) (Fits limited) (made_at (λ l. record { limits = l; shared = shared }) (sizes_at limited 256 bounded))
memory_made limited bounded shared has =
    as_exact (λ (l : Limits). record { limits = l; shared = shared }) (Sizes bounded) (λ (l : Limits). Keeps limited 256 0 l.minimum) (Memory_sizes (bounded, shared)) (Fits limited) (sizes_at limited 256 bounded)
    (λ l text h. (ap (λ (b : Bool). (b, shared)) h.0, (λ s. h.0 ∙ has s, h.1)))
    (λ l w. w)
    (λ m text h. (m.limits, (ap (λ (k : Bool × Bool). k.0) h.0, h.1.1), memory_same m.limits m.shared shared (ap (λ (k : Bool × Bool). k.1) h.0), λ w. w))
    (sizes_exact limited 256 bounded)
  where
    memory_same : (l : Limits) (s shared : Bool) → s ≡ shared → (let m : MemoryType = record { limits = l; shared = shared } in let n : MemoryType = record { limits = l; shared = s } in m ≡ n)
    memory_same l s shared e = cc

memory_sizes_exact : (limited : Bool) (k : Bool × Bool) → Exact (Memory_sizes k) (Fits limited) (memory_sizes_at limited k)
unfolding memory_sizes_at
memory_sizes_exact limited (false, true) = λ bytes. record {
  found = tt;
  only = λ m text rest l e.
      let s : m.shared ≡ true = ap (λ (k : Bool × Bool). k.1) l.0 in
      let b : is_some m.limits.maximum ≡ false = ap (λ (k : Bool × Bool). k.0) l.0 in
      let c : is_some m.limits.maximum ≡ true = l.1.0 s in
      absurd cc;
}
memory_sizes_exact limited (false, false) = memory_made limited false false (λ e. absurd cc)
memory_sizes_exact limited (true, false) = memory_made limited true false (λ e. refl)
memory_sizes_exact limited (true, true) = memory_made limited true true (λ e. refl)

pub memory_type_exact : (limited : Bool) → Exact memory_type (λ (m : MemoryType). Keeps limited 256 0 m.limits.minimum) (memory_type_at limited)
unfolding memory_type_at
memory_type_exact limited = kinds_exact memory_flag memory_flag_of memory_flag_again memory_flag_known flags memory_sizes (Fits limited) (memory_sizes_at limited) (memory_sizes_exact limited)

-- ---- constants

abbrev Constant : ValType → Value → Language
Constant t v text = (value_type v ≡ t) × constant v text

constant_out : (v : Value) (text : List ℕ) → Constant I32 v text → (z : ℤ) × s32 z text × (value.I32 (cast_unsigned w32 z) ≡ v) × (Unit {0} → Unit {0})
constant_out (value.I32 bits) text l = (l.1.0, l.1.1, ap (λ (n : ℕ). value.I32 n) (sym l.1.2), λ w. w)
constant_out (value.I64 bits) text l = absurd cc

constant_out_64 : (v : Value) (text : List ℕ) → Constant I64 v text → (z : ℤ) × s64 z text × (value.I64 (cast_unsigned w64 z) ≡ v) × (Unit {0} → Unit {0})
constant_out_64 (value.I64 bits) text l = (l.1.0, l.1.1, ap (λ (n : ℕ). value.I64 n) (sym l.1.2), λ w. w)
constant_out_64 (value.I32 bits) text l = absurd cc

pub constant_exact : (t : ValType) → Exact (Constant t) always (constant_at t)
unfolding constant_at
constant_exact I32 = as_exact (λ (z : ℤ). value.I32 (cast_unsigned w32 z)) s32 always (Constant I32) always s32_at (λ z text l. (refl, (z, l, refl))) (λ z w. w) constant_out (signed_exact 32)
constant_exact I64 = as_exact (λ (z : ℤ). value.I64 (cast_unsigned w64 z)) s64 always (Constant I64) always s64_at (λ z text l. (refl, (z, l, refl))) (λ z w. w) constant_out_64 (signed_exact 64)

const_again : (t : ValType) → const_type_of (const_code t) ≡ Some t
const_again I32 = refl
const_again I64 = refl

const_known : (c : ℕ) (t : ValType) → const_type_of c ≡ Some t → const_code t ≡ c
const_known c t e =
    pick const_code c 0x41 I32 t _ refl e (λ e.
    pick const_code c 0x42 I64 t None refl e (none_left const_code c t))

const_ended : (t : ValType) → Exact (λ (v : Value) text. (value_type v ≡ t) × (constant v ⨾ byte 0x0B) text) always (made_at (λ p. p.0) (then_at (constant_at t) (λ _. byte_at 0x0B)))
const_ended t =
    as_exact (λ (p : Value × Unit {0}). p.0) (λ (p : Value × Unit {0}). Constant t p.0 ⨾ byte 0x0B) always (λ (v : Value) text. (value_type v ≡ t) × (constant v ⨾ byte 0x0B) text) always (then_at (constant_at t) (λ _. byte_at 0x0B))
    (λ p text l. (l.is_first.0, record { front = l.front; back = l.back; parts = l.parts; is_first = l.is_first.1; is_second = l.is_second }))
    (λ p w. tt)
    (λ v text l. ((v, tt), record { front = l.1.front; back = l.1.back; parts = l.1.parts; is_first = (l.0, l.1.is_first); is_second = l.1.is_second }, refl, λ w. tt))
    (free_pair (Constant t) (λ _. byte 0x0B) (constant_at t) (byte_at 0x0B) (constant_exact t) (byte_exact 0x0B))

pub const_expr_exact : Exact const_expr always const_expr_at
unfolding const_expr_at
const_expr_exact = kinds_exact const_code const_type_of const_again const_known value_type (λ v. constant v ⨾ byte 0x0B) always (λ t. made_at (λ p. p.0) (then_at (constant_at t) (λ _. byte_at 0x0B))) const_ended

pub mem_arg_exact : Exact mem_arg always mem_arg_at
unfolding mem_arg_at
mem_arg_exact = made_exact (λ (p : ℕ × ℕ). record { align = p.0; offset = p.1 }) (λ (a : MemArg). (a.align, a.offset)) (λ a. refl) (λ p. refl) (λ (p : ℕ × ℕ). u32 p.0 ⨾ u32 p.1) always (then_at u32_at (λ _. u32_at))
    (free_pair u32 u32 u32_at u32_at u32_exact u32_exact)

-- ---- what sections hold

abbrev import_made : List ℕ × (List ℕ × (Unit {0} × MemoryType)) → Import
import_made p = record { «module» = p.0; name = p.1.0; memory = p.1.1.1 }

pub import_exact : (limited : Bool) → Exact import (λ (i : Import). Keeps limited 256 0 i.memory.limits.minimum) (import_at limited)
unfolding import_at
import_exact limited =
    as_exact import_made (λ (p : List ℕ × (List ℕ × (Unit {0} × MemoryType))). name p.0 ⨾ name p.1.0 ⨾ byte 0x02 ⨾ memory_type p.1.1.1) (λ p. Unit {0} × (Unit {0} × (Unit {0} × Fits limited p.1.1.1))) import (λ (i : Import). Fits limited i.memory)
    (then_at name_at (λ _. then_at name_at (λ _. then_at (byte_at 0x02) (λ _. memory_type_at limited))))
    (λ p text l. l) (λ p w. w.1.1.1) (λ i text l. ((i.module, (i.name, (tt, i.memory))), l, refl, λ w. (tt, (tt, (tt, w)))))
    (then_exact name (λ _ (p : List ℕ × (Unit {0} × MemoryType)). name p.0 ⨾ byte 0x02 ⨾ memory_type p.1.1) always (λ _ p. Unit {0} × (Unit {0} × Fits limited p.1.1)) name_at (λ _. then_at name_at (λ _. then_at (byte_at 0x02) (λ _. memory_type_at limited))) name_exact
    (λ _. then_exact name (λ _ (p : Unit {0} × MemoryType). byte 0x02 ⨾ memory_type p.1) always (λ _ p. Unit {0} × Fits limited p.1) name_at (λ _. then_at (byte_at 0x02) (λ _. memory_type_at limited)) name_exact
    (λ _. then_exact (λ _. byte 0x02) (λ _. memory_type) always (λ _. Fits limited) (byte_at 0x02) (λ _. memory_type_at limited) (byte_exact 0x02) (λ _. memory_type_exact limited))))

mutable_exact : Exact (λ (b : Bool). byte (mutability b)) always (choice_at flag_of)
mutable_exact = choice_exact mutability flag_of again known
  where
    again : (b : Bool) → flag_of (mutability b) ≡ Some b
    again false = refl
    again true = refl

    known : (c : ℕ) (b : Bool) → flag_of c ≡ Some b → mutability b ≡ c
    known c b e =
        pick mutability c 0x00 false b _ refl e (λ e.
        pick mutability c 0x01 true b None refl e (none_left mutability c b))

pub global_exact : Exact global always global_at
unfolding global_at
global_exact =
    made_exact (λ (p : ValType × (Bool × Value)). record { val_type = p.0; mutable = p.1.0; value = p.1.1 }) (λ (g : Global). (g.val_type, (g.mutable, g.value))) (λ g. refl) (λ p. refl)
    (λ (p : ValType × (Bool × Value)). val_type p.0 ⨾ byte (mutability p.1.0) ⨾ const_expr p.1.1) always (then_at val_type_at (λ _. then_at (choice_at flag_of) (λ _. const_expr_at)))
    (free_pair val_type (λ (p : Bool × Value). byte (mutability p.0) ⨾ const_expr p.1) val_type_at (then_at (choice_at flag_of) (λ _. const_expr_at)) val_type_exact
    (free_pair (λ (b : Bool). byte (mutability b)) const_expr (choice_at flag_of) const_expr_at mutable_exact const_expr_exact))

export_kind_exact : Exact (λ (k : ExportKind). byte (export_code k)) always (choice_at export_kind_of)
export_kind_exact = choice_exact export_code export_kind_of again known
  where
    again : (k : ExportKind) → export_kind_of (export_code k) ≡ Some k
    again kind.Function = refl
    again kind.Table = refl
    again kind.Memory = refl
    again kind.Global = refl

    known : (c : ℕ) (k : ExportKind) → export_kind_of c ≡ Some k → export_code k ≡ c
    known c k e =
        pick export_code c 0x00 kind.Function k _ refl e (λ e.
        pick export_code c 0x01 kind.Table k _ refl e (λ e.
        pick export_code c 0x02 kind.Memory k _ refl e (λ e.
        pick export_code c 0x03 kind.Global k None refl e (none_left export_code c k))))

pub export_exact : Exact export always export_at
unfolding export_at
export_exact =
    made_exact (λ (p : List ℕ × (ExportKind × ℕ)). record { name = p.0; kind = p.1.0; index = p.1.1 }) (λ (e : Export). (e.name, (e.kind, e.index))) (λ e. refl) (λ p. refl)
    (λ (p : List ℕ × (ExportKind × ℕ)). name p.0 ⨾ byte (export_code p.1.0) ⨾ u32 p.1.1) always (then_at name_at (λ _. then_at (choice_at export_kind_of) (λ _. u32_at)))
    (free_pair name (λ (p : ExportKind × ℕ). byte (export_code p.0) ⨾ u32 p.1) name_at (then_at (choice_at export_kind_of) (λ _. u32_at)) name_exact
    (free_pair (λ (k : ExportKind). byte (export_code k)) u32 (choice_at export_kind_of) u32_at export_kind_exact u32_exact))

pub element_exact : Exact element always element_at
unfolding element_at
element_exact =
    made_exact (λ (p : ℕ × (Value × List ℕ)). record { table = p.0; offset = p.1.0; functions = p.1.1 }) (λ (e : Element). (e.table, (e.offset, e.functions))) (λ e. refl) (λ p. refl)
    (λ (p : ℕ × (Value × List ℕ)). u32 p.0 ⨾ const_expr p.1.0 ⨾ vector u32 p.1.1) always (then_at u32_at (λ _. then_at const_expr_at (λ _. vector_at u32_at)))
    (free_pair u32 (λ (p : Value × List ℕ). const_expr p.0 ⨾ vector u32 p.1) u32_at (then_at const_expr_at (λ _. vector_at u32_at)) u32_exact
    (free_pair const_expr (vector u32) const_expr_at (vector_at u32_at) const_expr_exact (free_vector u32 u32_at u32_exact)))

pub data_exact : Exact data_segment always data_at
unfolding data_at
data_exact =
    made_exact (λ (p : ℕ × (Value × List ℕ)). record { memory = p.0; offset = p.1.0; bytes = p.1.1 }) (λ (d : Data). (d.memory, (d.offset, d.bytes))) (λ d. refl) (λ p. refl)
    (λ (p : ℕ × (Value × List ℕ)). u32 p.0 ⨾ const_expr p.1.0 ⨾ byte_vector p.1.1) always (then_at u32_at (λ _. then_at const_expr_at (λ _. byte_vector_at)))
    (free_pair u32 (λ (p : Value × List ℕ). const_expr p.0 ⨾ byte_vector p.1) u32_at (then_at const_expr_at (λ _. byte_vector_at)) u32_exact
    (free_pair const_expr byte_vector const_expr_at byte_vector_at const_expr_exact byte_vector_exact))
