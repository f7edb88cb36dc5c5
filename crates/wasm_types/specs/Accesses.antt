-- What accesses and values take and hand on: types, and widths. WebAssembly Core 1.0, memory instructions; threads
-- proposal, atomic memory instructions. A width is that of a number in bits.
use Rattle.std.specs.Prelude.{ℕ}
use Rattle.std.specs.Int.{Width, w8, w16, w32, w64, w128}
use Rattle.wasm_types.specs.declared.value.ValType.{ValType}
use Rattle.wasm_types.specs.declared.value.ValType.TheVariants.{I32, I64}
use Rattle.wasm_types.specs.declared.instruction.Narrow.{Narrow}
use Rattle.wasm_types.specs.declared.instruction.Narrow.TheVariants.{I32Of8, I32Of16, I64Of8, I64Of16, I64Of32}
use Rattle.wasm_types.specs.declared.instruction.Access.{Access}
use Rattle.wasm_types.specs.declared.instruction.Access.TheVariants as access
use Rattle.wasm_types.specs.declared.instruction.Load.{Load}
use Rattle.wasm_types.specs.declared.instruction.Load.TheVariants as load
use Rattle.wasm_types.specs.declared.instruction.AtomicOp.{AtomicOp}
use Rattle.wasm_types.specs.declared.instruction.AtomicOp.TheVariants as atomic

-- ---- types

-- the type that a narrow number is made
abbrev pub narrow_type : Narrow → ValType
narrow_type I32Of8 = I32
narrow_type I32Of16 = I32
narrow_type I64Of8 = I64
narrow_type I64Of16 = I64
narrow_type I64Of32 = I64

abbrev pub access_type : Access → ValType
access_type (access.Whole t) = t
access_type (access.Narrow narrow) = narrow_type narrow

-- ---- widths

abbrev pub type_width : ValType → Width
type_width I32 = w32
type_width I64 = w64

abbrev pub narrow_width : Narrow → Width
narrow_width I32Of8 = w8
narrow_width I32Of16 = w16
narrow_width I64Of8 = w8
narrow_width I64Of16 = w16
narrow_width I64Of32 = w32

abbrev pub access_width : Access → Width
access_width (access.Whole t) = type_width t
access_width (access.Narrow narrow) = narrow_width narrow

abbrev pub load_access : Load → Access
load_access (load.Whole t) = access.Whole t
load_access (load.Narrow narrow extension) = access.Narrow narrow

abbrev pub load_width : Load → Width
load_width l = access_width (load_access l)

abbrev pub atomic_width : AtomicOp → Width
atomic_width atomic.Notify = w32
atomic_width (atomic.Wait t) = type_width t
atomic_width (atomic.Load a) = access_width a
atomic_width (atomic.Store a) = access_width a
atomic_width (atomic.Rmw op a) = access_width a
atomic_width (atomic.CompareExchange a) = access_width a

-- a width has two to its exponent bytes
abbrev pub exponent_of : Width → ℕ
exponent_of w8 = 0
exponent_of w16 = 1
exponent_of w32 = 2
exponent_of w64 = 3
exponent_of w128 = 4

abbrev pub type_exponent : ValType → ℕ
type_exponent t = exponent_of (type_width t)

abbrev pub access_exponent : Access → ℕ
access_exponent a = exponent_of (access_width a)

abbrev pub atomic_exponent : AtomicOp → ℕ
atomic_exponent op = exponent_of (atomic_width op)
