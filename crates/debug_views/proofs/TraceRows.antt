-- Lines of events, worked out.
use Rattle.std.proofs.Common.{◌≡◌, true, false, [], ◌∷◌, ◌++◌, Some, None, refl}
use Rattle.std.specs.Prelude.{codes}
use Rattle.std.specs.Fmt.{digits}
use Rattle.wasm_types.specs.declared.value.ValType.TheVariants.{I32, I64}
use Rattle.wasm_types.specs.declared.instruction.Access.TheVariants as access
use Rattle.wasm_types.specs.declared.instruction.Load.TheVariants as load
use Rattle.wasm_types.specs.declared.instruction.Narrow.TheVariants.{I32Of8}
use Rattle.wasm_types.specs.declared.instruction.Extension.TheVariants.{Unsigned}
use Rattle.wasm_types.specs.declared.instruction.RmwOp.TheVariants.{Add}
use Rattle.wasm_types.specs.declared.operation.Action.TheVariants as act
use Rattle.wasm_types.specs.declared.outcome.Outcome.TheVariants.{Running, Waiting, Trapped}
use Rattle.wasm_types.specs.declared.trap.Trap.TheVariants.{OutOfBounds}
use Rattle.debug_views.specs.Trace.{do_meet, is_of_ranges}
use Rattle.debug_views.specs.TraceLines.{event_line}

-- a store of a large number over 0
pub stored : event_line 0 15 (codes "put+17 ") (act.Store (access.Whole I64) 1344 824633720908) (Some 0) (Some 824633720908) Running ≡ codes "0.15 put+17 store 1344 i64 0 -> 0xc00000004c" ++ 10 ∷ []
unfolding digits
stored = refl

-- a sum that is the least number in hexadecimal
pub added : event_line 1 4 (codes "count+2 ") (act.Rmw Add (access.Whole I32) 1024 1) (Some 65535) (Some 65536) Running ≡ codes "1.4 count+2 add 1024 i32 65535 -> 0x10000" ++ 10 ∷ []
unfolding digits
added = refl

-- a compare-exchange that found another number
pub not_exchanged : event_line 1 3 (codes "lock+9 ") (act.CompareExchange (access.Whole I32) 64 0 1) (Some 1) (Some 1) Running ≡ codes "1.3 lock+9 cmpxchg 64 i32 1 -> 1 not 0" ++ 10 ∷ []
unfolding digits
not_exchanged = refl

-- a wait that sleeps
pub slept : event_line 2 7 (codes "take+4 ") (act.Wait I32 2 128 5) (Some 5) None Waiting ≡ codes "2.7 take+4 wait 128 i32 5 waiting" ++ 10 ∷ []
unfolding digits
slept = refl

-- a notify, of a thread whose place in the code is not known
pub notified : event_line 0 21 [] (act.Notify 128 4294967295) None None Running ≡ codes "0.21 notify 128 4294967295" ++ 10 ∷ []
unfolding digits
notified = refl

-- a load past the memory
pub out_of_bounds : event_line 3 2 (codes "get+1 ") (act.Load (load.Narrow I32Of8 Unsigned) 65536) None None (Trapped OutOfBounds) ≡ codes "3.2 get+1 load 65536 i8 trap 4 out of bounds" ++ 10 ∷ []
unfolding digits
out_of_bounds = refl

-- a range has the last of eight bytes, and none behind it
pub last_met : do_meet (record { from = 11; len = 1 }) (4, 8) ≡ true
last_met = refl

pub past_not_met : do_meet (record { from = 12; len = 4294967295 }) (4, 8) ≡ false
past_not_met = refl

-- a range of no bytes has none
pub none_met : do_meet (record { from = 6; len = 0 }) (4, 8) ≡ false
none_met = refl

-- a second range has a byte of a wait
pub second_met : is_of_ranges (record { from = 0; len = 4 } ∷ record { from = 131; len = 1 } ∷ []) (act.Wait I32 2 128 5) ≡ true
second_met = refl
