use Rattle.std.proofs.Common.{arith, sym}
use Rattle.std.specs.Int.{w64}
use Rattle.std.proofs.lemmas.Int.{to_z-of_z}
use Rattle.wasm_types.proofs.Leb128Laws.{place_found_signed, place_none_signed}
use Rattle.wasm_types.proofs.leb128.leb_signed.Goals as goal

pub returns-in_err-number-clause-none : goal.returns-in_err-number-clause-none
returns-in_err-number-clause-none c = rw c.from_residual.ensures (λ z end le within l. place_none_signed c.args.bits c.args.at c.args.bytes.now (omega arith) (let v = c.in_err-number.ensures.value in sym (rw c.split_at.ensures.back at v)) z end le within l)

pub overflow_sub-result : goal.overflow_sub-result
overflow_sub-result c = omega (arith, place_found_signed c.args.bits c.args.at c.args.bytes.now c.in_ok-number.number c.in_ok-number.rest.now (omega arith) (let v = c.in_ok-number.ensures.value in sym (rw c.split_at.ensures.back at v)))

pub returns-clause-found : goal.returns-clause-found
returns-clause-found c = rw (to_z-of_z w64 c.in_ok-number.number (search)) ((place_found_signed c.args.bits c.args.at c.args.bytes.now c.in_ok-number.number c.in_ok-number.rest.now (omega arith) (let v = c.in_ok-number.ensures.value in sym (rw c.split_at.ensures.back at v))).1)
