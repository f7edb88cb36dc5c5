use Rattle.std.proofs.Common.{refl, get_or, true}
use Rattle.std.specs.Prelude.{map}
use Rattle.wasm_types.specs.Limits.{params_of}
use Rattle.binary_decoder.specs.Reader.{bodies_at}
use Rattle.binary_decoder.proofs.Loop.{bodies_go_on, bodies_fail, bodies_done}
use Rattle.binary_decoder.proofs.functions.bodies.Goals as goal

pub returns-in-Err : goal.returns-in-Err
returns-in-Err c =
    rw c.in_function.ensures (bodies_fail c.args.types.now c.args.functions.now c.loop-function.bodies.items c.loop-function.function-index c.loop-function.cursor.rest.now (bodies_at true (map (params_of c.args.types.now) c.args.functions.now) c.args.cursor.now.rest.now) c.loop-function.invariant (get_or c.args.functions.now c.loop-function.function-index 0) c.in-Err.fault c.loop-function-test.true refl (rw c.params_in.ensures at c.in-Err.ensures))

pub loop-function-preserved : goal.loop-function-preserved
loop-function-preserved c =
    rw c.in_ok-push.ensures.items (bodies_go_on c.args.types.now c.args.functions.now c.loop-function.bodies.items c.loop-function.function-index c.loop-function.cursor.rest.now (bodies_at true (map (params_of c.args.types.now) c.args.functions.now) c.args.cursor.now.rest.now) c.loop-function.invariant (get_or c.args.functions.now c.loop-function.function-index 0) c.in-Ok.body c.body.new.cursor.rest.now c.loop-function-test.true refl (rw c.params_in.ensures at c.in-Ok.ensures))

pub returns : goal.returns
returns c = bodies_done c.args.types.now c.args.functions.now c.loop-function.bodies.items c.loop-function.function-index c.loop-function.cursor.rest.now (bodies_at true (map (params_of c.args.types.now) c.args.functions.now) c.args.cursor.now.rest.now) c.loop-function.invariant c.loop-function-test.false
