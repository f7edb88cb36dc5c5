use Rattle.std.proofs.Common.{◌≡◌, drop, true}
use Rattle.std.specs.Prelude.{map}
use Rattle.wasm_types.specs.Limits.{params_of}
use Rattle.binary_decoder.specs.Reader.{with_front, bodies_at}
use Rattle.binary_decoder.proofs.functions.bodies.Given as goal

abbrev pub invariant-loop-function : goal.invariant-loop-function
invariant-loop-function l = with_front l.bodies.items (bodies_at true (map (params_of l.types) (drop l.function-index l.functions)) l.cursor.rest.now) ≡ bodies_at true (map (params_of l.types) l.functions) l.fn.cursor.rest.now
