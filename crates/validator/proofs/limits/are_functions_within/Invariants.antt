use Rattle.std.proofs.Common.{take}
use Rattle.std.specs.Prelude.{map}
use Rattle.wasm_types.specs.Limits.{Fit, params_of}
use Rattle.validator.proofs.limits.are_functions_within.Given as goal

-- the functions so far are within the limit
abbrev pub invariant-loop-function : goal.invariant-loop-function
invariant-loop-function l = Fit 1024 (take l.function (map (params_of l.module.types) l.module.functions)) (take l.function l.module.bodies)
