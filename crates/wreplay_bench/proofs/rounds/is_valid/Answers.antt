use Rattle.std.proofs.Common.{ℕ, Bool, List, subst}
use Rattle.std.specs.Prelude.{IsTrue, ◌↔◌}
use Rattle.std.proofs.lemmas.Result.{IfOk-weaker}
use Rattle.wasm_types.specs.declared.modules.Module.{Module}
use Rattle.binary_decoder.specs.Grammar.{Spells}
use Rattle.wasm_types.specs.Limits.{Within}
use Rattle.binary_decoder.proofs.Verdict.{one_module_is}
use Rattle.validator.specs.Valid.{WellTyped}
use Rattle.wreplay_bench.specs.Rounds.{Validates}
use Rattle.wreplay_bench.proofs.rounds.is_valid.Goals as goal

valid_when : (m : Module) (bytes : List ℕ) (found : Bool) → Spells m bytes → Within m → (IsTrue found ↔ WellTyped m) → IsTrue found ↔ Validates bytes
valid_when m bytes found spelled within typed = (λ yes. (m, spelled, within, typed.0 yes), λ v. typed.1 (subst WellTyped (one_module_is v.0 m bytes v.1 spelled) v.3))

pub returns-in-Ok : goal.returns-in-Ok
returns-in-Ok c = IfOk-weaker c.is_typed.result _ _ (λ found h. valid_when c.in-Ok.module c.args.bytes.now found c.in-Ok.ensures.found.0 c.in-Ok.ensures.found.1 h) c.is_typed.ensures
