-- The answers of a view, of the log, the order and the breaks that it was handed.
use Rattle.std.proofs.Common.{◌≡◌, ℕ, List, [], ◌∷◌, ◌++◌, Option, Some, refl, sym, ap, ◌∙◌, subst}
use Rattle.std.proofs.lemmas.List.{append_assoc}
use Rattle.wasm_types.specs.declared.modules.Module.{Module}
use Rattle.thread_plan.specs.Plans.{PlanValue}
use Rattle.wasm_types.specs.Memories.{block_power}
use Rattle.replica.specs.declared.log.Log.{Log}
use Rattle.replica.specs.Log.{key_of}
use Rattle.debug_views.specs.Break.{Break}
use Rattle.debug_views.specs.Writes.{IsWriteOfRange}
use Rattle.debug_views.specs.Views.{IsNotViewed}
use Rattle.debug_views.specs.declared.viewing.WasmViewFault.{WasmViewFault}
use Rattle.wasm_types.specs.declared.range.ByteRange.{ByteRange}
use Rattle.command_words.specs.declared.requests.ViewRequest.{ViewRequest}
use Rattle.commands.specs.Views.{AreBreaks, AreWrites, IsViewFault, place_break, step_break}

pub fault_of : (m : Module) (plan : PlanValue) (log handed : Log) (r : ViewRequest) (power : ℕ) (breaks given : List Break) (wanted : List ℕ) (answered fault : WasmViewFault) → answered ≡ fault → handed ≡ log → wanted ≡ r.replay.order.items → given ≡ breaks
    → power ≡ block_power (key_of log).profile → AreBreaks r power breaks → IsNotViewed m plan handed wanted given r.range.from r.range.len answered → IsViewFault m plan log r fault
fault_of m plan log handed r power breaks given wanted answered fault same_fault same_log same_order same_breaks same_power are h = record {
  breaks = breaks;
  are_breaks = subst (λ (p : ℕ). AreBreaks r p breaks) same_power are;
  refused = subst (λ (l : Log). IsNotViewed m plan l r.replay.order.items breaks r.range.from r.range.len fault) same_log
      (subst (λ (o : List ℕ). IsNotViewed m plan handed o breaks r.range.from r.range.len fault) same_order
      (subst (λ (bs : List Break). IsNotViewed m plan handed wanted bs r.range.from r.range.len fault) same_breaks
      (subst (λ (f : WasmViewFault). IsNotViewed m plan handed wanted given r.range.from r.range.len f) same_fault h)));
}

-- the break behind writes is the last one
pub with_write : (r : ViewRequest) (power : ℕ) (range : ByteRange) (b : Break) (before all : List Break) → r.write ≡ Some range → IsWriteOfRange power range.from range.len b → before ≡ place_break r.place ++ step_break r.step → all ≡ before ++ b ∷ []
    → AreBreaks r power all
with_write r power range b before all is write before_is all_is = (
  b ∷ [],
  subst (λ (o : Option ByteRange). AreWrites power o (b ∷ [])) (sym is) (b, write, refl),
  all_is ∙ ap (λ (bs : List Break). bs ++ b ∷ []) before_is ∙ append_assoc (place_break r.place) (step_break r.step) (b ∷ []),
)
