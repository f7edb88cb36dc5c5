-- Dialogues from where the turns of an order lead.
use Rattle.std.proofs.Common.{◌≡◌, ℕ, List, subst}
use Rattle.wasm_types.specs.declared.modules.Module.{Module}
use Rattle.wasm_world.specs.Plans.{PlanValue}
use Rattle.replica.specs.declared.log.Log.{Log as GatheredLog}
use Rattle.debugger.specs.Dialogue.{IsShownDialogue}
use Rattle.debugger.specs.Orders.{after_turns}
use Rattle.debugger.specs.Replies.{DebugAt, IsOpening, Replies}
use Rattle.debugger.specs.Talks.{IsTaken, IsWhole}

pub shown_behind : {m : Module} {plan : PlanValue} {log : GatheredLog} {order : List ℕ} {brought : List ℕ → Type 0} {ended : Type 0} {took : List ℕ → Type 0} (s : DebugAt)
    → (start : DebugAt) × IsOpening m plan log start × (s ≡ after_turns start order) → IsTaken Replies brought s ended took → IsShownDialogue m plan log order brought ended took
shown_behind {brought = brought} {ended = ended} s b taken =
    (taken.0, record { start = b.0; opening = b.1; talk = subst (λ x. IsWhole Replies brought x ended taken.0) b.2 taken.1 }, taken.2)
