use Rattle.std.proofs.Common.{subst, List, ℕ}
use Rattle.debugger.specs.Functions.{IsEntry}
use Rattle.adapter.specs.State.{state_of}
use Rattle.adapter.proofs.Pairing.{pairs_more}
use Rattle.adapter.proofs.adapter.Adapter.entries_of.Goals as goal

pub loop-name-preserved : goal.loop-name-preserved
loop-name-preserved c =
    let y = c.in_ok-entry_of.field-0 in
    let code = (state_of c.args.self.now).debugger.code in
    rw c.in_ok-push.ensures.items (pairs_more (IsEntry code) c.args.names.now c.loop-name.name-index c.loop-name.found.items c.name-item.result y c.loop-name-test.true c.name-item.is c.loop-name.invariant
    (subst (λ (name : List ℕ). IsEntry code name y) c.as_str.ensures c.in_ok-entry_of.ensures))
