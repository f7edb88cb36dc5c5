use Rattle.std.proofs.Common.{subst, List, ℕ}
use Rattle.std.proofs.lemmas.List.{take_all}
use Rattle.adapter.specs.Breakpoints.{IsWriteBy, Pairs, range_of}
use Rattle.adapter.specs.State.{state_of}
use Rattle.adapter.proofs.Pairing.{pairs_more}
use Rattle.adapter.proofs.adapter.Adapter.writes_of.Goals as goal

pub loop-id-preserved : goal.loop-id-preserved
loop-id-preserved c =
    let power = (state_of c.args.self.now).debugger.power in
    rw c.in_ok-push.ensures.items (pairs_more (λ id. IsWriteBy power (range_of id)) c.args.ids.now c.loop-id.id-index c.loop-id.found.items c.id-item.result c.write_of.result c.loop-id-test.true c.id-item.is c.loop-id.invariant
    (subst (λ (id : List ℕ). IsWriteBy power (range_of id) c.write_of.result) c.as_str.ensures c.write_of.ensures))

pub returns : goal.returns
returns c =
    let power = (state_of c.args.self.now).debugger.power in
    subst (λ (ids : List (List ℕ)). Pairs (λ id. IsWriteBy power (range_of id)) ids c.loop-id.found.items) (take_all c.loop-id.id-index c.args.ids.now c.loop-id-test.false) c.loop-id.invariant
