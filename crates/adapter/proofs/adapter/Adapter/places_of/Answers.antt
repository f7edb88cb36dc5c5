use Rattle.std.proofs.Common.{rules}
use Rattle.std.specs.Int.{w64}
use Rattle.std.proofs.lemmas.Int.{to_z-of_z}
use Rattle.adapter.specs.InstructionBreaks.{IsPlaceOf}
use Rattle.adapter.specs.State.{state_of}
use Rattle.adapter.proofs.Pairing.{pairs_more}
use Rattle.adapter.proofs.adapter.Adapter.places_of.Goals as goal

pub loop-one-preserved : goal.loop-one-preserved
loop-one-preserved c =
    rw c.in_ok-push.ensures.items (pairs_more (IsPlaceOf (state_of c.args.self.now).debugger.code) c.args.asked.now c.loop-one.one-index c.loop-one.found.items c.one-item.result c.place_of.result c.loop-one-test.true c.one-item.is c.loop-one.invariant
    (rw (to_z-of_z w64 c.one-item.result.offset (search rules)) at c.place_of.ensures))
