use Rattle.std.proofs.Common.{inl, inr}
use Rattle.replica.specs.Log.{log_of}
use Rattle.wasm_record.proofs.Coming.{one_more}
use Rattle.wasm_record.proofs.receiving.receive.Goals as goal

pub loop-received-preserved : goal.loop-received-preserved
loop-received-preserved g c =
    one_more (log_of c.args.replica.now) (log_of c.loop-received.replica) (log_of c.deliver.new.self) c.loop-received.received c.in-Ok.piece
    c.loop-received.invariant
    (elim c.in_ok-deliver.ensures.same_run [ inl refused ↦ absurd cc | inr of_run ↦ of_run ]) c.in_ok-deliver.ensures.joined.key c.in_ok-deliver.ensures.log
