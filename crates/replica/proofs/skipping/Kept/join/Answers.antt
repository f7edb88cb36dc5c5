use Rattle.std.proofs.Common.{refl, inl, inr}
use Rattle.replica.proofs.FoundLemmas.{put_first, put_kept, put_foreign}
use Rattle.replica.proofs.skipping.Kept.join.Goals as goal

pub returns-in-Ok : goal.returns-in-Ok
returns-in-Ok c lines h =
    put_kept lines c.args.self.now.replica c.args.self.now.skipped h c.args.self.now.skipped c.args.piece.now c.in-Some.replica c.deliver.new.self (cc (c.in-Some.is))
    (elim c.in-Ok.ensures.same_run [ inl refused ↦ absurd cc | inr of_run ↦ of_run ]) c.in-Ok.ensures.joined.key c.in-Ok.ensures.log refl refl

pub returns-in-Err-OtherRun : goal.returns-in-Err-OtherRun
returns-in-Err-OtherRun c lines h =
    put_foreign lines c.args.self.now.replica c.args.self.now.skipped h _ c.args.piece.now c.in-Some.replica c.deliver.new.self (cc (c.in-Some.is))
    (c.in-Err-OtherRun.ensures.unchanged (cc (c.in-Err-OtherRun.field-0-is))) (c.in-Err-OtherRun.ensures.other_run.0 (cc (c.in-Err-OtherRun.field-0-is))) refl c.saturating_add-self.ensures

pub returns-in-Ok-replica_of : goal.returns-in-Ok-replica_of
returns-in-Ok-replica_of c lines h =
    put_first lines c.args.self.now.replica c.args.self.now.skipped h c.args.self.now.skipped c.args.piece.now c.in-Ok-replica_of.replica (cc (c.in-None.is)) c.in-Ok-replica_of.ensures.key c.in-Ok-replica_of.ensures.log refl refl
