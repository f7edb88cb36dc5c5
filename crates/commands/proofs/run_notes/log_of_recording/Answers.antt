use Rattle.std.proofs.Common.{◌≡◌, ◌++◌, ap, ◌∙◌, subst, length, rules}
use Rattle.std.specs.Prelude.{option_to_list}
use Rattle.replica.specs.Log.{log_of}
use Rattle.replica.specs.LogOf.{Among, IsLogOf}
use Rattle.commands.proofs.Delivering.{all_left, one_less, none_left}
use Rattle.commands.proofs.run_notes.log_of_recording.Goals as goal

pub loop-piece-init : goal.loop-piece-init
loop-piece-init c = all_left c.args.recording.now.key c.in-Ok.pieces.items (log_of c.new-replica.result) (c.new-replica.ensures.key ∙ c.key.ensures) c.new-replica.ensures.log

pub loop-piece-preserved : goal.loop-piece-preserved
loop-piece-preserved c =
    one_less c.args.recording.now.key c.in-Ok.pieces.items c.loop-piece.pieces.items c.pop.new.self.items c.in-Some.piece (log_of c.loop-piece.replica) (log_of c.deliver.new.self) c.loop-piece.invariant
    (c.pop.ensures.items ∙ ap (λ r. c.pop.new.self.items ++ option_to_list r) c.in-Some.is) c.in-Ok-deliver.ensures.joined.key c.in-Ok-deliver.ensures.log

pub returns : goal.returns
returns c =
    let empty : length c.loop-piece.pieces.items ≡ 0 = search rules in
    record {
      same_key = c.loop-piece.invariant.same_key;
      is_log = subst (λ ps. IsLogOf (Among ps) (log_of c.loop-piece.replica)) c.in-Ok.ensures.pieces (none_left c.args.recording.now.key c.in-Ok.pieces.items c.loop-piece.pieces.items (log_of c.loop-piece.replica) c.loop-piece.invariant empty);
    }
