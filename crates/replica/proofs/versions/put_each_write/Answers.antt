use Rattle.std.proofs.Common.{ap, ◌∙◌}
use Rattle.std.specs.String.{string_bytes}
use Rattle.replica.specs.Versions.{is_write, write_text}
use Rattle.replica.specs.Members.{has_thread}
use Rattle.replica.proofs.Put.{put_one, put_none}
use Rattle.replica.proofs.versions.put_each_write.Goals as goal
use Rattle.replica.proofs.versions.put_each_write.Goals.{then-touch+in_ok-put_write, else-touch}

pub loop-touch-preserved : goal.loop-touch-preserved
loop-touch-preserved c =
    let put = write_text c.args.version (has_thread c.args.threads.now) in
    elim c.if-touch.branch [
      | then-touch+in_ok-put_write w ↦
          put_one put is_write c.args.touches.now c.loop-touch.touch-index c.touch-item.result c.touch-item.result (string_bytes c.loop-touch.text) (string_bytes c.if-touch.text) _ c.loop-touch-test.true c.touch-item.is c.loop-touch.invariant w.if-touch.true
          (ap string_bytes w.text-is ∙ w.in_ok-put_write.ensures)
      | else-touch w ↦
          put_none put is_write c.args.touches.now c.loop-touch.touch-index c.touch-item.result c.touch-item.result (string_bytes c.loop-touch.text) (string_bytes c.if-touch.text) _ c.loop-touch-test.true c.touch-item.is c.loop-touch.invariant w.if-touch.false
          (ap string_bytes w.text-is)
    ]
