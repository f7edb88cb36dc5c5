use Rattle.std.proofs.Common.{◌∙◌, arith}
use Rattle.std.specs.Prelude.{string_bytes}
use Rattle.event_core.specs.World.{world_of}
use Rattle.debugger.proofs.Lists.{standing_more}
use Rattle.debugger.proofs.standing.standing_text.Goals as goal

pub loop-thread-preserved : goal.loop-thread-preserved
loop-thread-preserved c =
    standing_more c.args.places.now (world_of c.args.world.now).threads (string_bytes c.loop-thread.text) (string_bytes c.write_standing.new.text) c.loop-thread.thread
    (omega (arith, c.loop-thread-test.true, c.count-thread-end.ensures.count)) c.in_ok-write_standing.ensures
    ∙ c.loop-thread.invariant
