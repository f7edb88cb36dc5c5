use Rattle.std.proofs.Common.{◌∙◌, sym, arith, rules}
use Rattle.std.specs.Prelude.{string_bytes}
use Rattle.event_core.specs.World.{world_of}
use Rattle.debugger.proofs.ThreadEvents.{events_more}
use Rattle.debugger.proofs.touched.events_of.Goals as goal

pub loop-number-preserved : goal.loop-number-preserved
loop-number-preserved g c = record {
  written = events_more (g.L.ReadLog.log c.args.log.now) c.args.sought c.args.events (world_of c.args.world.now).threads (string_bytes c.loop-number.text) (string_bytes c.write_events.new.text) c.loop-number.number c.in-Some.places
      (omega (arith, c.loop-number-test.true, c.count-number-end.ensures.count)) (sym c.in-Some.is ∙ c.places.ensures) (search rules)
      ∙ c.loop-number.invariant.written;
  reads = c.in_ok-write_events.ensures.reads;
}
