use Rattle.std.proofs.Common.{◌∙◌, sym}
use Rattle.std.specs.Prelude.{string_bytes}
use Rattle.event_core.specs.World.{world_of}
use Rattle.debugger.proofs.WriterTold.{none_told, told_alone}
use Rattle.debugger.proofs.written.writer_of.Goals as goal

pub returns-in-None : goal.returns-in-None
returns-in-None g c = c.new-text.ensures.bytes ∙ sym (none_told (g.L.ReadLog.log c.args.log.now) c.args.sought (world_of c.args.world.now).threads c.in-None.ensures.found)

pub returns-in_ok-write_if-in-Some : goal.returns-in_ok-write_if-in-Some
returns-in_ok-write_if-in-Some g c =
    told_alone (g.L.ReadLog.log c.args.log.now) c.args.sought c.requires.writer (world_of c.args.world.now) c.requires.one c.in-Some.event c.in-Some.ensures.found
    (string_bytes c.new-text.result) (string_bytes c.write_if.new.text) c.new-text.ensures.bytes c.in_ok-write_if-in-Some.ensures
