use Rattle.std.proofs.Common.{sym, ◌∙◌}
use Rattle.std.specs.Prelude.{string_bytes}
use Rattle.integer_machine.specs.Standing.{standing}
use Rattle.debug_views.proofs.Frames.{frame_more}
use Rattle.debug_views.proofs.notes.note_of.Goals as goal

pub loop-depth-preserved : goal.loop-depth-preserved
loop-depth-preserved c =
    frame_more c.args.places.now (standing c.args.thread.now.thread.state) (string_bytes c.loop-depth.text) (string_bytes c.write_frame.new.text) c.loop-depth.depth c.in-Some.place
    (sym c.in-Some.ensures) c.in_ok-write_frame.ensures
    ∙ c.loop-depth.invariant
