use Rattle.std.proofs.Common.{map, sym, ap, ◌++◌, ◌∙◌}
use Rattle.std.specs.Prelude.{string_bytes}
use Rattle.event_core.specs.World.{world_of}
use Rattle.debug_views.specs.Threads.{view_of_thread}
use Rattle.debug_views.proofs.Texts.{thread_more}
use Rattle.debug_views.specs.Text.{thread_text}
use Rattle.debug_views.proofs.text.write_threads.Goals as goal

pub loop-thread-preserved : goal.loop-thread-preserved
loop-thread-preserved g c =
    thread_more (view_of_thread g.M.Machine.code) (map string_bytes c.args.notes.now) (world_of c.args.world.now).threads (string_bytes c.loop-thread.text) (string_bytes c.write_thread.new.text) c.loop-thread.thread c.in-Some.view
    (sym c.thread_view.ensures ∙ c.in-Some.is) (c.in_ok-write_thread.ensures ∙ ap (λ note. string_bytes c.loop-thread.text ++ thread_text c.loop-thread.thread c.in-Some.view note) c.note_at.ensures)
    ∙ c.loop-thread.invariant
