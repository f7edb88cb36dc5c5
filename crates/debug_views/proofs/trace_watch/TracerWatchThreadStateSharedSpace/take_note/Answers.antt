use Rattle.std.proofs.Common.{refl, ap, sym, ◌∙◌, ◌++◌, append-nil}
use Rattle.std.specs.Prelude.{string_bytes}
use Rattle.std.proofs.lemmas.Bool.{cond-true, cond-false}
use Rattle.event_core.specs.World.{world_of}
use Rattle.debug_views.specs.Trace.{asked_with, seen_of}
use Rattle.debug_views.proofs.TraceLaws.{line_by, line_if}
use Rattle.debug_views.proofs.trace_watch.TracerWatchThreadStateSharedSpace.take_note.Goals as goal

pub returns-in_default-write_event : goal.returns-in_default-write_event
returns-in_default-write_event c = λ w looked.
    let tracer = c.args.self.now in
    let written = string_bytes tracer.text ++ tracer.line.bytes in
    let asked = asked_with tracer.places.now tracer.choice in
    let v = world_of c.args.world.now in
    let t = c.args.thread in
    let line = line_by asked t (seen_of w t) v ∙ ap (λ o. line_if asked t o v) (sym looked ∙ c.in-Some.is) ∙ cond-true _ _ _ (sym c.has_begun.ensures ∙ c.if-has_begun.true) in
    record {
      same = refl;
      before = λ h. h;
      is = λ _. c.in_default-write_event.ensures ∙ ap (λ l. written ++ l) (sym line);
    }

pub returns-else-has_begun : goal.returns-else-has_begun
returns-else-has_begun c = λ w looked.
    let tracer = c.args.self.now in
    let written = string_bytes tracer.text ++ tracer.line.bytes in
    let asked = asked_with tracer.places.now tracer.choice in
    let v = world_of c.args.world.now in
    let t = c.args.thread in
    let none = line_by asked t (seen_of w t) v ∙ ap (λ o. line_if asked t o v) (sym looked ∙ c.in-Some.is) ∙ cond-false _ _ _ (sym c.has_begun.ensures ∙ c.if-has_begun.false) in
    record { same = refl; before = λ h. h; is = λ _. sym (ap (λ l. written ++ l) none ∙ append-nil written) }
