use Rattle.std.proofs.Common.{inl, ap, sym, ◌∙◌}
use Rattle.std.proofs.lemmas.Bool.{leb-true}
use Rattle.event_core.specs.World.{world_of}
use Rattle.debugger.specs.Answers.{answer_text}
use Rattle.debugger.specs.At.{at_of}
use Rattle.debugger.proofs.ShownBytes.{shown_of}
use Rattle.debugger.proofs.debugger.Debugger.show.Goals as goal

pub returns-then-is_in_view : goal.returns-then-is_in_view
returns-then-is_in_view c =
    let inside = sym c.is_in_view.ensures ∙ c.if-is_in_view.true in
    inl (shown_of (at_of c.args.self.now) c.args.range (world_of c.world-world.result.now) (answer_text c.lines.result) c.bytes_text.result (ap (λ x. world_of x) c.world-world.ensures.same) (leb-true _ _ inside) c.lines.ensures c.bytes_text.ensures)
