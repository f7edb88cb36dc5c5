use Rattle.std.proofs.Common.{◌++◌, ap, sym, ◌∙◌}
use Rattle.std.specs.Prelude.{codes, string_bytes}
use Rattle.debug_views.specs.Standing.{place_text}
use Rattle.debug_views.specs.Trace.{standing_text}
use Rattle.debug_views.proofs.Behind.{line_more, two_more}
use Rattle.debug_views.proofs.trace_watch.put_standing.Goals as goal

pub returns-clause-text : goal.returns-clause-text
returns-clause-text c =
    let before = string_bytes c.args.text.now ++ c.args.line.now.bytes in
    let text = string_bytes c.put.new.text in
    let line = c.put.new.line.bytes in
    let space = line_more text line c.push_str.new.self.bytes (codes " ") c.push_str.ensures.bytes in
    two_more before (text ++ line) _ (place_text c.args.places.now c.in-Some.place) (codes " ") c.in_ok-put.ensures.text space ∙ ap (λ standing. before ++ standing_text c.args.places.now standing) (sym c.in-Some.is)
