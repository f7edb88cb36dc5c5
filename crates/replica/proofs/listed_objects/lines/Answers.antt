use Rattle.std.proofs.Common.{List, ℕ, ◌++◌, ap, sym, ◌∙◌}
use Rattle.std.specs.String.{string_bytes}
use Rattle.replica.specs.Objects.{object_text}
use Rattle.replica.specs.declared.touch.ObjectTouch.{ObjectTouch}
use Rattle.replica.specs.Chosen.{ObjectsAsked, asked_of, lines}
use Rattle.replica.proofs.Agree.{lines_same}
use Rattle.replica.proofs.listed_objects.lines.Goals as goal

pub returns : goal.returns
returns c =
    let sorted = c.sort_touches.new.touches.items in
    let choice = asked_of c.args.choice in
    let text = object_text c.args.block in
    c.in_ok-put_lines.ensures ∙ ap (λ (a : ObjectsAsked). string_bytes c.new-text.result ++ lines a text c.as_slice-sorted.result.now) c.in_ok-chosen.ensures
    ∙ ap (λ (l : List ℕ). l ++ lines choice text c.as_slice-sorted.result.now) c.new-text.ensures.bytes
    ∙ ap (λ (ts : List ObjectTouch). lines choice text ts) c.as_slice-sorted.ensures.value ∙ sym (lines_same choice text c.args.touches.items sorted c.in_ok-sort_touches.ensures.same)
