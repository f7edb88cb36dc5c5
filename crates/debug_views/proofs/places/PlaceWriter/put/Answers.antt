use Rattle.std.proofs.Common.{◌++◌, ap, ◌∙◌}
use Rattle.std.specs.Prelude.{codes, string_bytes}
use Rattle.std.specs.Fmt.{decimal}
use Rattle.binary_decoder.specs.Names.{function_name}
use Rattle.debug_views.specs.Standing.{title, offset_text, offset_if}
use Rattle.debug_views.proofs.Behind.{line_more, place_more}
use Rattle.debug_views.proofs.places.PlaceWriter.put.Goals as goal

pub returns-clause-text : goal.returns-clause-text
returns-clause-text c =
    let place = c.args.place in
    let form = c.args.self.now in
    let before = string_bytes c.args.text.now ++ c.args.line.now.bytes in
    let text = string_bytes c.put_title.new.text in
    let plus = c.push_str.new.self.bytes in
    let numbered = c.put_number.new.line.bytes in
    let offset = offset_text (offset_if form place) in
    let offset_is = c.put_offset.ensures.text ∙ ap (λ o. numbered ++ offset_text o) c.offset.ensures in
    place_more before text c.put_title.new.line.bytes plus numbered _ (title (function_name form.source place.function) place.function) (codes "+") (decimal place.instruction) offset
    c.in_ok-put_title.ensures.text c.push_str.ensures.bytes (c.put_number.ensures.text ∙ ap (λ n. plus ++ decimal n) c.from.ensures) (line_more text numbered c.put_offset.new.line.bytes offset offset_is)
