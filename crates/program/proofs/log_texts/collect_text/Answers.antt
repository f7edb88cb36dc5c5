use Rattle.std.specs.String.{string_bytes}
use Rattle.program.specs.Made.{IsMade}
use Rattle.program.proofs.Listings.{listed_shown, listed_stops, text_listed}
use Rattle.program.proofs.log_texts.collect_text.Goals as goal

pub returns-in-Ok-text_of-clause-done : goal.returns-in-Ok-text_of-clause-done
returns-in-Ok-text_of-clause-done g c =
    listed_shown _ _ c.show.result (string_bytes c.in-Ok-text_of.text) c.as_bytes.result.now c.as_bytes.ensures.value
    (text_listed (g.R.Source.brings c.args.source.now) (g.R.Source.ended c.collect.new.source) c.collect.new.source (IsMade c.args.kind) c.in-Ok.replica (string_bytes c.in-Ok-text_of.text) c.in-Ok-text_of.ensures
    (λ replica is. c.in-Ok.ensures.gathered replica (cc is)) (λ is. c.in-Ok.ensures.none (cc is)))
    c.show.ensures.shown

pub returns-in-Ok-text_of-clause-stopped : goal.returns-in-Ok-text_of-clause-stopped
returns-in-Ok-text_of-clause-stopped g c =
    listed_stops _ _ c.show.result (string_bytes c.in-Ok-text_of.text) c.as_bytes.result.now c.as_bytes.ensures.value
    (text_listed (g.R.Source.brings c.args.source.now) (g.R.Source.ended c.collect.new.source) c.collect.new.source (IsMade c.args.kind) c.in-Ok.replica (string_bytes c.in-Ok-text_of.text) c.in-Ok-text_of.ensures
    (λ replica is. c.in-Ok.ensures.gathered replica (cc is)) (λ is. c.in-Ok.ensures.none (cc is)))
    _ _ _ c.show.ensures.error c.show.ensures.one_failed c.show.ensures.begun
