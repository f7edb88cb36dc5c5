use Rattle.std.proofs.Common.{◌∙◌, ap, sym}
use Rattle.log_pieces.specs.Packed.{behind_read}
use Rattle.log_pieces.specs.Reading.{read_times, read_touch}
use Rattle.log_pieces.proofs.Passing.{after_head, entry_by_head, behind_entry}
use Rattle.log_pieces.proofs.packed.skip_entry.Goals as goal

pub returns-in-Some : goal.returns-in-Some
returns-in-Some c =
    c.skip_touches.ensures ∙ sym (behind_entry c.in-Some.head.0 (read_times c.in-Some.head.1 read_touch c.in-Some.rest.now))
    ∙ ap (λ h. behind_read (after_head h)) c.in-Some.ensures.head ∙ ap behind_read (sym (entry_by_head c.args.bytes.now))

pub returns-in-None : goal.returns-in-None
returns-in-None c = ap (λ h. behind_read (after_head h)) c.in-None.ensures.head ∙ ap behind_read (sym (entry_by_head c.args.bytes.now))
