use Rattle.std.proofs.Common.{ap, ◌∙◌}
use Rattle.std.specs.Prelude.{option_copied}
use Rattle.text_lines.specs.Parts.{parts_by}
use Rattle.text_lines.proofs.PartsLemmas.{parts_none, parts_at}
use Rattle.text_lines.proofs.parts.Parts.take_part.Goals as goal

pub returns-in-None : goal.returns-in-None
returns-in-None c = ap (λ r. parts_by c.args.self.now.separator (option_copied r)) c.in_ok-bytes.was ∙ parts_none c.args.self.now.separator c.in_ok-bytes.bytes.now c.in-None.ensures

pub returns-in-Some : goal.returns-in-Some
returns-in-Some c =
    rw (c.split_at.ensures.front, c.split_at-in-Some.ensures.back) (ap (λ r. parts_by c.args.self.now.separator (option_copied r)) c.in_ok-bytes.was ∙ parts_at c.args.self.now.separator c.in_ok-bytes.bytes.now c.in-Some.at c.in-Some.ensures)
