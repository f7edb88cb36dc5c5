use Rattle.text_lines.proofs.SplitLemmas.{lines_are_of_text}
use Rattle.text_lines.proofs.laws.lines_are_of_their_text.Goals as goal

pub returns : goal.returns
returns c = lines_are_of_text
