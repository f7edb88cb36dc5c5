use Rattle.std.proofs.Common.{rules, sym}
use Rattle.std.proofs.lemmas.List.{take_all, length-take-le}
use Rattle.text_lines.proofs.quoted.first.Goals as goal

pub slice_bounds-result-end : goal.slice_bounds-result-end
slice_bounds-result-end c = sym (length-take-le 40 c.args.bytes.now (search rules))

pub returns-else-bytes-gt-MOST_SHOWN : goal.returns-else-bytes-gt-MOST_SHOWN
returns-else-bytes-gt-MOST_SHOWN c = sym (take_all 40 c.args.bytes.now (search rules))
