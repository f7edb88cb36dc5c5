use Rattle.std.proofs.Common.{◌≡◌}
use Rattle.std.specs.Prelude.{None}
use Rattle.std.specs.String.{string_bytes}
use Rattle.replica.specs.ObjectLines.{chart_asked}
use Rattle.replica.specs.Drawing.{no_pieces}
use Rattle.replica.proofs.Charted.{none_charted}
use Rattle.replica.proofs.charting.chart_of.Goals as goal

pub returns-in_ok-from_str-in-None : goal.returns-in_ok-from_str-in-None
returns-in_ok-from_str-in-None c pieces found =
    let none : c.args.replica.now ≡ None = cc (c.in-None.is) in
    let text : string_bytes c.in_ok-from_str-in-None.field-0 ≡ no_pieces = c.in_ok-from_str-in-None.ensures.ok in
    none_charted (chart_asked c.args.choice) pieces c.args.replica.now (string_bytes c.in_ok-from_str-in-None.field-0) none text found
