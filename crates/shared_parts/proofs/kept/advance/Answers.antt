use Rattle.std.proofs.Common.{arith, ◌∙◌, sym, ap, is_some, option_map}
use Rattle.std.specs.Sync.RwLock.{write_guard_value}
use Rattle.shared_parts.proofs.Writes.{writes_with_call, none_above}
use Rattle.shared_parts.proofs.kept.advance.Goals as goal

pub returns-in-None : goal.returns-in-None
returns-in-None g c =
    let space = g.S.ObjectSpace.meaning in
    let grown = c.requires.step.grown in
    let total = writes_with_call space g.row.I c.args.before.now c.args.latest.now grown.0 c.args.op.now grown.1 grown.2 in
    let none = none_above _ (sym c.requires.kept ∙ ap (λ o. is_some (option_map write_guard_value o)) c.in-None.is) in
    record { total = omega (arith, c.requires.total, total, none) }
