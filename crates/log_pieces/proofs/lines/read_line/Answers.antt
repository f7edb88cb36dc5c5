use Rattle.std.proofs.Common.{List, ℕ, sym, subst, ◌∙◌}
use Rattle.hex.specs.declared.error.FromHexError.TheVariants.{OddLength}
use Rattle.std.specs.Prelude.{IfOk}
use Rattle.log_pieces.specs.Spelling.{Spells}
use Rattle.log_pieces.proofs.LineLaws.{line_is_read, no_line, no_bytes, no_spelling}
use Rattle.log_pieces.proofs.lines.read_line.Goals as goal

pub returns-then-not-are_lower_digits-clause-none : goal.returns-then-not-are_lower_digits-clause-none
returns-then-not-are_lower_digits-clause-none c _ _ =
    no_line c.args.line.now c.in-Some.digits.now c.in-Some.ensures (sym c.are_lower_digits.ensures ∙ c.if-not-are_lower_digits.true)

pub returns-in-Ok-clause-ok : goal.returns-in-Ok-clause-ok
returns-in-Ok-clause-ok c =
    line_is_read c.args.line.now c.in-Some.digits.now c.in-Ok.bytes.items c.decode.result c.in-Some.ensures (sym c.are_lower_digits.ensures ∙ c.if-not-are_lower_digits.false) c.in-Ok.ensures.ok
    (subst (λ (bytes : List ℕ). IfOk c.decode.result (Spells bytes)) c.deref.ensures.value c.decode.ensures.ok)

pub returns-in-Ok-clause-none : goal.returns-in-Ok-clause-none
returns-in-Ok-clause-none c fault e =
    no_spelling c.args.line.now c.in-Some.digits.now c.deref.result.now c.in-Some.ensures (rw c.deref.ensures.value c.in-Ok.ensures.ok) (c.decode.ensures.none fault e)

pub returns-in-Err-clause-none : goal.returns-in-Err-clause-none
returns-in-Err-clause-none c fault e = no_bytes c.args.line.now c.in-Some.digits.now OddLength c.in-Some.ensures (c.in-Err.ensures.none fault (cc e))
