use Rattle.std.proofs.Common.{◌∙◌, sym}
use Rattle.std.proofs.lemmas.Result.{err_from_is_err_and}
use Rattle.binary_decoder.proofs.CustomLaws.{step_behind, fails_behind, nothing_skipped, fails_from}
use Rattle.binary_decoder.proofs.sections.skip_customs.Goals as goal

pub returns-in_err-custom : goal.returns-in_err-custom
returns-in_err-custom c =
    let p = err_from_is_err_and c.from_residual-in_err-custom.result c.from_residual-in_err-custom.ensures.1 in
    rw (p.1, p.2) (fails_from c.in_err-custom.field-0.0 c.loop-cursor.cursor.rest.now c.args.cursor.now.rest.now c.loop-cursor.invariant (fails_behind c.in_err-custom.field-0.0 c.loop-cursor.cursor.rest.now c.expect.new.self.rest.now (sym c.loop-cursor-test.ensures) c.in_ok-expect.ensures.value c.in_err-custom.ensures))

pub loop-cursor-smaller : goal.loop-cursor-smaller
loop-cursor-smaller c = (step_behind c.loop-cursor.cursor.rest.now c.expect.new.self.rest.now c.custom.new.cursor.rest.now (sym c.loop-cursor-test.ensures) c.in_ok-expect.ensures.value c.in_ok-custom.ensures).1

pub loop-cursor-preserved : goal.loop-cursor-preserved
loop-cursor-preserved c = (step_behind c.loop-cursor.cursor.rest.now c.expect.new.self.rest.now c.custom.new.cursor.rest.now (sym c.loop-cursor-test.ensures) c.in_ok-expect.ensures.value c.in_ok-custom.ensures).0 ∙ c.loop-cursor.invariant

pub returns : goal.returns
returns c = sym c.loop-cursor.invariant ∙ nothing_skipped c.loop-cursor.cursor.rest.now (sym c.loop-cursor-test.ensures)
