use Rattle.std.proofs.Common.{◌∙◌, arith}
use Rattle.std.proofs.lemmas.Result.{err_from_is_err_and}
use Rattle.binary_decoder.proofs.Verdict.{judged_found, refused_when, large_when, first_when}
use Rattle.binary_decoder.proofs.module.decode.Goals as goal

pub returns-in_err-found-clause-refused : goal.returns-in_err-found-clause-refused
returns-in_err-found-clause-refused c =
    let p = err_from_is_err_and c.from_residual.result c.from_residual.ensures.1 in
    rw (p.1, p.2) (refused_when c.args.bytes.now c.in_err-found.field-0.0 c.in_err-found.ensures)

pub returns-in_err-found-clause-too_large : goal.returns-in_err-found-clause-too_large
returns-in_err-found-clause-too_large c =
    let p = err_from_is_err_and c.from_residual.result c.from_residual.ensures.1 in
    rw (p.1, p.2) (large_when c.args.bytes.now c.in_err-found.field-0.0 c.in_err-found.ensures)

pub returns-clause-found : goal.returns-clause-found
returns-clause-found c =
    judged_found c.args.bytes.now (record { source = c.from_vec.result; types = c.in_ok-found.found.types; imports = c.in_ok-found.found.imports; functions = c.in_ok-found.found.functions; tables = c.in_ok-found.found.tables; memories = c.in_ok-found.found.memories; globals = c.in_ok-found.found.after.globals; exports = c.in_ok-found.found.after.exports; start = c.in_ok-found.found.after.start; elements = c.in_ok-found.found.after.elements; bodies = c.in_ok-found.found.after.after.bodies; «data» = c.in_ok-found.found.after.after.data }) (c.from_vec.ensures ∙ c.in_ok-source.ensures.items) (omega arith) c.in_ok-found.ensures

pub returns-in_err-found-clause-first : goal.returns-in_err-found-clause-first
returns-in_err-found-clause-first c =
    let p = err_from_is_err_and c.from_residual.result c.from_residual.ensures.1 in
    rw (p.1, p.2) (first_when c.args.bytes.now c.in_err-found.field-0.0 (omega arith) c.in_err-found.ensures)
