use Rattle.std.proofs.Common.{is_ok, arith}
use Rattle.std.proofs.lemmas.Result.{err_from_is_err_and}
use Rattle.validator.proofs.Small.{past_imports, past_tables, past_memories, within_decides}
use Rattle.validator.proofs.limits.keeps_limits.Goals as goal

pub returns-in_err-are_imports_within : goal.returns-in_err-are_imports_within
returns-in_err-are_imports_within c = let p = err_from_is_err_and c.from_residual.result c.from_residual.ensures.1 in rw p.1 (past_imports c.args.«module».now c.as_slice.result.now c.as_slice.ensures c.in_err-are_imports_within.ensures)

pub returns-in_err-are_tables_within : goal.returns-in_err-are_tables_within
returns-in_err-are_tables_within c = let p = err_from_is_err_and c.from_residual-in_err-are_tables_within.result c.from_residual-in_err-are_tables_within.ensures.1 in rw p.1 (past_tables c.args.«module».now c.as_slice-2.result.now c.as_slice-2.ensures c.in_err-are_tables_within.ensures)

pub returns-in_err-are_memories_within : goal.returns-in_err-are_memories_within
returns-in_err-are_memories_within c = let p = err_from_is_err_and c.from_residual-in_err-are_memories_within.result c.from_residual-in_err-are_memories_within.ensures.1 in rw p.1 (past_memories c.args.«module».now c.as_slice-3.result.now c.as_slice-3.ensures c.in_err-are_memories_within.ensures)

pub returns : goal.returns
returns c =
    within_decides c.args.«module».now c.as_slice-bytes.result.now c.as_slice.result.now c.as_slice-2.result.now c.as_slice-3.result.now (is_ok c.are_functions_within.result)
    c.as_slice-bytes.ensures c.as_slice.ensures c.as_slice-2.ensures c.as_slice-3.ensures (omega arith) c.in_ok-are_imports_within.ensures c.in_ok-are_tables_within.ensures c.in_ok-are_memories_within.ensures c.are_functions_within.ensures
