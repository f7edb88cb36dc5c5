use Rattle.wasm_record.proofs.DrawnOnce.{drawn_runs_are_one}
use Rattle.wasm_record.proofs.laws.drawn_runs_are_one.Goals as goal

pub returns : goal.returns
returns c = drawn_runs_are_one
