use Rattle.wasm_record.proofs.DrawnOnce.{drawn_schedules_record}
use Rattle.wasm_record.proofs.laws.drawn_schedules_record.Goals as goal

pub returns : goal.returns
returns c = drawn_schedules_record
