use Rattle.wasm_world.proofs.Begun.{opens}
use Rattle.wasm_world.proofs.laws.opening_worlds_open.Goals as goal

pub returns : goal.returns
returns c = opens
