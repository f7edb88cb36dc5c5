use Rattle.binary_decoder.proofs.Verdict.{one_module_is}
use Rattle.binary_decoder.proofs.module.one_module.Goals as goal

pub returns : goal.returns
returns c = one_module_is
