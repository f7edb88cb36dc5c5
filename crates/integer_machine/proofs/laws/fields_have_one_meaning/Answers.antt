use Rattle.integer_machine.proofs.Meaning.{fields_mean_that}
use Rattle.integer_machine.proofs.laws.fields_have_one_meaning.Goals as goal

pub returns : goal.returns
returns c = fields_mean_that
