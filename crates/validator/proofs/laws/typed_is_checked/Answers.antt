use Rattle.validator.proofs.Complete.{complete}
use Rattle.validator.proofs.laws.typed_is_checked.Goals as goal

pub returns : goal.returns
returns c = complete
