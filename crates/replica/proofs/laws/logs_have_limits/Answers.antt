use Rattle.replica.specs.Claims.{has_limits}
use Rattle.replica.proofs.laws.logs_have_limits.Goals as goal

pub returns : goal.returns
returns c = has_limits
