-- The joined log of a set of pieces, as the laws of replay see it.
use Rattle.replica.specs.declared.log.Log.{Log as GatheredLog}
use Rattle.replica.specs.Log.{entry_at, end_at}
use Rattle.replay_laws.specs.Log.{Log}

-- what the laws of replay see of a gathered log
abbrev pub gathered_log : GatheredLog → Log
gathered_log log = record { entry = entry_at log; end = end_at log }
