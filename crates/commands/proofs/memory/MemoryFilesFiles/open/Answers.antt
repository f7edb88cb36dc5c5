use Rattle.std.proofs.Common.{◌∙◌, sym}
use Rattle.commands.proofs.MemoryStreams.{opened_at}
use Rattle.commands.proofs.memory.MemoryFilesFiles.open.Goals as goal

pub returns-in-Some-clause-opened : goal.returns-in-Some-clause-opened
returns-in-Some-clause-opened c = opened_at _ c.in-Some.file c.new.result (sym c.file_at.ensures ∙ c.in-Some.is) c.new.ensures.bytes c.new.ensures.none_failed c.new.ensures.fails_at
