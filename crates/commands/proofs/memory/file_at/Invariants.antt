-- The file is among those that are left.
use Rattle.std.proofs.Common.{◌≡◌, drop}
use Rattle.commands.specs.Memory.{file_at}
use Rattle.commands.proofs.memory.file_at.Given as goal

abbrev pub invariant-loop-file : goal.invariant-loop-file
invariant-loop-file l = file_at (drop l.file-index l.files) l.path ≡ file_at l.files l.path
