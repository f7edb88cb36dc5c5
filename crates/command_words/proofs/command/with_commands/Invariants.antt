use Rattle.std.proofs.Common.{◌≡◌, drop}
use Rattle.clap.specs.Words.{app_of}
use Rattle.command_words.specs.Tables.{with_commands}
use Rattle.command_words.proofs.command.with_commands.Given as goal

-- the commands so far, and those that are left
abbrev pub invariant-loop-which : goal.invariant-loop-which
invariant-loop-which l = with_commands (app_of l.all) (drop l.which-index l.subcommands) ≡ with_commands (app_of l.fn.program) l.subcommands
