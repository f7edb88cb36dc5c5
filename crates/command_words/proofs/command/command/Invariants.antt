use Rattle.std.proofs.Common.{◌≡◌, false, drop}
use Rattle.clap.specs.Words.{app_of}
use Rattle.clap.specs.declared.builder.command.Command.TheViews.{out-Command}
use Rattle.command_words.specs.Tables.{with_rules, app_for}
use Rattle.command_words.proofs.command.command.Given as goal

-- the arguments so far, and those that are left
abbrev pub invariant-loop-row : goal.invariant-loop-row
invariant-loop-row l = record {
  app : with_rules (app_of l.command) (drop l.row-index l.rows) ≡ app_for l.fn.which;
  local : (out-Command l.command).has_globals ≡ false;
}
