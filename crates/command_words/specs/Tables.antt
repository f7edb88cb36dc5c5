-- The arguments of commands, as the rows of tables name them.
use Rattle.std.specs.Prelude.{List, [], ◌∷◌, codes}
use Rattle.clap.specs.Words.{App, Rule, Text, with_rule, with_subcommand}
use Rattle.command_words.specs.Commands.{check, recording, hunting, replaying, viewing, tracing, debugging, adapting, gather, chart, file_rule, option_rule, default_rule, repeated_rule, flag_rule}
use Rattle.command_words.specs.declared.rows.ArgumentRow.{ArgumentRow}
use Rattle.command_words.specs.declared.rows.Subcommand.{Subcommand}
use Rattle.command_words.specs.declared.rows.Subcommand.TheVariants.{Check, Record, Hunt, Replay, View, Trace, Debug, Adapter, Gather, Chart}
use Rattle.command_words.specs.declared.rows.Takes.{Takes}
use Rattle.command_words.specs.declared.rows.Takes.TheVariants as takes

abbrev pub rule_taking : Text → Takes → Rule
rule_taking name takes.File = file_rule name
rule_taking name (takes.Value value) = option_rule name
rule_taking name (takes.ValueOr value default) = default_rule name default.now
rule_taking name (takes.Values value) = repeated_rule name
rule_taking name takes.Nothing = flag_rule name

abbrev pub rule_in : ArgumentRow → Rule
rule_in row = rule_taking row.name.now row.takes

-- a command with these arguments behind its own
abbrev pub with_rules : App → List ArgumentRow → App
with_rules a [] = a
with_rules a (row ∷ rows) = with_rules (with_rule a (rule_in row)) rows

abbrev pub name_for : Subcommand → Text
name_for Check = codes "check"
name_for Record = codes "record"
name_for Hunt = codes "hunt"
name_for Replay = codes "replay"
name_for View = codes "view"
name_for Trace = codes "trace"
name_for Debug = codes "debug"
name_for Adapter = codes "dap"
name_for Gather = codes "gather"
name_for Chart = codes "chart"

abbrev pub app_for : Subcommand → App
app_for Check = check
app_for Record = recording
app_for Hunt = hunting
app_for Replay = replaying
app_for View = viewing
app_for Trace = tracing
app_for Debug = debugging
app_for Adapter = adapting
app_for Gather = gather
app_for Chart = chart

-- a program with these commands behind its own
abbrev pub with_commands : App → List Subcommand → App
with_commands a [] = a
with_commands a (which ∷ others) = with_commands (with_subcommand a (app_for which).top) others
