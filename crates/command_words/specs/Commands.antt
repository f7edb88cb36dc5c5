-- The command lines that there are, as the parser has them.
use Rattle.std.specs.Prelude.{codes, true, Some, [], ◌∷◌}
use Rattle.clap.specs.Words.{App, Rule, Text, new_app, new_rule, with_rule, with_subcommand}
use Rattle.clap.specs.declared.builder.action.ArgAction.TheVariants.{SetTrue, Append}

-- a file that has to be named
abbrev pub file_rule : Text → Rule
file_rule name = record (new_rule name) { required = true }

-- `--NAME VALUE`, with a default
abbrev pub default_rule : Text → Text → Rule
default_rule name value = record (new_rule name) { long = Some name; value_names = 1; defaults = value ∷ [] }

-- `--NAME VALUE`
abbrev pub option_rule : Text → Rule
option_rule name = record (new_rule name) { long = Some name; value_names = 1 }

-- `--NAME`
abbrev pub flag_rule : Text → Rule
flag_rule name = record (new_rule name) { long = Some name; action = Some SetTrue }

-- `--NAME VALUE`, any number of times
abbrev pub repeated_rule : Text → Rule
repeated_rule name = record (new_rule name) { long = Some name; value_names = 1; action = Some Append }

-- a command that can say in words why it refuses
abbrev pub with_why : App → App
with_why a = with_rule a (flag_rule (codes "why"))

-- what is listed by threads, and what by objects
abbrev pub with_listings : App → App
with_listings a = with_rule (with_rule (with_rule (with_rule (with_rule a (flag_rule (codes "objects"))) (flag_rule (codes "contradictions"))) (flag_rule (codes "by-object"))) (option_rule (codes "only"))) (flag_rule (codes "shared"))

abbrev pub gather : App
gather = with_why (with_listings (with_rule (new_app (codes "gather")) (flag_rule (codes "skip"))))

-- which accesses are drawn
abbrev pub chart : App
chart = with_why (with_rule (with_rule (with_rule (with_rule (new_app (codes "chart")) (flag_rule (codes "skip"))) (option_rule (codes "only"))) (option_rule (codes "from"))) (option_rule (codes "to")))

abbrev pub check : App
check = with_why (with_rule (with_rule (new_app (codes "check")) (file_rule (codes "MODULE"))) (option_rule (codes "threads")))

-- a command on a module and a plan
abbrev pub on_program : App → App
on_program a = with_rule (with_rule a (file_rule (codes "MODULE"))) (file_rule (codes "PLAN"))

-- how long a recording is, and how its log is cut
abbrev pub with_sizes : App → App
with_sizes a = with_rule (with_rule (with_rule a (default_rule (codes "steps") (codes "1000000"))) (default_rule (codes "size") (codes "4096"))) (default_rule (codes "block") (codes "64"))

abbrev pub with_numbers : App → App
with_numbers a = with_sizes (with_rule a (default_rule (codes "run") (codes "0")))

-- how the threads of a recording go on
abbrev pub with_orders : App → App
with_orders a = with_rule (with_rule (with_rule (with_rule a (option_rule (codes "schedule"))) (flag_rule (codes "threads"))) (flag_rule (codes "random")))
    (default_rule (codes "timeouts") (codes "never"))

-- whether instructions have their offsets beside them
abbrev pub with_offsets : App → App
with_offsets a = with_rule a (flag_rule (codes "offsets"))

-- whether functions are shown, and the offsets of instructions
abbrev pub with_names : App → App
with_names a = with_offsets (with_rule a (flag_rule (codes "names")))

abbrev pub recording : App
recording = with_why (with_names (with_rule (with_numbers (with_orders (on_program (new_app (codes "record"))))) (flag_rule (codes "report"))))

-- which runs are caught
abbrev pub with_signs : App → App
with_signs a = with_rule (with_rule a (repeated_rule (codes "until"))) (repeated_rule (codes "unless"))

-- which numbers are tried, how many at once, whether by threads, and whether waits time out
abbrev pub with_range_of_runs : App → App
with_range_of_runs a = with_rule
    (with_rule (with_rule (with_rule (with_rule a (default_rule (codes "from") (codes "0"))) (default_rule (codes "runs") (codes "1000"))) (option_rule (codes "jobs"))) (flag_rule (codes "threads")))
    (default_rule (codes "timeouts") (codes "never"))

-- what is made of the run that is caught, and what is written
abbrev pub with_forms : App → App
with_forms a = with_rule (with_rule (with_rule a (flag_rule (codes "shrink"))) (default_rule (codes "print") (codes "pieces"))) (flag_rule (codes "list"))

-- what is made of it, what is written, and whether nothing is said meanwhile
abbrev pub with_quiet_forms : App → App
with_quiet_forms a = with_rule (with_forms a) (flag_rule (codes "quiet"))

abbrev pub hunting : App
hunting = with_why (with_quiet_forms (with_sizes (with_range_of_runs (with_signs (on_program (new_app (codes "hunt")))))))

-- a replay's files and its order
abbrev pub on_pieces : App → App
on_pieces a = with_rule (with_rule (on_program a) (file_rule (codes "PIECES"))) (option_rule (codes "order"))

abbrev pub replaying : App
replaying = with_why (with_names (with_rule (on_pieces (new_app (codes "replay"))) (flag_rule (codes "threads"))))

abbrev pub with_breaks : App → App
with_breaks a = with_rule (with_rule (with_rule a (option_rule (codes "place"))) (option_rule (codes "step"))) (option_rule (codes "write"))

-- which bytes are shown
abbrev pub with_range : App → App
with_range a = with_rule (with_rule a (default_rule (codes "from") (codes "0"))) (default_rule (codes "len") (codes "64"))

abbrev pub viewing : App
viewing = with_why (with_names (with_range (with_breaks (on_pieces (new_app (codes "view"))))))

-- which events have a line
abbrev pub with_events : App → App
with_events a = with_rule (with_rule (with_rule (with_rule a (option_rule (codes "only"))) (repeated_rule (codes "bytes"))) (option_rule (codes "from"))) (option_rule (codes "to"))

abbrev pub tracing : App
tracing = with_why (with_offsets (with_events (on_pieces (new_app (codes "trace")))))

abbrev pub debugging : App
debugging = with_why (on_pieces (new_app (codes "debug")))

abbrev pub adapting : App
adapting = with_why (new_app (codes "dap"))

-- the program before its commands, one of which is required
abbrev pub above : App
above = record { top = record (new_app (codes "wreplay")).top { has_version = true; subcommand_required = true }; subs = [] }

abbrev pub program : App
program = with_subcommand
    (with_subcommand
    (with_subcommand
    (with_subcommand (with_subcommand (with_subcommand (with_subcommand (with_subcommand (with_subcommand (with_subcommand above check.top) recording.top) hunting.top) replaying.top) viewing.top) tracing.top) debugging.top)
    adapting.top)
    gather.top)
    chart.top
