-- What command lines ask for.
use Rattle.std.specs.Prelude.{◌≡◌, ◌⊎◌, ◌<◌, ◌≤◌, ◌+◌, ◌^◌, ◌||◌, ◌&&◌, ℕ, Bool, true, false, List, [], ◌∷◌, Option, Some, None, codes, map, option_map, unwrap_or}
use Rattle.std.specs.List.{list_all}
use Rattle.std.specs.Str.{bytes_eq}
use Rattle.clap.specs.Words.{Text, Row, all_of, first_of, subcommand_of, fault_of, IsAmong}
use Rattle.clap.specs.declared.error.kind.ErrorKind.TheVariants as kind
use Rattle.wasm_types.specs.declared.sizes.TheConstants.{MOST_STEPS}
use Rattle.command_words.specs.Words.{number_up_to, in_front, order_in, pair_in, may_begin}
use Rattle.command_words.specs.Commands.{program}
use Rattle.command_words.specs.declared.requests.Request.{Request}
use Rattle.command_words.specs.declared.requests.Request.TheVariants.{Gather, Check, Record, Hunt, Replay, View, Trace, Debug, Adapter}
use Rattle.command_words.specs.declared.requests.GatherForm.{GatherForm}
use Rattle.command_words.specs.declared.requests.GatherForm.TheVariants as written
use Rattle.command_words.specs.declared.requests.RecordOrder.{RecordOrder}
use Rattle.command_words.specs.declared.requests.RecordOrder.TheVariants as order
use Rattle.command_words.specs.declared.requests.RecordForm.{RecordForm}
use Rattle.command_words.specs.declared.requests.RecordForm.TheVariants as recorded
use Rattle.command_words.specs.declared.requests.RecordRequest.{RecordRequest}
use Rattle.command_words.specs.declared.requests.HuntForm.{HuntForm}
use Rattle.command_words.specs.declared.requests.HuntForm.TheVariants as form
use Rattle.command_words.specs.declared.requests.HuntRequest.{HuntRequest}
use Rattle.command_words.specs.declared.requests.ReplayRequest.{ReplayRequest}
use Rattle.command_words.specs.declared.requests.ThreadCount.{ThreadCount}
use Rattle.wasm_types.specs.declared.range.ByteRange.{ByteRange}
use Rattle.command_words.specs.declared.requests.ViewRequest.{ViewRequest}
use Rattle.command_words.specs.declared.requests.TraceRequest.{TraceRequest}
use Rattle.command_words.specs.declared.wanted.Sizes.{Sizes}
use Rattle.command_words.specs.declared.command.Asked.{Asked}
use Rattle.command_words.specs.declared.command.Asked.TheVariants as asked

-- the number of an option, at most so large
abbrev pub number_of : ℕ → Option Text → Option ℕ
number_of most None = None
number_of most (Some text) = number_up_to most text

-- no list is an empty one
abbrev pub order_of : Option Text → Option (List ℕ)
order_of None = Some []
order_of (Some text) = order_in text

-- no break is none, and another text must be two numbers
abbrev pub pair_of_option : ℕ → Option Text → Option (Option (ℕ × ℕ))
pair_of_option separator None = Some None
pair_of_option separator (Some text) = option_map Some (pair_in separator text)

abbrev pub is_text : Text → Option Text → Bool
is_text expected None = false
is_text expected (Some text) = bytes_eq text expected

-- the number is the size of a block, two to that power
abbrev pub IsBlockOf : Option ℕ → ℕ → Type 0
IsBlockOf size power = (size ≡ Some (2 ^ power)) × (6 ≤ power) × (power ≤ 12)

-- the flag is there
abbrev pub has_flag : Text → List Row → Bool
has_flag name rows = is_text (codes "true") (first_of name rows)

-- waits time out
abbrev pub times_out_in : List Row → Bool
times_out_in rows = is_text (codes "now") (first_of (codes "timeouts") rows)

-- the values that a parser found say that threads go on so, and in no other way: by a schedule, at once, or at random
abbrev pub IsOrderAsked : List Row → RecordOrder → Type 0
IsOrderAsked rows (order.Schedule path) = (first_of (codes "schedule") rows ≡ Some path.now) × (has_flag (codes "threads") rows ≡ false) × (has_flag (codes "random") rows ≡ false)
IsOrderAsked rows (order.Threads times_out) =
    (first_of (codes "schedule") rows ≡ None) × (has_flag (codes "threads") rows ≡ true) × (has_flag (codes "random") rows ≡ false) × (times_out ≡ times_out_in rows)
IsOrderAsked rows (order.Random times_out) =
    (first_of (codes "schedule") rows ≡ None) × (has_flag (codes "threads") rows ≡ false) × (has_flag (codes "random") rows ≡ true) × (times_out ≡ times_out_in rows)

-- the values that a parser found say what is written: the pieces, or the report, which may say where threads stand
abbrev pub IsRecordFormAsked : List Row → RecordForm → Type 0
IsRecordFormAsked rows recorded.Pieces = (has_flag (codes "report") rows ≡ false) × (has_flag (codes "names") rows ≡ false) × (has_flag (codes "offsets") rows ≡ false)
IsRecordFormAsked rows (recorded.Report names offsets) =
    (has_flag (codes "report") rows ≡ true) × (names ≡ has_flag (codes "names") rows) × (offsets ≡ has_flag (codes "offsets") rows)

-- the values that a parser found ask for this recording
pub record IsRecordAsked (rows : List Row) (r : RecordRequest) : Type 0 where
  pub has_module : first_of (codes "MODULE") rows ≡ Some r.«module».now
  pub has_plan : first_of (codes "PLAN") rows ≡ Some r.plan.now
  pub has_order : IsOrderAsked rows r.order
  pub has_run : number_of 18446744073709551615 (first_of (codes "run") rows) ≡ Some r.run
  pub has_steps : number_of MOST_STEPS (first_of (codes "steps") rows) ≡ Some r.steps
  pub has_size : number_of 4294967295 (first_of (codes "size") rows) ≡ Some r.size
  pub has_block : IsBlockOf (number_of 4294967295 (first_of (codes "block") rows)) r.block
  pub has_timeouts : (is_text (codes "never") (first_of (codes "timeouts") rows) || is_text (codes "now") (first_of (codes "timeouts") rows)) ≡ true
  pub has_form : IsRecordFormAsked rows r.form

-- the texts of an option that may be named any number of times
abbrev pub texts_of : Text → List Row → List Text
texts_of name rows = unwrap_or (all_of name rows) []

-- no number is none, and another must be from 1 to 256
abbrev pub IsJobsAsked : Option Text → Option ℕ → Type 0
IsJobsAsked None jobs = jobs ≡ None
IsJobsAsked (Some text) None = ⊥
IsJobsAsked (Some text) (Some jobs) = (number_up_to 256 text ≡ Some jobs) × (0 < jobs)

-- the values that a parser found name these numbers of runs: one or more, all below 2^64 - 1
pub record IsRangeOfRuns (rows : List Row) (from runs : ℕ) : Type 0 where
  pub has_from : number_of 18446744073709551615 (first_of (codes "from") rows) ≡ Some from
  pub has_runs : number_of 18446744073709551615 (first_of (codes "runs") rows) ≡ Some runs
  pub some : 0 < runs
  pub fits : from + runs < 2 ^ 64

-- the values that a parser found say what is written: pieces, a schedule, or a list, of which nothing is made small
abbrev pub IsFormAsked : List Row → HuntForm → Bool → Type 0
IsFormAsked rows form.Pieces shrinks = (has_flag (codes "list") rows ≡ false) × (is_text (codes "pieces") (first_of (codes "print") rows) ≡ true) × (shrinks ≡ has_flag (codes "shrink") rows)
IsFormAsked rows form.Schedule shrinks = (has_flag (codes "list") rows ≡ false) × (is_text (codes "schedule") (first_of (codes "print") rows) ≡ true) × (shrinks ≡ has_flag (codes "shrink") rows)
IsFormAsked rows form.List shrinks =
    (has_flag (codes "list") rows ≡ true) × (is_text (codes "pieces") (first_of (codes "print") rows) ≡ true) × (has_flag (codes "shrink") rows ≡ false) × (shrinks ≡ false)

-- the values that a parser found say whether runs are made by threads: one after the other, and written as pieces
abbrev pub IsByThreadsAsked : List Row → Bool → Type 0
IsByThreadsAsked rows true = (has_flag (codes "threads") rows ≡ true) × (first_of (codes "jobs") rows ≡ None) × (has_flag (codes "list") rows ≡ false) × (has_flag (codes "shrink") rows ≡ false)
    × (is_text (codes "pieces") (first_of (codes "print") rows) ≡ true)
IsByThreadsAsked rows false = has_flag (codes "threads") rows ≡ false

-- the values that a parser found say how long runs are, how their logs are cut, and when waits time out
pub record AreSizesAsked (rows : List Row) (s : Sizes) : Type 0 where
  pub has_timeouts : (is_text (codes "never") (first_of (codes "timeouts") rows) || is_text (codes "now") (first_of (codes "timeouts") rows)) ≡ true
  pub has_times_out : s.times_out ≡ times_out_in rows
  pub has_steps : number_of MOST_STEPS (first_of (codes "steps") rows) ≡ Some s.steps
  pub has_size : number_of 4294967295 (first_of (codes "size") rows) ≡ Some s.size
  pub has_block : IsBlockOf (number_of 4294967295 (first_of (codes "block") rows)) s.block

-- the values that a parser found ask for this hunt
pub record IsHuntAsked (rows : List Row) (r : HuntRequest) : Type 0 where
  pub has_module : first_of (codes "MODULE") rows ≡ Some r.«module».now
  pub has_plan : first_of (codes "PLAN") rows ≡ Some r.plan.now
  pub has_until : map (λ t. t.now) r.until.items ≡ texts_of (codes "until") rows
  pub has_unless : map (λ t. t.now) r.unless.items ≡ texts_of (codes "unless") rows
  pub can_begin : (list_all (λ t. may_begin t.now) r.until.items && list_all (λ t. may_begin t.now) r.unless.items) ≡ true
  pub has_range : IsRangeOfRuns rows r.range.from r.range.count
  pub has_jobs : IsJobsAsked (first_of (codes "jobs") rows) r.jobs
  pub has_timeouts : (is_text (codes "never") (first_of (codes "timeouts") rows) || is_text (codes "now") (first_of (codes "timeouts") rows)) ≡ true
  pub has_times_out : r.times_out ≡ times_out_in rows
  pub has_steps : number_of MOST_STEPS (first_of (codes "steps") rows) ≡ Some r.steps
  pub has_size : number_of 4294967295 (first_of (codes "size") rows) ≡ Some r.size
  pub has_block : IsBlockOf (number_of 4294967295 (first_of (codes "block") rows)) r.block
  pub has_form : IsFormAsked rows r.form r.shrinks
  pub has_by_threads : IsByThreadsAsked rows r.by_threads
  pub has_quiet : r.quiet ≡ has_flag (codes "quiet") rows

-- the values that a parser found name these files of a replay
pub record AreFilesAsked (rows : List Row) (r : ReplayRequest) : Type 0 where
  pub has_module : first_of (codes "MODULE") rows ≡ Some r.«module».now
  pub has_plan : first_of (codes "PLAN") rows ≡ Some r.plan.now
  pub has_pieces : first_of (codes "PIECES") rows ≡ Some r.pieces.now

-- the values that a parser found ask for this replay
pub record IsReplayAsked (rows : List Row) (r : ReplayRequest) : Type 0 where
  pub has_files : AreFilesAsked rows r
  pub has_order : order_of (first_of (codes "order") rows) ≡ Some r.order.items

-- and say whether the threads replay at once, which no order does
abbrev pub IsTurnsAsked : List Row → Bool → Type 0
IsTurnsAsked rows true = (first_of (codes "order") rows ≡ None) × (is_text (codes "true") (first_of (codes "threads") rows) ≡ true)
IsTurnsAsked rows false = is_text (codes "true") (first_of (codes "threads") rows) ≡ false

-- `T.N`, and `FROM+LEN`
abbrev pub IsCountAsked : Option Text → Option ThreadCount → Type 0
IsCountAsked text count = pair_of_option 46 text ≡ Some (option_map (λ c. (c.thread, c.count)) count)

abbrev pub IsRangeAsked : Option Text → Option ByteRange → Type 0
IsRangeAsked text range = pair_of_option 43 text ≡ Some (option_map (λ r. (r.from, r.len)) range)

-- the values that a parser found ask for this view
pub record IsViewAsked (rows : List Row) (v : ViewRequest) : Type 0 where
  pub has_replay : IsReplayAsked rows v.replay
  pub has_place : IsCountAsked (first_of (codes "place") rows) v.place
  pub has_step : IsCountAsked (first_of (codes "step") rows) v.step
  pub has_write : IsRangeAsked (first_of (codes "write") rows) v.write
  pub has_from : number_of 4294967295 (first_of (codes "from") rows) ≡ Some v.range.from
  pub has_len : number_of 4294967295 (first_of (codes "len") rows) ≡ Some v.range.len
  pub has_names : v.names ≡ has_flag (codes "names") rows
  pub has_offsets : v.offsets ≡ has_flag (codes "offsets") rows

-- the ranges `FROM+LEN` that texts write
abbrev pub ranges_of : List Text → Option (List (ℕ × ℕ))
ranges_of [] = Some []
ranges_of (text ∷ texts) = in_front (pair_in 43 text) (ranges_of texts)

-- the values that a parser found ask for this trace
pub record IsTraceAsked (rows : List Row) (t : TraceRequest) : Type 0 where
  pub has_replay : IsReplayAsked rows t.replay
  pub has_only : order_of (first_of (codes "only") rows) ≡ Some t.only.items
  pub has_bytes : ranges_of (texts_of (codes "bytes") rows) ≡ Some (map (λ r. (r.from, r.len)) t.bytes.items)
  pub has_from : IsCountAsked (first_of (codes "from") rows) t.from
  pub has_to : IsCountAsked (first_of (codes "to") rows) t.to
  pub has_offsets : t.offsets ≡ has_flag (codes "offsets") rows

-- a command and the values that a parser found say that this is written of a log: what each thread did, the objects that
-- are chosen, or a picture
abbrev pub IsGatherAsked : Text → List Row → GatherForm → Type 0
IsGatherAsked name rows (written.ByThread objects contradictions) =
    (name ≡ codes "gather") × (has_flag (codes "by-object") rows ≡ false) × (first_of (codes "only") rows ≡ None) × (has_flag (codes "shared") rows ≡ false)
    × (objects ≡ has_flag (codes "objects") rows) × (contradictions ≡ has_flag (codes "contradictions") rows)
IsGatherAsked name rows (written.ByObject only shared) =
    (name ≡ codes "gather") × (has_flag (codes "by-object") rows ≡ true) × (has_flag (codes "objects") rows ≡ false) × (has_flag (codes "contradictions") rows ≡ false)
    × (order_of (first_of (codes "only") rows) ≡ Some only.items) × (shared ≡ has_flag (codes "shared") rows)
IsGatherAsked name rows (written.Chart only from to) =
    (name ≡ codes "chart") × (order_of (first_of (codes "only") rows) ≡ Some only.items) × IsCountAsked (first_of (codes "from") rows) from × IsCountAsked (first_of (codes "to") rows) to

-- a command and its values ask for this
abbrev pub IsAsked : Text → List Row → Request → Type 0
IsAsked name rows (Gather skips form) = (skips ≡ has_flag (codes "skip") rows) × IsGatherAsked name rows form
IsAsked name rows (Check path plan) = (name ≡ codes "check") × (first_of (codes "MODULE") rows ≡ Some path.now) × (first_of (codes "threads") rows ≡ option_map (λ p. p.now) plan)
IsAsked name rows (Record r) = (name ≡ codes "record") × IsRecordAsked rows r
IsAsked name rows (Hunt r) = (name ≡ codes "hunt") × IsHuntAsked rows r
IsAsked name rows (Replay r by_threads names offsets) =
    (name ≡ codes "replay") × IsReplayAsked rows r × IsTurnsAsked rows by_threads × (names ≡ has_flag (codes "names") rows) × (offsets ≡ has_flag (codes "offsets") rows)
IsAsked name rows (View v) = (name ≡ codes "view") × IsViewAsked rows v
IsAsked name rows (Trace t) = (name ≡ codes "trace") × IsTraceAsked rows t
IsAsked name rows (Debug r) = (name ≡ codes "debug") × IsReplayAsked rows r
IsAsked name rows Adapter = name ≡ codes "dap"

-- the same of a command and its values that a parser found
abbrev pub IsFoundBy : Option (Text × List Row) → Request → Type 0
IsFoundBy None request = ⊥
IsFoundBy (Some p) request = IsAsked p.0 p.1 request

-- the words ask for this: the parser takes them, and finds this command and these values
pub record Asks (words : List Text) (request : Request) : Type 0 where
  pub taken : fault_of program words ≡ []
  pub found : IsFoundBy (subcommand_of program words) request

-- what a parser found asks for the reason of a refusal in words
abbrev pub why_of : Option (Text × List Row) → Bool
why_of None = false
why_of (Some p) = is_text (codes "true") (first_of (codes "why") p.1)

-- the words ask for the reason of a refusal in words
abbrev pub asks_why : List Text → Bool
asks_why words = why_of (subcommand_of program words)

-- the words ask for nothing that there is
abbrev pub AsksNothing : List Text → Type 0
AsksNothing words = (request : Request) → Asks words request → ⊥

-- the words ask for help or for the version
abbrev pub AsksForText : List Text → Type 0
AsksForText words = IsAmong kind.DisplayHelp (fault_of program words) ⊎ IsAmong kind.DisplayVersion (fault_of program words)

-- what is answered says what the words ask for
abbrev pub IsRequested : List Text → Asked → Type 0
IsRequested words (asked.Request request why) = Asks words request × (why ≡ asks_why words)
IsRequested words (asked.Text text) = AsksNothing words × AsksForText words
IsRequested words (asked.Unknown text) = AsksNothing words
IsRequested words (asked.Wrong text) = AsksNothing words

-- what is answered says what was found
abbrev pub IsFound : Option (Text × List Row) → Asked → Type 0
IsFound found (asked.Request request why) = IsFoundBy found request × (why ≡ why_of found)
IsFound found (asked.Text text) = ⊥
IsFound found (asked.Unknown text) = ⊥
IsFound found (asked.Wrong text) = (request : Request) → IsFoundBy found request → ⊥
