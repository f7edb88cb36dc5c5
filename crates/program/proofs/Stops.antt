-- How a command stops.
use Rattle.std.proofs.Common.{◌≡◌, ◌∙◌, ◌+◌, add-zero, ℕ, List, [], ◌++◌, Bool, true, false, Result, Ok, Err, OnOk, OnErr, IfErr, inl, inr, sym, subst, refl}
use Rattle.clap.specs.Words.{Text}
use Rattle.command_words.specs.Asked.{Asks, IsRequested, asks_why}
use Rattle.command_words.specs.declared.command.Asked.{Asked}
use Rattle.command_words.specs.declared.command.Asked.TheVariants as asked
use Rattle.command_words.specs.declared.requests.GatherForm.{GatherForm}
use Rattle.command_words.specs.declared.requests.Request.{Request}
use Rattle.command_words.specs.declared.requests.RecordRequest.{RecordRequest}
use Rattle.command_words.specs.declared.requests.HuntRequest.{HuntRequest}
use Rattle.command_words.specs.declared.requests.ReplayRequest.{ReplayRequest}
use Rattle.commands.specs.Records.{AnswerAt, IsRecordAnswer}
use Rattle.commands.specs.Hunts.{IsHuntAnswer}
use Rattle.commands.specs.Replays.{IsReplayedText, IsReplayRefused}
use Rattle.commands.specs.Debugs.{IsShownDebug, IsDebugStopped}
use Rattle.commands.specs.Adapts.{IsAdapted, IsAdapterStopped, source_failures_in, source_failures_of, output_failures_in, output_failures_of}
use Rattle.replica.specs.declared.skipping.Skipped.{Skipped}
use Rattle.debug_views.specs.declared.notes.Notes.{Notes}
use Rattle.command_words.specs.declared.requests.Request.TheVariants as request
use Rattle.commands.specs.declared.fault.Fault.{Fault}
use Rattle.commands.specs.declared.fault.Fault.TheVariants.{SinkFailed}
use Rattle.program.specs.Answers.{IsInForm, IsGatheredText, IsNotGathered, IsTextStopped, IsShown, IsSaid, IsDone, IsFailure, IsRefused, IsStopped}

-- what the words ask for, where that is a request
pub as_requested : (words : List Text) (found : Asked) (r : Request) (why : Bool) → found ≡ asked.Request r why → IsRequested words found → Asks words r × (why ≡ asks_why words)
as_requested words found r why is h = subst (IsRequested words) is h

-- nothing is said, whether the reason is asked for or not
pub none_said : (tells : List ℕ → Type 0) (why : Bool) → tells [] → IsSaid tells why []
none_said tells true h = h
none_said tells false h = h

-- the same report, where the same is asked for of where threads stand
pub replayed_as : (holds : List ℕ → List ℕ → Type 0) (r : ReplayRequest) (asked wanted : Notes) (text : List ℕ) → asked ≡ wanted → IsReplayedText holds r asked text → IsReplayedText holds r wanted text
replayed_as holds r asked wanted text same replayed = subst (λ (a : Notes). IsReplayedText holds r a text) same replayed

-- a dialogue or an exchange is asked for, which writes more than one text
abbrev pub is_dialogue : Request → Bool
is_dialogue (request.Debug r) = true
is_dialogue request.Adapter = true
is_dialogue r = false

module _ (holds : List ℕ → List ℕ → Type 0) (fails brought : List ℕ → Type 0) (ended broke : Type 0) (took : List ℕ → Type 0) (unheard unwritten unwritable : Type 0) where
  -- any other command stops where its text does
  text_stops : (asks : Request) (fault : Fault) → is_dialogue asks ≡ false
      → IsTextStopped (IsRefused holds fails brought ended broke asks) (IsDone holds fails brought ended broke (λ skipped. Unit {0}) (λ line. Unit {0}) (λ line. Unit {0}) asks) took unwritten unwritable fault
      → IsStopped holds fails brought ended broke took unheard unwritten unwritable asks fault
  text_stops (request.Debug r) fault other h = absurd (cc)
  text_stops request.Adapter fault other h = absurd (cc)
  text_stops asks fault other h = h

  -- what was to be shown stops where the output fails
  pub shown_stops : (asked asks : Request) (text items : List ℕ) {T : Type 0} (result : Result T Fault) → asked ≡ asks → is_dialogue asks ≡ false → text ≡ items → IsDone holds fails brought ended broke (λ skipped. Unit {0}) (λ line. Unit {0}) (λ line. Unit {0}) asks items
      → IfErr result (λ fault. fault ≡ SinkFailed) → OnErr result unwritable → OnErr result ((part rest : List ℕ) × (text ≡ part ++ rest) × took part)
      → IfErr result (IsStopped holds fails brought ended broke took unheard unwritten unwritable asked)
  shown_stops asked asks text items (Ok x) is other same done e u b = tt
  shown_stops asked asks text items (Err fault) is other same done e u b =
      subst (λ (r : Request). IsStopped holds fails brought ended broke took unheard unwritten unwritable r fault) (sym is)
      (text_stops asks fault other (inr (e, u, (text, b.0, b.1, subst (IsDone holds fails brought ended broke (λ skipped. Unit {0}) (λ line. Unit {0}) (λ line. Unit {0}) asks) (sym same) done, b.2, b.3))))

  -- what was to be shown is done where the output took it
  pub shown_done : (asked asks : Request) (text items : List ℕ) (counted : Skipped → Type 0) (said told : List ℕ → Type 0) {T : Type 0} (result : Result T Fault) → asked ≡ asks → text ≡ items
      → IsDone holds fails brought ended broke counted said told asks items → OnOk result (took text) → OnOk result (IsShown took (IsDone holds fails brought ended broke counted said told asked))
  shown_done asked asks text items counted said told (Ok x) is same done shown =
      subst (λ (q : Request). IsShown took (IsDone holds fails brought ended broke counted said told q)) (sym is) (text, subst (IsDone holds fails brought ended broke counted said told asks) (sym same) done, shown)
  shown_done asked asks text items counted said told (Err fault) is same done shown = tt

  -- so is a listing, of which nothing is said but the numbers of lines that are passed over
  pub gathered_done : (asked : Request) (skips : Bool) (form : GatherForm) (counted : Skipped → Type 0) (said told : List ℕ → Type 0) (unsaid : Type 0) {T : Type 0} (result : Result T Fault) → asked ≡ request.Gather skips form
      → (unsaid → said []) → OnOk result (IsShown took (IsGatheredText brought ended counted unsaid skips (IsInForm form))) → OnOk result (IsShown took (IsDone holds fails brought ended broke counted said told asked))
  gathered_done asked skips form counted said told unsaid (Ok x) is none done =
      subst (λ (q : Request). IsShown took (IsDone holds fails brought ended broke counted said told q)) (sym is) (done.0, told_of skips done.1, done.2)
    where
      told_of : (b : Bool) → IsGatheredText brought ended counted unsaid b (IsInForm form) done.0 → IsGatheredText brought ended counted (said []) b (IsInForm form) done.0
      told_of false h = (h.0, none h.1)
      told_of true h = h
  gathered_done asked skips form counted said told unsaid (Err fault) is none done = tt

  pub gathered_stops : (asked : Request) (skips : Bool) (form : GatherForm) {T : Type 0} (result : Result T Fault) → asked ≡ request.Gather skips form
      → IfErr result (IsTextStopped (IsNotGathered brought ended broke skips) (IsGatheredText brought ended (λ skipped. Unit {0}) (Unit {0}) skips (IsInForm form)) took unwritten unwritable)
      → IfErr result (IsStopped holds fails brought ended broke took unheard unwritten unwritable asked)
  gathered_stops asked skips form (Ok x) is stopped = tt
  gathered_stops asked skips form (Err fault) is stopped = subst (λ (q : Request). IsStopped holds fails brought ended broke took unheard unwritten unwritable q fault) (sym is) stopped

  -- a recording is done where its text was shown, and its line told
  pub record_done : (asked : Request) (r : RecordRequest) (answer : AnswerAt) (counted : Skipped → Type 0) (said told : List ℕ → Type 0) {T : Type 0} (result : Result T Fault) → asked ≡ request.Record r
      → IsRecordAnswer holds r answer → OnOk result (took answer.text) → OnOk result (said answer.told) → OnOk result (IsShown took (IsDone holds fails brought ended broke counted said told asked))
  record_done asked r answer counted said told (Ok x) is recorded shown line =
      subst (λ (q : Request). IsShown took (IsDone holds fails brought ended broke counted said told q)) (sym is) (answer.text, (answer, recorded, refl, line), shown)
  record_done asked r answer counted said told (Err fault) is recorded shown line = tt

  -- so is a hunt
  pub hunt_done : (asked : Request) (r : HuntRequest) (answer : AnswerAt) (counted : Skipped → Type 0) (said told : List ℕ → Type 0) {T : Type 0} (result : Result T Fault) → asked ≡ request.Hunt r
      → IsHuntAnswer holds r answer → OnOk result (took answer.text) → OnOk result (told answer.told) → OnOk result (IsShown took (IsDone holds fails brought ended broke counted said told asked))
  hunt_done asked r answer counted said told (Ok x) is hunted shown line =
      subst (λ (q : Request). IsShown took (IsDone holds fails brought ended broke counted said told q)) (sym is) (answer.text, (answer, hunted, refl, line), shown)
  hunt_done asked r answer counted said told (Err fault) is hunted shown line = tt

  -- what was done where the reason is asked for was done by the words that ask for it
  pub done_as_asked : (counted : Skipped → Type 0) (tells : List ℕ → Type 0) (why asked : Bool) (r : Request) → why ≡ asked
      → IsShown took (IsDone holds fails brought ended broke counted (IsSaid tells why) tells r) → IsShown took (IsDone holds fails brought ended broke counted (IsSaid tells asked) tells r)
  done_as_asked counted tells why asked r is done = subst (λ (b : Bool). IsShown took (IsDone holds fails brought ended broke counted (IsSaid tells b) tells r)) is done

  -- a replay that is refused stops
  pub replay_stops : (asked : Request) (r : ReplayRequest) (by_threads names offsets : Bool) (fault : Fault) → asked ≡ request.Replay r by_threads names offsets
      → IsReplayRefused holds fails r by_threads fault → unwritten → IsStopped holds fails brought ended broke took unheard unwritten unwritable asked fault
  replay_stops asked r by_threads names offsets fault is refused kept =
      subst (λ (q : Request). IsStopped holds fails brought ended broke took unheard unwritten unwritable q fault) (sym is) (inl (refused, kept))

  -- a dialogue is done where the output took its answers
  pub debug_done : (asked : Request) (r : ReplayRequest) (counted : Skipped → Type 0) (said told : List ℕ → Type 0) {T : Type 0} (result : Result T Fault) → asked ≡ request.Debug r
      → said [] → OnOk result (IsShownDebug brought ended holds took r) → OnOk result (IsShown took (IsDone holds fails brought ended broke counted said told asked))
  debug_done asked r counted said told (Ok x) is none shown =
      subst (λ (q : Request). IsShown took (IsDone holds fails brought ended broke counted said told q)) (sym is) (shown.0, (shown.1, none), shown.2)
  debug_done asked r counted said told (Err fault) is none shown = tt

  pub debug_stops : (asked : Request) (r : ReplayRequest) {T : Type 0} (result : Result T Fault) → asked ≡ request.Debug r
      → IfErr result (IsDebugStopped brought ended took holds fails (unheard × unwritten) broke unwritable r) → IfErr result (IsStopped holds fails brought ended broke took unheard unwritten unwritable asked)
  debug_stops asked r (Ok x) is stopped = tt
  debug_stops asked r (Err fault) is stopped = subst (λ (q : Request). IsStopped holds fails brought ended broke took unheard unwritten unwritable q fault) (sym is) stopped

  -- an exchange is done where the output took its answers
  pub adapter_done : (asked : Request) (counted : Skipped → Type 0) (said told : List ℕ → Type 0) {T : Type 0} (result : Result T Fault) → asked ≡ request.Adapter
      → said [] → OnOk result ((came text : List ℕ) × brought came × took text × IsAdapted came ended holds fails text) → OnOk result (IsShown took (IsDone holds fails brought ended broke counted said told asked))
  adapter_done asked counted said told (Ok x) is none done =
      subst (λ (q : Request). IsShown took (IsDone holds fails brought ended broke counted said told q)) (sym is) (done.1, ((done.0, done.2, done.4), none), done.3)
  adapter_done asked counted said told (Err fault) is none done = tt

  pub adapter_stops : (asked : Request) {T : Type 0} (result : Result T Fault) → asked ≡ request.Adapter
      → IfErr result (IsFailure broke unwritable) → IfErr result (λ fault. (came text : List ℕ) × brought came × took text × IsAdapterStopped came ended holds fails fault text)
      → IfErr result (IsStopped holds fails brought ended broke took unheard unwritten unwritable asked)
  adapter_stops asked (Ok x) is failed stopped = tt
  adapter_stops asked (Err fault) is failed stopped =
      subst (λ (q : Request). IsStopped holds fails brought ended broke took unheard unwritten unwritable q fault) (sym is) (failed, stopped.0, stopped.1, stopped.2, stopped.3, stopped.4)

-- what failed, by how many calls did
pub failure_in : {T : Type 0} (result : Result T Fault) (source_before source_now output_before output_now : ℕ)
    → source_now ≡ source_before + source_failures_in result → output_now ≡ output_before + output_failures_in result
    → IfErr result (IsFailure (source_now ≡ source_before + 1) (output_now ≡ output_before + 1))
failure_in (Ok x) a b c d source output = tt
failure_in (Err fault) a b c d source output = (
  (λ is. subst (λ (f : Fault). b ≡ a + source_failures_of f) is source),
  (λ is. subst (λ (f : Fault). d ≡ c + output_failures_of f) is output),
)

pub worked_in : {T : Type 0} (result : Result T Fault) (before now : ℕ) → now ≡ before + source_failures_in result → OnOk result (now ≡ before)
worked_in (Ok x) before now same = same ∙ add-zero before
worked_in (Err fault) before now same = tt

pub written_in : {T : Type 0} (result : Result T Fault) (before now : ℕ) → now ≡ before + output_failures_in result → OnOk result (now ≡ before)
written_in (Ok x) before now same = same ∙ add-zero before
written_in (Err fault) before now same = tt
