-- Dialogues about the replay of a gathered log.
use Rattle.std.specs.Prelude.{ℕ, List}
use Rattle.wasm_types.specs.declared.modules.Module.{Module}
use Rattle.wasm_world.specs.Plans.{PlanValue}
use Rattle.replica.specs.declared.log.Log.{Log as GatheredLog}
use Rattle.wasm_replay.specs.Replays.{IsNotOpened, IsOfRun}
use Rattle.debugger.specs.Talks.{IsWhole, IsUnended, IsUntaken}
use Rattle.debugger.specs.Orders.{after_turns}
use Rattle.debugger.specs.Replies.{DebugAt, IsOpening, Replies}
use Rattle.debugger.specs.declared.debugging.DebugFault.{DebugFault}
use Rattle.debugger.specs.declared.debugging.DebugFault.TheVariants.{Replay, SourceFailed, SinkFailed}

-- Which threads take turns before the first line, what came, and whether nothing more comes.
module _ (m : Module) (plan : PlanValue) (log : GatheredLog) (order : List ℕ) (brought : List ℕ → Type 0) (ended : Type 0) where
  -- the answers to the lines that came, from where the turns lead from the opening world of the log's run
  pub record IsDialogue (text : List ℕ) : Type 0 where
    pub start : DebugAt
    pub opening : IsOpening m plan log start
    pub talk : IsWhole Replies brought (after_turns start order) ended text

  -- the same up to where no more lines could be had
  pub record IsCutOff (text : List ℕ) : Type 0 where
    pub start : DebugAt
    pub opening : IsOpening m plan log start
    pub talk : IsUnended Replies brought (after_turns start order) text

  -- the same up to a part of the last answer
  pub record IsCutShort (text : List ℕ) : Type 0 where
    pub start : DebugAt
    pub opening : IsOpening m plan log start
    pub talk : IsUntaken Replies brought (after_turns start order) ended text

  -- Which text was taken.
  module _ (took : List ℕ → Type 0) where
    abbrev pub IsShownDialogue : Type 0
    IsShownDialogue = (text : List ℕ) × IsDialogue text × took text

    -- when each fault is answered; `unused` says that nothing was read or written, `broke` that what brings lines
    -- failed, and `unwritable` that what takes answers did
    abbrev pub IsDialogueStopped : Type 0 → Type 0 → Type 0 → DebugFault → Type 0
    IsDialogueStopped unused broke unwritable (Replay u) = unused × IsNotOpened m plan log u.fault
    IsDialogueStopped unused broke unwritable SourceFailed = broke × IsOfRun m plan log × (text : List ℕ) × IsCutOff text × took text
    IsDialogueStopped unused broke unwritable SinkFailed = unwritable × IsOfRun m plan log × (text : List ℕ) × IsCutShort text × took text
