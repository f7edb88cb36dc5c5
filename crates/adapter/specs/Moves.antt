-- Motions of threads, and what is answered to them.
use Rattle.std.specs.Prelude.{◌≡◌, ◌⊎◌, ℕ, ◌==◌, true, List, [], ◌∷◌, Option, Some, None, codes, length, nat_lt, slice_get, if◌then◌else◌}
use Rattle.adapter_messages.specs.declared.body.Body.TheVariants.{Continued}
use Rattle.adapter_messages.specs.declared.event.StopReason.{StopReason}
use Rattle.adapter_messages.specs.declared.event.StopReason.TheVariants as reason
use Rattle.adapter_messages.specs.declared.request.Motion.{Motion}
use Rattle.adapter_messages.specs.declared.request.Motion.TheVariants as motion
use Rattle.adapter_messages.specs.declared.reply.Reply.{Reply}
use Rattle.replay_gate.specs.declared.breaks.Break.{Break}
use Rattle.replay_gate.specs.declared.breaks.Break.TheVariants as break
use Rattle.replay_session.specs.declared.legs.Leg.{Leg}
use Rattle.replay_session.specs.declared.gone.Ceased.{Ceased}
use Rattle.replay_session.specs.declared.gone.Ceased.TheVariants as ceased
use Rattle.replay_session.specs.declared.gone.Gone.{Gone}
use Rattle.replay_session.specs.declared.paused.Met.{Met}
use Rattle.replay_session.specs.declared.paused.Met.TheVariants as met
use Rattle.replay_session.specs.declared.paused.Paused.{Paused}
use Rattle.replay_session.specs.declared.paused.Paused.TheVariants as paused
use Rattle.debugger.specs.Replies.{DebugAt, GoesBackBy, GoesOut, GoesSteps, ReversesTo, RunsOn, gone_line, paused_line}
use Rattle.adapter.specs.declared.moving.Went.{Went}
use Rattle.adapter.specs.declared.moving.Went.TheVariants.{Steps, Turns, Back, Reversed, Nowhere, Wanting}
use Rattle.adapter.specs.Replies.{failure, put_out, stopped, success}
use Rattle.adapter.specs.State.{AdapterAt}

-- nothing moved, since memory could not be had
abbrev pub Wants : DebugAt → Went → DebugAt → Type 0
Wants s went u = (went ≡ Wanting) × (u ≡ s)

-- what came of a motion of a thread, and where it leads
abbrev pub Goes : Motion → (thread : ℕ) → DebugAt → Went → DebugAt → Type 0
Goes motion.Next thread s went u = (gone : Gone) × GoesSteps s thread 1 gone u × (went ≡ Steps gone)
Goes motion.StepIn thread s went u = (gone : Gone) × GoesSteps s thread 1 gone u × (went ≡ Steps gone)
Goes motion.StepOut thread s went u = (gone : Gone) × GoesOut s thread gone u × (went ≡ Steps gone)
Goes motion.Continue thread s went u = ((how : Paused) × RunsOn s u how × (went ≡ Turns how)) ⊎ Wants s went u
Goes motion.StepBack thread s went u = (GoesBackBy s 1 u × (went ≡ Back)) ⊎ Wants s went u
Goes motion.ReverseContinue thread s went u = ((found : Option Met) × ReversesTo s u found × (went ≡ Reversed found)) ⊎ Wants s went u
Goes motion.Pause thread s went u = (went ≡ Nowhere) × (u ≡ s)

-- ---- why threads stand

abbrev pub break_reason : Option Break → StopReason
break_reason None = reason.Breakpoint
break_reason (Some (break.Place thread place)) = reason.Breakpoint
break_reason (Some (break.Step thread steps)) = reason.Breakpoint
break_reason (Some (break.Write objects)) = reason.DataBreakpoint

-- at a break
abbrev pub met_reason : AdapterAt → Met → StopReason
met_reason s (met.Break index) = break_reason (slice_get s.debugger.breaks index)
met_reason s (met.Test index) = if nat_lt index s.functions then reason.FunctionBreakpoint else (if nat_lt index (length s.debugger.instructions) then reason.InstructionBreakpoint else reason.DataBreakpoint)

-- behind a step back, which may lead to the beginning
abbrev pub back_reason : List Leg → StopReason
back_reason [] = reason.Entry
back_reason (leg ∷ legs) = reason.Step

abbrev pub reverse_reason : AdapterAt → Option Met → StopReason
reverse_reason s None = reason.Entry
reverse_reason s (Some m) = met_reason s m

-- ---- what is answered, and told of all threads by the id of one

abbrev pub stopped_reply : StopReason → (id : ℕ) → Reply
stopped_reply reason id = success (Continued true) (stopped reason id ∷ [])

-- the threads did not come to what they were to go to, and a line says why
abbrev pub ceased_reply : List ℕ → (id : ℕ) → Reply
ceased_reply line id = success (Continued true) (put_out line ∷ stopped reason.Pause id ∷ [])

-- a thread that made no step since it was refused one did not move
abbrev pub steps_reply : (id : ℕ) → Gone → Ceased → Reply
steps_reply id gone ceased.All = stopped_reply reason.Step id
steps_reply id gone ceased.Done = ceased_reply (gone_line gone) id
steps_reply id gone (ceased.Fault f) = if gone.steps == 0 then failure (gone_line gone) else ceased_reply (gone_line gone) id

abbrev pub turns_reply : AdapterAt → (id : ℕ) → Paused → Reply
turns_reply s id (paused.Met m) = stopped_reply (met_reason s m) id
turns_reply s id paused.Finished = ceased_reply (paused_line paused.Finished s.debugger.breaks (length s.debugger.instructions)) id
turns_reply s id paused.Stuck = ceased_reply (paused_line paused.Stuck s.debugger.breaks (length s.debugger.instructions)) id
turns_reply s id (paused.Fault f) = ceased_reply (paused_line (paused.Fault f) s.debugger.breaks (length s.debugger.instructions)) id

abbrev pub no_memory : List ℕ
no_memory = codes "error: memory"

abbrev pub went_reply : AdapterAt → (id : ℕ) → Went → Reply
went_reply s id (Steps gone) = steps_reply id gone gone.ceased
went_reply s id (Turns how) = turns_reply s id how
went_reply s id Back = stopped_reply (back_reason s.debugger.legs) id
went_reply s id (Reversed found) = stopped_reply (reverse_reason s found) id
went_reply s id Nowhere = stopped_reply reason.Pause id
went_reply s id Wanting = failure no_memory

abbrev pub no_thread : List ℕ
no_thread = codes "error: no such thread"

-- a motion of the thread of an id, if there is one
abbrev pub MovesBy : Motion → (id : ℕ) → Option ℕ → AdapterAt → Reply → AdapterAt → Type 0
MovesBy kind id None s r u = (r ≡ failure no_thread) × (u ≡ s)
MovesBy kind id (Some thread) s r u = (went : Went) × Goes kind thread s.debugger went u.debugger × (u.functions ≡ s.functions) × (r ≡ went_reply u id went)
