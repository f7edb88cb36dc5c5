-- What requests leave as it is: the module, and that the adapter suits.
use Rattle.std.proofs.Common.{◌≡◌, ℕ, ◌+◌, ◌≤◌, List, length, inl, inr, refl, sym, ap, ◌∙◌, subst, Option, Some, Result, Ok, Err, OnErr}
use Rattle.std.specs.Prelude.{IfOk, ℤ}
use Rattle.wasm_types.specs.declared.modules.Module.{Module}
use Rattle.wasm_replay.specs.declared.opener.Opener.{Opener}
use Rattle.wasm_replay.specs.Replays.{Suits as OpensSo}
use Rattle.wasm_world.specs.CodePlace.{CodePlace}
use Rattle.replay_gate.specs.declared.breaks.Break.{Break}
use Rattle.replay_gate.specs.declared.breaks.Stopped.{Stopped}
use Rattle.replay_gate.specs.declared.breaks.Stopped.TheVariants as stopped
use Rattle.debugger.specs.At.{at_of, CanOpen, IsOpenedAs}
use Rattle.debugger.specs.Replies.{DebugAt, IsLed, IsToldOf, Reaches, Replies, moved}
use Rattle.debugger.specs.declared.command.Command.{Command as DebugCommand}
use Rattle.debugger.specs.declared.command.Command.TheVariants.{Step, Event, Finish, Continue, Again, Back, Reverse, Goto, GotoWriter, Place, Function, Write, Watch, Delete, Threads, Where, Locals, Stack, Waits, Around, Object, Writer, Readers, Bytes, Way, Order, Help, Quit}
use Rattle.debugger.specs.declared.debugger.Debugger.{Debugger}
use Rattle.adapter_messages.specs.declared.request.Motion.{Motion}
use Rattle.adapter_messages.specs.declared.request.Command.{Command}
use Rattle.adapter_messages.specs.declared.request.InstructionBreakpoint.{InstructionBreakpoint}
use Rattle.adapter_messages.specs.declared.reply.Reply.{Reply}
use Rattle.adapter.specs.Attends.{Attends, Shows}
use Rattle.adapter.specs.Disassembly.{Disassembles, disassembly_reply}
use Rattle.adapter.specs.InstructionBreaks.{IsPlaceOf}
use Rattle.adapter.specs.Moves.{Goes, MovesBy, went_reply}
use Rattle.adapter.specs.State.{AdapterAt, Suits}
use Rattle.adapter.specs.declared.moving.Went.{Went}
use Rattle.adapter.specs.declared.adapter.Adapter.{Adapter}

-- ---- the module

same_code : (s u : DebugAt) → u ≡ moved s u.legs u.world → u.code ≡ s.code
same_code s u h = ap (λ (z : DebugAt). z.code) h

unchanged_code : (s u : DebugAt) → u ≡ s → u.code ≡ s.code
unchanged_code s u h = ap (λ (z : DebugAt). z.code) h

told_code : (how : Stopped) (breaks : List Break) (s : DebugAt) (text : List ℕ) (u : DebugAt) → IsToldOf how breaks s text u → u.code ≡ s.code
told_code (stopped.Break index) breaks s text u h = same_code s u h.same
told_code stopped.Finished breaks s text u h = unchanged_code s u h.1
told_code stopped.Stuck breaks s text u h = unchanged_code s u h.1
told_code (stopped.Fault f) breaks s text u h = unchanged_code s u h.1

reaches_code : (s : DebugAt) (thread place : ℕ) (text : List ℕ) (u : DebugAt) → Reaches s thread place text u → u.code ≡ s.code
reaches_code s thread place text u h = told_code h.stopped _ s text u h.told

-- no command of the debugger changes the module
pub replies_code : (c : DebugCommand) (s : DebugAt) (text : List ℕ) (u : DebugAt) → Replies c s text u → u.code ≡ s.code
replies_code (Step thread steps) s text u h = same_code s u h.moves.same
replies_code (Event thread events) s text u h = same_code s u h.moves.same
replies_code (Finish thread) s text u h = same_code s u h.moves.same
replies_code Continue s text u h = elim h [ inl r ↦ same_code s u r.moves.same | inr w ↦ unchanged_code s u w.1 ]
replies_code (Again passes) s text u h = same_code s u h.moves.same
replies_code (Back steps) s text u h = elim h [ inl r ↦ same_code s u r.moves.same | inr w ↦ unchanged_code s u w.1 ]
replies_code Reverse s text u h = elim h [ inl r ↦ same_code s u r.moves.same | inr w ↦ unchanged_code s u w.1 ]
replies_code (Goto thread place) s text u h = elim h [ inl r ↦ reaches_code s thread place text u r | inr w ↦ unchanged_code s u w.1 ]
replies_code (GotoWriter address) s text u h = elim h [
  | inl r ↦ elim r.goes [
    | inl e ↦ elim e.2 [ inl t ↦ reaches_code s (e.0).thread ((e.0).place + 1) text u t | inr w ↦ unchanged_code s u w.1 ]
    | inr n ↦ unchanged_code s u n.2
  ]
  | inr p ↦ unchanged_code s u p.1
]
replies_code (Function name n) s text u h = elim h [
  | inl r ↦ ap (λ (z : DebugAt). z.code) (r.2).more
  | inr o ↦ elim o [ inl x ↦ unchanged_code s u x.1 | inr w ↦ unchanged_code s u w.1 ]
]
replies_code (Place thread place) s text u h = elim h [ inl r ↦ ap (λ (z : DebugAt). z.code) r.more | inr w ↦ unchanged_code s u w.1 ]
replies_code (Watch k) s text u h = elim h [ inl r ↦ ap (λ (z : DebugAt). z.code) r.more | inr w ↦ unchanged_code s u w.1 ]
replies_code (Write range) s text u h = elim h [ inl r ↦ ap (λ (z : DebugAt). z.code) (r.2).more | inr w ↦ unchanged_code s u w.1 ]
replies_code Delete s text u h = ap (λ (z : DebugAt). z.code) h.1
replies_code Threads s text u h = unchanged_code s u h.1
replies_code (Where thread) s text u h = unchanged_code s u h.1
replies_code (Locals thread depth) s text u h = unchanged_code s u h.1
replies_code (Stack thread depth) s text u h = unchanged_code s u h.1
replies_code (Waits thread) s text u h = unchanged_code s u h.1
replies_code (Around thread n) s text u h = unchanged_code s u h.1
replies_code (Object object) s text u h = unchanged_code s u h.1
replies_code (Writer address) s text u h = unchanged_code s u h.1
replies_code (Readers address) s text u h = unchanged_code s u h.1
replies_code (Bytes range) s text u h = unchanged_code s u h.1
replies_code Way s text u h = unchanged_code s u h.1
replies_code Order s text u h = unchanged_code s u h.1
replies_code Help s text u h = unchanged_code s u h
replies_code Quit s text u h = absurd h

-- ---- that the adapter suits

pub opens_still : (d e : Debugger) → IsOpenedAs d e → CanOpen d → CanOpen e
opens_still d e same can = subst (λ (o : Opener). OpensSo o.valid.now o.plan.now o.profile) (sym same) can

pub suits_so : (a : Adapter) (d : Debugger) (n : ℕ) → Suits a → CanOpen d → (at_of d).code ≡ (at_of a.debugger).code → n ≤ length (at_of d).instructions → Suits (record a { debugger = d; functions = n })
suits_so a d n suits can code few = record { can_open = can; code = suits.code ∙ ap (λ (m : Module). m.source) (sym code); few = few }

-- behind a move
pub suits_moved : (a : Adapter) (d : Debugger) → Suits a → IsOpenedAs a.debugger d → at_of d ≡ moved (at_of a.debugger) (at_of d).legs (at_of d).world → Suits (record a { debugger = d })
suits_moved a d suits opens same =
    suits_so a d a.functions suits (opens_still a.debugger d opens suits.can_open) (same_code (at_of a.debugger) (at_of d) same)
    (subst (λ (ps : List CodePlace). a.functions ≤ length ps) (sym (ap (λ (z : DebugAt). z.instructions) same)) suits.few)

-- where nothing moved
pub suits_still : (a : Adapter) (d : Debugger) → Suits a → IsOpenedAs a.debugger d → at_of d ≡ at_of a.debugger → Suits (record a { debugger = d })
suits_still a d suits opens same =
    suits_so a d a.functions suits (opens_still a.debugger d opens suits.can_open) (unchanged_code (at_of a.debugger) (at_of d) same)
    (subst (λ (ps : List CodePlace). a.functions ≤ length ps) (sym (ap (λ (z : DebugAt). z.instructions) same)) suits.few)

-- ---- what is so where memory for a reply is wanting

pub err_so : {X E P : Type 0} (r : Result X E) → P → OnErr r P
err_so (Ok x) h = tt
err_so (Err e) h = h

pub moves_by : (kind : Motion) (id : ℕ) (o : Option ℕ) (thread : ℕ) (s : AdapterAt) (went : Went) (u : AdapterAt) → o ≡ Some thread → Goes kind thread s.debugger went u.debugger → u.functions ≡ s.functions
    → MovesBy kind id o s (went_reply u id went) u
moves_by kind id o thread s went u is goes functions = subst (λ (x : Option ℕ). MovesBy kind id x s (went_reply u id went) u) (sym is) (went, goes, functions, refl)

-- ---- what is shown

pub attends_shown : {E : Type 0} (r : Result Reply E) (reply : Reply) (command known : Command) (s u : AdapterAt) → command ≡ known → u ≡ s → IsLed s.debugger
    → ((x : Reply) → Shows reply s x u → Attends known s x u) → IfOk r (λ x. x ≡ reply) → IfOk r (λ x. Attends command s x u)
attends_shown (Ok x) reply command known s u is same led so h = subst (λ (c : Command). Attends c s x u) (sym is) (so x (led, (h, same)))
attends_shown (Err e) reply command known s u is same led so h = tt

-- the same of what is told at any world
pub attends_told : {E : Type 0} (r : Result Reply E) (P : Reply → Type 0) (command known : Command) (s u : AdapterAt) → command ≡ known → u ≡ s
    → ((x : Reply) → P x × (u ≡ s) → Attends known s x u) → IfOk r P → IfOk r (λ x. Attends command s x u)
attends_told (Ok x) P command known s u is same so h = subst (λ (c : Command). Attends c s x u) (sym is) (so x (h, same))
attends_told (Err e) P command known s u is same so h = tt

-- what is told around the instruction that is meant
pub tells : {E : Type 0} (r : Result Reply E) (m other : Module) (meant : InstructionBreakpoint) (offset : ℤ) (count : ℕ) (found : Option CodePlace) → other ≡ m → IsPlaceOf m meant found
    → IfOk r (λ x. x ≡ disassembly_reply other offset count found) → IfOk r (λ x. Disassembles m meant offset count x)
tells (Ok x) m other meant offset count found same is h = (found, is, h ∙ ap (λ (k : Module). disassembly_reply k offset count found) same)
tells (Err e) m other meant offset count found same is h = tt
