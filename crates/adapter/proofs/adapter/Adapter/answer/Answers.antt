use Rattle.std.proofs.Common.{rules, refl, length, []}
use Rattle.std.specs.Int.{w64}
use Rattle.std.proofs.lemmas.Int.{to_z-of_z}
use Rattle.adapter_messages.specs.declared.body.Body.TheVariants as body
use Rattle.adapter_messages.specs.declared.request.Command.TheVariants.{Threads, StackTrace, Scopes, Variables, ReadMemory, Disassemble}
use Rattle.debug_views.specs.Values.{memory_bytes}
use Rattle.wasm_world.specs.SharedMemory.{shared_memory}
use Rattle.adapter.specs.Attends.{stack_reply, thread_by}
use Rattle.adapter.specs.Disassembly.{Disassembles}
use Rattle.adapter.specs.Frames.{threads_below}
use Rattle.adapter.specs.Memory.{memory_reply}
use Rattle.adapter.specs.Replies.{success}
use Rattle.adapter.specs.State.{state_of}
use Rattle.adapter.specs.Variables.{scopes_reply, variables_reply}
use Rattle.adapter.proofs.Keeping.{attends_shown, attends_told}
use Rattle.adapter.proofs.adapter.Adapter.answer.Goals as goal

pub returns-in-Threads-clause-attends : goal.returns-in-Threads-clause-attends
returns-in-Threads-clause-attends c =
    attends_shown c.show_threads.result (success (body.Threads (threads_below (length (state_of c.args.self.now).debugger.world.threads))) []) c.args.command.now Threads (state_of c.args.self.now) (state_of c.args.self.now) c.in-Threads.is refl c.show_threads.ensures.led (λ x h. h) c.show_threads.ensures.shows

pub returns-in-StackTrace-clause-attends : goal.returns-in-StackTrace-clause-attends
returns-in-StackTrace-clause-attends c =
    attends_shown c.show_stack.result (stack_reply (state_of c.args.self.now) c.in-StackTrace.start_frame c.in-StackTrace.levels (thread_by (state_of c.args.self.now) c.in-StackTrace.thread)) c.args.command.now (StackTrace c.in-StackTrace.thread c.in-StackTrace.start_frame c.in-StackTrace.levels) (state_of c.args.self.now) (state_of c.args.self.now) c.in-StackTrace.is refl c.show_stack.ensures.led (λ x h. h) c.show_stack.ensures.shows

pub returns-in-Scopes-clause-attends : goal.returns-in-Scopes-clause-attends
returns-in-Scopes-clause-attends c =
    attends_shown c.show_scopes.result (scopes_reply (state_of c.args.self.now) c.in-Scopes.frame) c.args.command.now (Scopes c.in-Scopes.frame) (state_of c.args.self.now) (state_of c.args.self.now) c.in-Scopes.is refl c.show_scopes.ensures.led (λ x h. h) c.show_scopes.ensures.shows

pub returns-in-Variables-clause-attends : goal.returns-in-Variables-clause-attends
returns-in-Variables-clause-attends c =
    attends_shown c.show_variables.result (variables_reply (state_of c.args.self.now) c.in-Variables.reference) c.args.command.now (Variables c.in-Variables.reference) (state_of c.args.self.now) (state_of c.args.self.now) c.in-Variables.is refl c.show_variables.ensures.led (λ x h. h) c.show_variables.ensures.shows

pub returns-in-ReadMemory-clause-attends : goal.returns-in-ReadMemory-clause-attends
returns-in-ReadMemory-clause-attends c =
    attends_shown c.read_memory.result (memory_reply (memory_bytes shared_memory (state_of c.args.self.now).debugger.world) c.in-ReadMemory.reference c.in-ReadMemory.offset c.in-ReadMemory.count) c.args.command.now (ReadMemory c.in-ReadMemory.reference c.in-ReadMemory.offset c.in-ReadMemory.count) (state_of c.args.self.now) (state_of c.args.self.now) c.in-ReadMemory.is refl c.read_memory.ensures.led (λ x h. h)
    (rw (to_z-of_z w64 c.in-ReadMemory.offset (search rules)) at c.read_memory.ensures.shows)

pub returns-in-Disassemble-clause-attends : goal.returns-in-Disassemble-clause-attends
returns-in-Disassemble-clause-attends c =
    let asked = c.in-Disassemble in
    attends_told c.disassemble.result (Disassembles (state_of c.args.self.now).debugger.code (record { reference = asked.reference; offset = asked.offset }) asked.instruction_offset asked.instruction_count) c.args.command.now (Disassemble asked.reference asked.offset asked.instruction_offset asked.instruction_count) (state_of c.args.self.now) (state_of c.args.self.now) asked.is refl (λ x h. h)
    (simp (to_z-of_z w64 asked.offset (search rules), to_z-of_z w64 asked.instruction_offset (search rules)) at c.disassemble.ensures)
