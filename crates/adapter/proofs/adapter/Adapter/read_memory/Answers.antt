use Rattle.std.proofs.Common.{◌≡◌, ◌∙◌, ℕ, List, true, false, ap, subst, rules, codes}
use Rattle.std.specs.Prelude.{IfOk, int_lt, pos}
use Rattle.std.specs.Int.{w64}
use Rattle.std.specs.Str.{bytes_eq}
use Rattle.std.proofs.lemmas.Int.{to_z-of_z}
use Rattle.event_core.specs.World.{world_of}
use Rattle.wasm_world.specs.SharedMemory.{image_of, shared_memory}
use Rattle.debug_views.specs.Values.{memory_bytes}
use Rattle.adapter_messages.specs.declared.reply.Reply.{Reply}
use Rattle.adapter.specs.Memory.{found_reply}
use Rattle.adapter.specs.State.{state_of}
use Rattle.adapter.proofs.Addresses.{of_same, read_at}
use Rattle.adapter.proofs.adapter.Adapter.read_memory.Goals as goal

pub returns-clause-shows : goal.returns-clause-shows
returns-clause-shows c =
    let memory = memory_bytes shared_memory (state_of c.args.self.now).debugger.world in
    let here : c.bytes-bytes.result.now ≡ memory_bytes shared_memory (world_of c.world.result.now) = of_same image_of c.bytes-bytes.result.now _ _ _ _ c.bytes-bytes.ensures c.space.ensures.fixed c.space.ensures.values in
    let whole : c.bytes-bytes.result.now ≡ memory = here ∙ ap (memory_bytes shared_memory) c.world.ensures.same in
    let is : bytes_eq c.args.reference.now (codes "memory") ≡ true = search rules in
    let below : int_lt c.args.offset (pos 0) ≡ false = rw (to_z-of_z w64 c.args.offset (search rules)) at c.if-offset-lt0.false in
    let start = rw (to_z-of_z w64 c.args.offset (search rules)) at c.unsigned_abs.ensures.value in
    subst (λ (x : Reply). IfOk c.found_reply.result (λ reply. reply ≡ x))
    (ap (λ (m : List ℕ). found_reply m c.unsigned_abs.result c.args.count) whole ∙ read_at memory c.args.reference.now c.args.offset c.unsigned_abs.result c.args.count is below start) c.found_reply.ensures
