use Rattle.std.proofs.Common.{◌≡◌, ◌*◌, ℕ, List, box_value, ap, subst, sym, ◌∙◌}
use Rattle.block_objects.specs.Objects.{QueueAt, block_bytes, blocks_in}
use Rattle.block_objects.specs.Memory.{MemoryAt}
use Rattle.shared_parts.specs.Parts.{AreParts}
use Rattle.waiter_queues.specs.Shared.{shared_values}
use Rattle.striped_memory.specs.Quarters.{dealt}
use Rattle.striped_memory.specs.MemoryParts.{memory_lane, memory_fixed, memory_held}
use Rattle.striped_memory.proofs.Wholes.{in_limit, from_initial, to_capacity, united}
use Rattle.striped_memory.proofs.unite.unite_parts.Goals as goal

pub gather_blocks-requires-clause-limit : goal.gather_blocks-requires-clause-limit
gather_blocks-requires-clause-limit c =
    in_limit c.requires.0 c.requires.1 c.requires.2 (box_value c.args.parts.zero) c.requires.3.zero c.length_of-pages.result.0 c.length_of-pages.result.1 c.length_of-pages.ensures

pub quarter-count-requires : goal.quarter-count-requires
quarter-count-requires c =
    in_limit c.requires.0 c.requires.1 c.requires.2 (box_value c.args.parts.zero) c.requires.3.zero c.length_of-pages.result.0 c.length_of-pages.result.1 c.length_of-pages.ensures

pub of-requires-clause-from_initial : goal.of-requires-clause-from_initial
of-requires-clause-from_initial c =
    from_initial c.requires.0 c.requires.1 c.requires.2 (box_value c.args.parts.zero) c.requires.3.zero c.length_of-pages.result.0 c.length_of-pages.result.1 c.length_of-pages.ensures

pub of-requires-clause-to_capacity : goal.of-requires-clause-to_capacity
of-requires-clause-to_capacity c =
    to_capacity c.requires.0 c.requires.1 c.requires.2 (box_value c.args.parts.zero) c.requires.3.zero c.length_of-pages.result.0 c.length_of-pages.result.1 c.length_of-pages.ensures

pub of-requires-clause-in_limit : goal.of-requires-clause-in_limit
of-requires-clause-in_limit c =
    in_limit c.requires.0 c.requires.1 c.requires.2 (box_value c.args.parts.zero) c.requires.3.zero c.length_of-pages.result.0 c.length_of-pages.result.1 c.length_of-pages.ensures

pub of-requires-2 : goal.of-requires-2
of-requires-2 c = c.in_ok-queues.ensures.len ∙ c.quarter-count.ensures.four ∙ ap (λ (m : MemoryAt). blocks_in m.limits.block m.limits.capacity) (sym c.of.ensures)

pub returns : goal.returns
returns c =
    let blocks : c.of-2.result.blocks ≡ record { limits = c.length_of-pages.result.1.limits; pages = c.length_of-pages.result.0; bytes = c.in_ok-bytes.bytes.items } = c.of-2.ensures.blocks ∙ c.of.ensures in
    let parts = c.args.parts in
    let p = c.length_of-pages.result.1.limits.block in
    let own : List ℕ → ℕ → List ℕ = λ l. block_bytes p l in
    let blocks_there : (i : ℕ) → block_bytes p c.in_ok-bytes.bytes.items i ≡ dealt (own c.blocks_of-a.result.bytes.items) (own c.blocks_of-b.result.bytes.items) (own c.blocks_of-c.result.bytes.items) (own c.blocks_of-d.result.bytes.items) i = λ i.
    c.in_ok-bytes.ensures.blocks i
    ∙ ap (λ l. dealt (own l) (own c.deref-2.result.now) (own c.deref-3.result.now) (own c.deref-4.result.now) i) c.deref.ensures.value
    ∙ ap (λ l. dealt (own c.blocks_of-a.result.bytes.items) (own l) (own c.deref-3.result.now) (own c.deref-4.result.now) i) c.deref-2.ensures.value
    ∙ ap (λ l. dealt (own c.blocks_of-a.result.bytes.items) (own c.blocks_of-b.result.bytes.items) (own l) (own c.deref-4.result.now) i) c.deref-3.ensures.value
    ∙ ap (λ l. dealt (own c.blocks_of-a.result.bytes.items) (own c.blocks_of-b.result.bytes.items) (own c.blocks_of-c.result.bytes.items) (own l) i) c.deref-4.ensures.value in
    subst (λ (m : MemoryAt). AreParts memory_lane memory_fixed memory_held m.limits (shared_values m c.of-2.result.queues) parts) (sym blocks)
    (subst (λ (qs : List QueueAt). AreParts memory_lane memory_fixed memory_held c.length_of-pages.result.1.limits (shared_values (record { limits = c.length_of-pages.result.1.limits; pages = c.length_of-pages.result.0; bytes = c.in_ok-bytes.bytes.items }) qs) parts) (sym c.of-2.ensures.queues)
    (united c.requires.0 c.requires.1 parts c.requires.3 c.length_of-pages.result.0 c.blocks_of-a.result c.blocks_of-b.result c.blocks_of-c.result c.blocks_of-d.result c.queues_of-e.result c.queues_of-f.result c.queues_of-g.result c.length_of-pages.result.1
    c.length_of-pages.ensures c.blocks_of-a.ensures c.queues_of-e.ensures c.blocks_of-b.ensures c.queues_of-f.ensures c.blocks_of-c.ensures c.queues_of-g.ensures c.blocks_of-d.ensures
    c.in_ok-bytes.bytes.items c.in_ok-queues.queues
    blocks_there c.in_ok-queues.ensures.queues))
