use Rattle.std.proofs.Common.{◌≡◌, ◌/◌, ◌*◌, ◌^◌, ◌≤◌, ◌+◌, List, ℕ, length, take, ap, sym, ◌∙◌, arith}
use Rattle.std.specs.Int.{byte_len, to_le_bytes}
use Rattle.wasm_types.specs.Accesses.{access_width}
use Rattle.block_objects.specs.Access.{overwrite}
use Rattle.block_objects.specs.Objects.{Bytes, block_bytes}
use Rattle.memory_parts.specs.SharedCut.{with_part}
use Rattle.striped_memory.specs.Quarters.{quarter_of}
use Rattle.striped_memory.specs.MemoryParts.{blocks_held}
use Rattle.striped_memory.proofs.Ranges.{set_is}
use Rattle.striped_memory.proofs.Stores.{low_bytes, within, stored_there, stored_others}
use Rattle.striped_memory.proofs.part.BlockPart.store.Goals as goal

pub put-requires : goal.put-requires
put-requires c =
    let limits = c.args.self.now.limits in
    let h = within limits.block (c.args.object / 8) c.part_of-at.result.0 (quarter_of limits.block limits.capacity) c.part_of-at.result.1.now c.args.self.now.bytes.items c.part_of-at.ensures.within c.args.self.now.whole c.requires in
    omega (arith, h, c.place_of.ensures.place)

pub returns-clause-held : goal.returns-clause-held
returns-clause-held c =
    let p = c.args.self.now.limits.block in
    let n = quarter_of p c.args.self.now.limits.capacity in
    let k = c.args.object / 8 in
    let at = c.part_of-at.result.0 in
    let part = c.part_of-at.result.1.now in
    let xs = c.args.self.now.bytes.items in
    let fits = c.part_of-at.ensures.within in
    let all = c.args.self.now.whole in
    let items : c.put.new.bytes.items ≡ overwrite (k * 2 ^ p + at) part xs = c.put.ensures ∙ ap (λ m. overwrite (m + at) part xs) c.place_of.ensures.place in
    let bytes = c.to_le_bytes-bytes.result in
    let new : take c.bytes-len.result bytes ≡ to_le_bytes (access_width c.args.access) c.args.number =
    ap (λ m. take m bytes) (c.bytes-len.ensures.len ∙ ap byte_len c.width.ensures) ∙ ap (take (byte_len (access_width c.args.access))) c.to_le_bytes-bytes.ensures ∙ low_bytes c.args.access c.args.number in
    set_is (blocks_held p xs) (blocks_held p c.put.new.bytes.items) k (Bytes (with_part p c.args.address (to_le_bytes (access_width c.args.access) c.args.number) c.args.object (block_bytes p xs k)))
    (ap (λ (l : List ℕ). Bytes (block_bytes p l k)) items ∙ ap Bytes (stored_there p k at n part xs fits all c.requires ∙ c.part_of-at.ensures.part (block_bytes p xs k) ∙ ap (λ l. with_part p c.args.address l c.args.object (block_bytes p xs k)) new))
    (λ j ne. ap (λ (l : List ℕ). Bytes (block_bytes p l j)) items ∙ ap Bytes (stored_others p k at n part xs fits all c.requires j ne))
