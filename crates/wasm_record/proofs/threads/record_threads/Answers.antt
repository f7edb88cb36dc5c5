-- What is recorded is of the opening world by name, and keeps the rules of pieces.
use Rattle.std.proofs.Common.{◌≡◌, ℕ, List, sym, subst, length, ◌≤◌}
use Rattle.std.specs.Prelude.{Some}
use Rattle.block_objects.specs.SharedMemory.{shared_memory}
use Rattle.event_core.specs.Opening.{AllFresh, opening_world}
use Rattle.event_core.proofs.Opens.{opening_is_opening}
use Rattle.wasm_world.specs.Sound.{ThreadWithRoom, thread_of}
use Rattle.thread_words.specs.ThreadCode.{thread_code, thread_nanos}
use Rattle.wasm_world.specs.Shared.{shared_values}
use Rattle.wasm_types.specs.declared.key.Profile.TheVariants.{Two}
use Rattle.wasm_world.specs.Opening.{opening_world_of}
use Rattle.workers.specs.Recording.{IsRecording}
use Rattle.wasm_record.proofs.Objects.{threads_keep}
use Rattle.wasm_record.proofs.threads.record_threads.Goals as goal

pub record_memory-requires-clause-fresh : goal.record_memory-requires-clause-fresh
record_memory-requires-clause-fresh g c κs within =
    subst (λ (l : List ThreadWithRoom). AllFresh thread_code thread_of c.in_ok-parts.parts.space.blocks.limits l) (sym c.in_ok-machines.ensures) c.in_ok-parts.ensures.fresh

pub invariant_of-result : goal.invariant_of-result
invariant_of-result g c =
    let limits = c.in_ok-parts.parts.space.blocks.limits in
    let values = shared_values c.in_ok-parts.parts.space.blocks c.in_ok-parts.parts.space.queues in
    let machines = c.in_ok-machines.machines.items in
    let same = sym c.in_ok-machines.ensures in
    let few = subst (λ (l : List ThreadWithRoom). length l ≤ 16) same c.in_ok-parts.ensures.few in
    let fresh = subst (λ (l : List ThreadWithRoom). AllFresh thread_code thread_of limits l) same c.in_ok-parts.ensures.fresh in
    let opens = subst (λ (l : List ThreadWithRoom). opening_world_of c.args.valid.now c.args.plan.now (Two c.args.block) ≡ Some (opening_world thread_of limits values l)) same c.in_ok-parts.ensures.world in
    threads_keep c.args.valid.now c.args.plan.now c.args.block c.of-key.result _ _ (opening_world thread_of limits values machines) c.in_ok-recorded.recorded c.of-key.ensures.profile opens
    (opening_is_opening thread_code thread_of limits values machines few fresh) c.in_ok-recorded.ensures

pub returns-clause-records : goal.returns-clause-records
returns-clause-records g c =
    let parts = c.in_ok-parts.parts in
    let same = c.in_ok-machines.ensures in
    record {
      world = opening_world thread_of parts.space.blocks.limits (shared_values parts.space.blocks parts.space.queues) parts.threads.items;
      opens = c.in_ok-parts.ensures.world;
      recording = subst (λ (n : ℕ). IsRecording shared_memory thread_code (λ t s. g.T.Timer.can_expire t (thread_nanos s)) n (opening_world thread_of parts.space.blocks.limits (shared_values parts.space.blocks parts.space.queues) parts.threads.items) c.in_ok-recorded.recorded) c.min-most.ensures
          (subst (λ (l : List ThreadWithRoom). IsRecording shared_memory thread_code (λ t s. g.T.Timer.can_expire t (thread_nanos s)) c.min-most.result (opening_world thread_of parts.space.blocks.limits (shared_values parts.space.blocks parts.space.queues) l) c.in_ok-recorded.recorded) same c.in_ok-recorded.ensures);
    }
