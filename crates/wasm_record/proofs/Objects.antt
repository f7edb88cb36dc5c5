-- A module's memory has no more objects than its profile, and so its recorded runs keep the rules of pieces.
use Rattle.std.proofs.Common.{◌≡◌, ℕ, ◌+◌, ◌*◌, ◌/◌, ◌^◌, ◌≤◌, Bool, List, map, Option, Some, None, sym, ap, subst, arith}
use Rattle.std.specs.Prelude.{option_map}
use Rattle.std.proofs.Math.Nat.{div-mul-le_self}
use Rattle.std.proofs.lemmas.Nat.{le-div, pow_pos}
use Rattle.std.proofs.lemmas.Option.{same_Some}
use Rattle.wasm_types.specs.declared.sizes.TheConstants.{PAGE_SIZE}
use Rattle.wasm_types.specs.declared.key.Profile.TheVariants.{Two}
use Rattle.wasm_types.specs.declared.key.RunKey.{RunKey}
use Rattle.wasm_types.specs.declared.modules.Module.{Module}
use Rattle.wasm_types.specs.declared.modules.MemoryType.{MemoryType}
use Rattle.block_objects.specs.Objects.{objects_in}
use Rattle.block_objects.specs.SharedMemory.{shared_memory}
use Rattle.block_objects.proofs.Laws.{memory_laws}
use Rattle.event_core.specs.Threads.{opening_thread}
use Rattle.event_core.specs.declared.pick.Pick.{Pick}
use Rattle.run_pieces.specs.Piece.{greatest_object}
use Rattle.run_pieces.specs.ReplayLaws.{IsWholeRun}
use Rattle.run_pieces.specs.RunLog.{run_log}
use Rattle.recorder.specs.ThreadLogAt.{RecordedAt, ThreadLogAt, log_of}
use Rattle.event_core.specs.Opening.{IsOpeningWorld}
use Rattle.workers.specs.Recording.{IsRecording}
use Rattle.run_pieces.specs.Keeps.{KeepsRules}
use Rattle.run_pieces.proofs.Keeping.{recorded_runs_keep_rules}
use Rattle.thread_words.specs.ThreadCode.{ThreadAt, thread_code}
use Rattle.thread_words.proofs.Machine.{threads_are_machines}
use Rattle.wasm_world.specs.Plans.{PlanValue}
use Rattle.wasm_types.specs.Memories.{capacity_by, first_memory}
use Rattle.wasm_world.specs.Opening.{WasmWorld, opening_threads, opening_memory, opening_world_of, limits_in}

few_pages : (block : ℕ) (memory : Option MemoryType) → capacity_by (Two block) memory ≤ 256
few_pages block None = omega arith
few_pages block (Some memory) = omega arith

few_objects : (block pages : ℕ) → pages ≤ 256 → objects_in block pages ≤ greatest_object (Two block) + 1
few_objects block pages few =
    let bytes = pages * PAGE_SIZE in
    let low : bytes / 2 ^ block * 2 ^ block ≤ bytes = div-mul-le_self bytes (2 ^ block) in
    let all : 2 * (bytes / 2 ^ block) ≤ 2 ^ 25 / 2 ^ block = le-div (2 * (bytes / 2 ^ block)) (2 ^ 25) (2 ^ block) (pow_pos block) (omega (arith, low, few)) in
    omega (arith, all)

module _ (m : Module) (plan : PlanValue) (block : ℕ) where
  fixed_is : (o : Option (List ThreadAt)) (w : WasmWorld) → option_map (λ threads. record { threads = map opening_thread threads; memory = opening_memory m (Two block) }) o ≡ Some w → w.memory.fixed ≡ limits_in m (Two block)
  fixed_is None w e = absurd cc
  fixed_is (Some threads) w e = sym (ap (λ (x : WasmWorld). x.memory.fixed) (same_Some _ w e))

  objects_fit : (w : WasmWorld) → opening_world_of m plan (Two block) ≡ Some w → shared_memory.objects w.memory.fixed ≤ greatest_object (Two block) + 1
  objects_fit w e =
      subst (λ limits. shared_memory.objects limits ≤ greatest_object (Two block) + 1) (sym (fixed_is (opening_threads m (Two block) 0 plan.threads) w e))
      (few_objects block (limits_in m (Two block)).capacity (few_pages block (first_memory m)))

  pub recording_keeps : (key : RunKey) (w : WasmWorld) (ps : List Pick) (threads : List ThreadLogAt) → key.profile ≡ Two block → opening_world_of m plan (Two block) ≡ Some w
      → IsWholeRun shared_memory thread_code w ps → log_of threads ≡ run_log shared_memory thread_code w ps → KeepsRules key threads
  recording_keeps key w ps threads is opens whole same =
      recorded_runs_keep_rules shared_memory thread_code memory_laws threads_are_machines w ps whole key
      (subst (λ profile. shared_memory.objects w.memory.fixed ≤ greatest_object profile + 1) (sym is) (objects_fit w opens)) threads same

  -- a recording by threads, whatever bounds it, keeps them
  pub threads_keep : (key : RunKey) (may : ℕ → ThreadAt → Bool) (steps : ℕ) (w : WasmWorld) (recorded : RecordedAt) → key.profile ≡ Two block → opening_world_of m plan (Two block) ≡ Some w
      → IsOpeningWorld thread_code w → IsRecording shared_memory thread_code may steps w recorded → KeepsRules key recorded.threads
  threads_keep key may steps w recorded is opens opening r = recording_keeps key w r.picks recorded.threads is opens (record { opening = opening; run = r.run }) r.log
