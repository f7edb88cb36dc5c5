use Rattle.std.proofs.Common.{◌≡◌, ◌≤◌, ℕ, sym, ap, subst, ◌∙◌, map, length, arith}
use Rattle.std.specs.Prelude.{Some, option_map}
use Rattle.std.proofs.lemmas.List.{length-map}
use Rattle.std.proofs.lemmas.Option.{slice_get-map}
use Rattle.wasm_types.specs.declared.modules.Module.{Module}
use Rattle.block_objects.specs.declared.limits.MemoryLimits.{MemoryLimits}
use Rattle.event_core.specs.Opening.{IsFresh}
use Rattle.integer_machine.specs.Sound.{thread_of}
use Rattle.thread_words.specs.ThreadCode.{thread_code}
use Rattle.wasm_types.specs.Memories.{block_power}
use Rattle.wasm_world.specs.Opening.{limits_in}
use Rattle.wasm_world.proofs.Begun.{all_fresh, as_many}
use Rattle.wasm_world.proofs.Lengths.{starts_within}
use Rattle.wasm_world.proofs.open.open_parts.Goals as goal

pub new-requires-clause-order : goal.new-requires-clause-order
new-requires-clause-order c =
    let limits : c.memory_limits-limits.result ≡ limits_in c.args.valid.now c.args.profile = c.memory_limits-limits.ensures ∙ ap (λ (m : Module). limits_in m c.args.profile) c.module-module.ensures.module in
    subst (λ (l : MemoryLimits). l.initial ≤ l.capacity) (sym limits)
    (starts_within c.args.valid.now c.args.profile c.module-module.ensures.typed.keeps_rules c.module-module.ensures.within c.requires.fits)

pub returns-clause-few : goal.returns-clause-few
returns-clause-few c =
    let limits : c.memory_limits-limits.result ≡ limits_in c.args.valid.now c.args.profile = c.memory_limits-limits.ensures ∙ ap (λ (m : Module). limits_in m c.args.profile) c.module-module.ensures.module in
    let low : block_power c.args.profile ≤ 12 = subst (λ (l : MemoryLimits). l.block ≤ 12) limits c.power-power.ensures.greatest in
    let many = as_many c.args.valid.now c.args.profile c.args.plan.now.threads (map thread_of c.in_ok-threads.threads.items) low c.in_ok-threads.ensures in
    omega (arith, many, length-map c.in_ok-threads.threads.items thread_of, c.requires.plan.at_most_16_threads)

pub returns-clause-fresh : goal.returns-clause-fresh
returns-clause-fresh c = λ t m at.
    let limits : c.memory_limits-limits.result ≡ limits_in c.args.valid.now c.args.profile = c.memory_limits-limits.ensures ∙ ap (λ (m : Module). limits_in m c.args.profile) c.module-module.ensures.module in
    let low : block_power c.args.profile ≤ 12 = subst (λ (l : MemoryLimits). l.block ≤ 12) limits c.power-power.ensures.greatest in
    subst (λ (l : MemoryLimits). IsFresh thread_code l (thread_of m)) (sym (c.in_ok-space.ensures.fixed ∙ limits))
    (all_fresh c.args.valid.now c.args.profile c.args.plan.now.threads (map thread_of c.in_ok-threads.threads.items) low c.in_ok-threads.ensures t (thread_of m) (slice_get-map thread_of c.in_ok-threads.threads.items t ∙ ap (option_map thread_of) at))
